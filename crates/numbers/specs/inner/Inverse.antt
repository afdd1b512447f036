-- Quotients by a product.
use Rattle.std.specs.Prelude.{ℕ, ◌+◌, ◌*◌, ◌≤◌, ◌<◌}

-- m is the least whole number above b over d
pub record Inverse (b d m : ℕ) : Type 0 where
  pub least : b < m * d
  pub most : m * d ≤ b + d

-- Rounding a quotient (R6.1).
use Rattle.std.specs.Prelude.{ℕ, ◌+◌, ◌*◌, ◌/◌, ◌≤◌, ◌<◌}

-- n over d, rounded to the nearest whole number, halves up: the whole part of n/d + 1/2
unfoldable pub nearest : ℕ → ℕ → ℕ
nearest n d = (2 * n + d) / (2 * d)

-- r is within one half of n over d, and not one half below it: the nearest, halves up
pub record Nearest (n d r : ℕ) : Type 0 where
  pub low : 2 * (r * d) ≤ 2 * n + d
  pub high : 2 * n < 2 * (r * d) + d

-- Two coverages of one value.
use Rattle.std.specs.Prelude.{◌≡◌, ℕ, ◌*◌, ◌≤◌, ◌<◌}

-- n over d and n' over d' are the same share
pub record Equal (n d n' d' : ℕ) : Type 0 where
  pub cross : n * d' ≡ n' * d
  pub some : 0 < d
  pub some' : 0 < d'
  pub part : n ≤ d
  pub part' : n' ≤ d'

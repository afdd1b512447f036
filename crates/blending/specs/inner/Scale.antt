-- The scale of blends in lights that are not at even steps.
use Rattle.std.specs.Prelude.{List, ℕ, ◌*◌, ◌≤◌, ◌<◌}
use Rattle.lights.specs.inner.Palette.{reach_of}

-- m is the scale of the blends over d: it tells the stretch of a doubled light times d
pub record Scaled (p : List ℕ) (d m : ℕ) : Type 0 where
  pub some : 0 < m
  pub most : m * d ≤ reach_of p

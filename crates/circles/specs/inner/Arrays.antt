-- The arrays that hold heights.
use Rattle.std.specs.Prelude.{◌≡◌, List, ℕ, ◌+◌, ◌≤◌, length}
use Rattle.rings.specs.inner.Heights.{at}

-- an array of zeros, with room for the heights of a circle of radius R
pub record Zeros (hs : List ℕ) (R : ℕ) : Type 0 where
  pub room : R + 2 ≤ length hs
  pub each : (k : ℕ) → at hs k ≡ 0

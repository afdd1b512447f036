-- What lies between two circles, by their heights and by distances from the centre.
use Rattle.std.specs.Prelude.{List, ℕ, ◌*◌, ◌-◌, ◌≤◌, get_or}
use Rattle.limits.specs.Limits.{radius_most}
use Rattle.chords.specs.Circle.{chords}

-- element k of an array of heights
abbrev pub at : List ℕ → ℕ → ℕ
at hs k = get_or hs k 0

-- the coverage over 512 between circles with the heights Y and Z, at the distances a and b
unfoldable pub between : (ℕ → ℕ) → (ℕ → ℕ) → ℕ → ℕ → ℕ
between Y Z a b = chords Y a b - chords Z a b

-- heights fall from the centre outwards, and are at most those of radius R
pub record Heights (Y : ℕ → ℕ) (R : ℕ) : Type 0 where
  pub falls : (j k : ℕ) → j ≤ k → Y k ≤ Y j
  pub most : (k : ℕ) → Y k ≤ 256 * R

-- Y are the heights of a circle of radius R, and Z those of a circle of radius r within it
pub record Nested (Y Z : ℕ → ℕ) (R r : ℕ) : Type 0 where
  pub outer : Heights Y R
  pub inner : Heights Z r
  pub least : r ≤ R
  pub most : R ≤ radius_most
  pub within : (k : ℕ) → Z k ≤ Y k

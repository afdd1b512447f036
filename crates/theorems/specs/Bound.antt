-- One pixel under any touches of lawful shapes: how far the light of its byte may be from the exact blend, and what a whole cover leaves
-- (R10.3, R10.4). Touches are in the order in which they come.
use Rattle.std.specs.Prelude.{true, false, List, [], ◌∷◌, ◌++◌, ◌≡◌, ℕ, ◌*◌, ◌≤◌, ◌<◌}
use Rattle.numbers.specs.Fraction.{Frac, ◌≼◌, Within}
use Rattle.lights.specs.Lights.{light_of, fit}
use Rattle.bound.specs.Exact.{Touch, whole, byte_after, exact_after, margins_of, covers, covered, bound_of}
use Rattle.bound.specs.Sound.{SoundTouch, AllSound}

pub record Bound : Type 0 where
  -- the light of the byte is no further from the exact blend than the bound of the pixel (R10.3)
  pub close_to_exact : (lights : List ℕ) → fit lights ≡ true → (u : ℕ) (ts : List Touch) → u ≤ 255 → AllSound ts
      → Within (whole (light_of lights (byte_after lights u ts))) (exact_after lights (whole (light_of lights u)) ts) (bound_of lights ts)
  -- neither the exact blend nor the bound is over 0, with which a cross product would hold of anything (R10.3)
  pub exact-den : (lights : List ℕ) (u : ℕ) (ts : List Touch) → AllSound ts → 0 < (exact_after lights (whole (light_of lights u)) ts).den
  pub bound-den : (lights : List ℕ) (ts : List Touch) → AllSound ts → 0 < (bound_of lights ts).den
  -- the bound is never more than the margins of all touches (R10.4)
  pub bound_le : (lights : List ℕ) (ts : List Touch) → bound_of lights ts ≼ margins_of lights ts
  -- and is these where no touch covers the pixel whole (R10.4)
  pub bound_uncovered : (lights : List ℕ) (ts : List Touch) → covered ts ≡ false → bound_of lights ts ≡ margins_of lights ts
  -- of touches with a whole cover among them only those after it count (R10.4)
  pub bound_cover : (lights : List ℕ) (ts : List Touch) (t : Touch) (us : List Touch) → covers t ≡ true → bound_of lights (ts ++ t ∷ us) ≡ bound_of lights us
  -- and the byte is what they leave of its level, whatever was there before (R10.4)
  pub byte_cover : (lights : List ℕ) → fit lights ≡ true → (u : ℕ) (ts : List Touch) (t : Touch) (us : List Touch) → SoundTouch t → covers t ≡ true
      → byte_after lights u (ts ++ t ∷ us) ≡ byte_after lights t.level us
  -- right after a whole cover the bound is 0 (R10.4)
  pub none_after : (lights : List ℕ) (ts : List Touch) (t : Touch) → covers t ≡ true → bound_of lights (ts ++ t ∷ []) ≡ whole 0
  -- the byte is the level itself (R10.4)
  pub level_after : (lights : List ℕ) → fit lights ≡ true → (u : ℕ) (ts : List Touch) (t : Touch) → SoundTouch t → covers t ≡ true
      → byte_after lights u (ts ++ t ∷ []) ≡ t.level
  -- and the exact blend is the light of the level (R10.4)
  pub exact_after_lem : (lights : List ℕ) (e : Frac) (ts : List Touch) (t : Touch) → covers t ≡ true
      → (exact_after lights e (ts ++ t ∷ [])).num ≡ light_of lights t.level * (exact_after lights e (ts ++ t ∷ [])).den

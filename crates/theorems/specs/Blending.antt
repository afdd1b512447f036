-- Blending a level over a byte, in light (R6.1).
use Rattle.std.specs.Prelude.{true, List, ◌≡◌, ℕ, ◌+◌, ◌*◌, ◌-◌, ◌≤◌, ◌<◌}
use Rattle.numbers.specs.Fraction.{◌over◌, Within}
use Rattle.numbers.specs.Nearest as rounding
use Rattle.numbers.specs.Nearest.{nearest}
use Rattle.lights.specs.Lights.{light_of, fit, widest_gap, light_span}
use Rattle.blending.specs.Blend.{blended_light, blend, Nearest}
use Rattle.lights.specs.Codes.{codes}
use Rattle.blending.specs.CodeBlend.{code_blend}

pub record Blending : Type 0 where
  -- a blend is the code whose light is nearest to the blended light, which is never rounded; a tie goes to the higher code (R6.1)
  pub blend-nearest : (lights : List ℕ) (u v n d : ℕ) → Nearest (light_of lights) 255 (blended_light (light_of lights) u v n d) d (blend lights u v n d)
  -- and no other code is (R6.1)
  pub blend_only : (lights : List ℕ) (u v n d c : ℕ) → Nearest (light_of lights) 255 (blended_light (light_of lights) u v n d) d c → c ≡ blend lights u v n d
  -- its light is within half the widest gap of the blended light (R10.4)
  pub blend-within : (lights : List ℕ) → fit lights ≡ true → (u v n d : ℕ) → u ≤ 255 → v ≤ 255 → n ≤ d → 0 < d
      → Within (light_of lights (blend lights u v n d) over 1) (blended_light (light_of lights) u v n d over d) (widest_gap lights over 2)
  -- whole coverage leaves the level, and none the byte (R6.1)
  pub blend-whole : (lights : List ℕ) → fit lights ≡ true → (u v d : ℕ) → v ≤ 255 → 0 < d → blend lights u v d d ≡ v
  pub blend-none : (lights : List ℕ) → fit lights ≡ true → (u v d : ℕ) → u ≤ 255 → 0 < d → blend lights u v 0 d ≡ u
  -- only the quotient of n and d counts (R6.3)
  pub blend-same : (lights : List ℕ) (u v n d n' d' : ℕ) → 0 < d → 0 < d' → n ≤ d → n' ≤ d' → n * d' ≡ n' * d → blend lights u v n d ≡ blend lights u v n' d'
  -- lights equal to codes are fit, and with them a blend is (u·(d − n) + v·n)/d, rounded to the nearest whole number, halves up (R6.1)
  pub codes-fit : fit codes ≡ true
  pub blend-codes : (u v n d : ℕ) → u ≤ 255 → v ≤ 255 → n ≤ d → 0 < d → blend codes u v n d ≡ code_blend u v n d
  -- so it is with all lights at even steps (R6.1)
  pub blend-even : (lights : List ℕ) (a b : ℕ) → fit lights ≡ true → ((k : ℕ) → k ≤ 255 → light_of lights k ≡ a + b * k) → 0 < b
      → (u v n d : ℕ) → u ≤ 255 → v ≤ 255 → n ≤ d → 0 < d → blend lights u v n d ≡ code_blend u v n d
  -- a blend of codes is within half a level of the quotient (R10.4)
  pub code-within : (u v n d : ℕ) → 0 < d → Within (code_blend u v n d over 1) ((u * (d - n) + v * n) over d) (1 over 2)
  -- what is so rounded is within one half of the quotient and not one half below it, and no other number is (R6.1)
  pub nearest-is : (n d : ℕ) → 0 < d → rounding.Nearest n d (nearest n d)
  pub nearest_only : (n d r : ℕ) → rounding.Nearest n d r → r ≡ nearest n d
  -- the widest gap between codes is 1, and their span 255: the margin of a touch is half a level, and 255·s/(4·l) (R10.4)
  pub widest-codes : widest_gap codes ≡ 1
  pub span_codes : light_span codes ≡ 255

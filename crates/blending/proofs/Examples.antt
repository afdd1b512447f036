-- The halves of docs/RULES.md, from the definitions.
use mathlib.Core.List.{List}
use mathlib.Core.Path.{◌≡◌, ◌∙◌, refl}
use Prim.Native.Nat.{ℕ, suc, ◌+◌, ◌*◌, ◌≤◌, ◌<◌}
use native.Mathlib.Omega.{arith}
use Rattle.numbers.specs.Nearest.{nearest}
use Rattle.lights.specs.Lights.{light_of}
use Rattle.blending.specs.Blend.{blended_light, blend}
use Rattle.lights.specs.Codes.{codes}
use Rattle.blending.specs.CodeBlend.{code_blend}
use Rattle.lights.specs.inner.Fit.{Rising}
use Rattle.blending.proofs.Nearest.{nearest_unique, nearest_amid}
use Rattle.blending.proofs.Blend.{blend-nearest}
use Rattle.blending.proofs.EvenSteps.{blend-codes}

-- half of 255 on 0, and of 0 on 255: 127 1/2 is 128
pub half_codes : (blend codes 0 255 1 2 ≡ 128) × (blend codes 255 0 1 2 ≡ 128)
unfolding code_blend nearest
half_codes = (
  blend-codes 0 255 1 2 (omega arith) (omega arith) (omega arith) (omega arith) ∙ refl,
  blend-codes 255 0 1 2 (omega arith) (omega arith) (omega arith) (omega arith) ∙ refl,
)

-- with L(k) = k² + k half of L(255) is 32,640, and L(180) = 32,580 is the nearest to it
module _ (lights : List ℕ) (is : (k : ℕ) → k ≤ 255 → light_of lights k ≡ k * k + k) where
  rising : Rising (light_of lights)
  rising k h = rw (is k (omega arith), is (suc k) h) (omega arith)

  half_is : (u v : ℕ) → blended_light (light_of lights) u v 1 2 ≡ 65280 → blend lights u v 1 2 ≡ 180
  half_is u v e =
      nearest_unique (light_of lights) 255 (blended_light (light_of lights) u v 1 2) 2 (blend lights u v 1 2) 180 (blend-nearest lights u v 1 2)
      (nearest_amid (light_of lights) rising (blended_light (light_of lights) u v 1 2) 2 180 (omega arith) (omega arith) low high)
    where
      low : (j : ℕ) → suc j ≡ 180 → (light_of lights j + light_of lights 180) * 2 ≤ 2 * blended_light (light_of lights) u v 1 2
      low j q = let z : j ≡ 179 = omega arith in rw (z, e, is 179 (omega arith), is 180 (omega arith)) (omega arith)

      high : 180 < 255 → 2 * blended_light (light_of lights) u v 1 2 < (light_of lights 180 + light_of lights 181) * 2
      high _ = rw (e, is 180 (omega arith), is 181 (omega arith)) (omega arith)

  pub half_squares : (blend lights 0 255 1 2 ≡ 180) × (blend lights 255 0 1 2 ≡ 180)
  half_squares = (
    half_is 0 255 (omega (arith, is 0 (omega arith), is 255 (omega arith))),
    half_is 255 0 (omega (arith, is 0 (omega arith), is 255 (omega arith))),
  )

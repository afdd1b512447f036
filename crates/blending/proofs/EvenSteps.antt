-- Lights at even steps are blended as codes.
use mathlib.Core.Path.{◌≡◌, sym, ◌∙◌, ap}
use mathlib.Core.List.{List}
use Prim.Native.Nat.{ℕ, suc, ◌+◌, ◌*◌, ◌-◌, ◌≤◌, ◌<◌}
use native.Mathlib.Nat.{mul-le-mul_left, add-sub_of_le}
use native.Mathlib.Omega.{arith}
use Rattle.numbers.specs.Nearest as rounding
use Rattle.numbers.proofs.Nearest.{nearest-is}
use Rattle.lights.specs.Lights.{light_of}
use Rattle.blending.specs.Blend.{blended_light, blend}
use Rattle.lights.specs.Codes.{codes}
use Rattle.blending.specs.CodeBlend.{code_blend}
use Rattle.lights.specs.inner.Fit.{Fit, EvenSteps}
use Rattle.blending.proofs.CodeBlend.{code-byte}
use Rattle.blending.proofs.Nearest.{nearest_unique, nearest_amid}
use Rattle.blending.proofs.Blend.{blend-nearest}
use Rattle.lights.proofs.Codes.{code-light, codes_rise}

even-low : (a b d j o : ℕ) → 2 * (suc j * d) ≤ 2 * o + d → (a + b * j + (a + b * suc j)) * d ≤ 2 * (a * d + b * o)
even-low a b d j o h =
    let f : (2 * j + 1) * d ≤ 2 * o = omega arith in
    omega (arith, mul-le-mul_left b f)

even-high : (a b d c o : ℕ) → 0 < b → 2 * o < 2 * (c * d) + d → 2 * (a * d + b * o) < (a + b * c + (a + b * suc c)) * d
even-high a b d c o some h =
    let f : 2 * o + 1 ≤ (2 * c + 1) * d = omega arith in
    omega (arith, mul-le-mul_left b f)

code-near : (u v n d : ℕ) → 0 < d → rounding.Nearest (u * (d - n) + v * n) d (code_blend u v n d)
unfolding code_blend
code-near u v n d some = nearest-is (u * (d - n) + v * n) d some

-- in lights a + b·k of the codes k, which rise, blending is blending codes
pub blend-even : (lights : List ℕ) (a b : ℕ) → Fit lights → ((k : ℕ) → k ≤ 255 → light_of lights k ≡ a + b * k) → 0 < b
    → (u v n d : ℕ) → u ≤ 255 → v ≤ 255 → n ≤ d → 0 < d → blend lights u v n d ≡ code_blend u v n d
blend-even lights a b fit is step u v n d hu hv h some =
    nearest_unique (light_of lights) 255 (blended_light (light_of lights) u v n d) d (blend lights u v n d) (code_blend u v n d) (blend-nearest lights u v n d)
    (nearest_amid (light_of lights) fit.rising (blended_light (light_of lights) u v n d) d (code_blend u v n d) some small low high)
  where
    small : code_blend u v n d ≤ 255
    small = code-byte u v n d some h hu hv

    sum : blended_light (light_of lights) u v n d ≡ a * d + b * (u * (d - n) + v * n)
    sum = rw (is u hu, is v hv) (omega (arith, ap (λ (k : ℕ). a * k) (add-sub_of_le h)))

    near : rounding.Nearest (u * (d - n) + v * n) d (code_blend u v n d)
    near = code-near u v n d some

    low : (j : ℕ) → suc j ≡ code_blend u v n d → (light_of lights j + light_of lights (code_blend u v n d)) * d ≤ 2 * blended_light (light_of lights) u v n d
    low j e =
        rw (sum, sym e)
        (rw (is j (omega (arith, small)), is (suc j) (omega (arith, small)))
        (even-low a b d j (u * (d - n) + v * n) (rw e near.low)))

    high : code_blend u v n d < 255 → 2 * blended_light (light_of lights) u v n d < (light_of lights (code_blend u v n d) + light_of lights (suc (code_blend u v n d))) * d
    high q =
        rw (sum, is (code_blend u v n d) small, is (suc (code_blend u v n d)) q)
        (even-high a b d (code_blend u v n d) (u * (d - n) + v * n) step near.high)

-- so in lights at even steps
pub blend_steps : (lights : List ℕ) → Fit lights → EvenSteps (light_of lights)
    → (u v n d : ℕ) → u ≤ 255 → v ≤ 255 → n ≤ d → 0 < d → blend lights u v n d ≡ code_blend u v n d
blend_steps lights fit even =
    blend-even lights (light_of lights 0) (light_of lights 1 - light_of lights 0) fit even (omega (arith, fit.rising 0 (omega arith)))

pub blend-codes : (u v n d : ℕ) → u ≤ 255 → v ≤ 255 → n ≤ d → 0 < d → blend codes u v n d ≡ code_blend u v n d
blend-codes = blend-even codes 0 1 codes_rise (λ k h. code-light k h ∙ omega arith) (omega arith)

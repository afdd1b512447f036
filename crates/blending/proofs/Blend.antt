-- Laws of blending in light, and of the bound on what it rounds.
use mathlib.Core.Path.{◌≡◌, refl, ap, subst}
use mathlib.Core.Logic.{⊎_elim}
use mathlib.Core.List.{List}
use Prim.Native.Nat.{ℕ, zero, suc, ◌+◌, ◌*◌, ◌-◌, ◌≤◌, ◌<◌}
use native.Mathlib.Nat.{mul-le-mul_right, sub-zero, sub_self, add-sub_of_le}
use native.Mathlib.Omega.{arith}
use Rattle.numbers.specs.Fraction.{◌over◌, Within}
use Rattle.numbers.proofs.Order.{lt_or_le}
use Rattle.lights.specs.Lights.{light_of, widest_gap}
use Rattle.blending.specs.Blend.{blended_light, blend, Nearest}
use Rattle.lights.specs.inner.Fit.{Fit}
use Rattle.blending.proofs.Nearest.{nearest_unique, code-nearest, nearest_amid, low_of, high_of}
use Rattle.lights.proofs.Neighbours.{light_mono, gap_le}

-- what a blend is, by the words of its definition
pub blend-nearest : (lights : List ℕ) (u v n d : ℕ) → Nearest (light_of lights) 255 (blended_light (light_of lights) u v n d) d (blend lights u v n d)
unfolding blend
blend-nearest lights u v n d = code-nearest (light_of lights) 255 (blended_light (light_of lights) u v n d) d

-- a blend is a byte
pub blend-byte : (lights : List ℕ) (u v n d : ℕ) → blend lights u v n d ≤ 255
blend-byte lights u v n d = (blend-nearest lights u v n d).code

-- a weighted mean is at most what bounds both
pub weighted_le : (a b n d t : ℕ) → a ≤ t → b ≤ t → n ≤ d → a * (d - n) + b * n ≤ t * d
weighted_le a b n d t ha hb h = omega (arith, mul-le-mul_right (d - n) ha, mul-le-mul_right n hb, ap (λ (k : ℕ). t * k) (add-sub_of_le h))

module _ (lights : List ℕ) (fit : Fit lights) where
  -- a light itself has its own code
  own_code : (c n d : ℕ) → 0 < d → c ≤ 255 → n ≡ light_of lights c * d → Nearest (light_of lights) 255 n d c
  own_code c n d some h e =
      nearest_amid (light_of lights) fit.rising n d c some h
      (λ j q. omega (arith, mul-le-mul_right d (light_mono (light_of lights) fit.rising j c (omega arith) h)))
      (λ b. omega (arith, mul-le-mul_right d (fit.rising c b)))

  -- whole coverage gives the level, none keeps the byte
  pub blend-whole : (u v d : ℕ) → v ≤ 255 → 0 < d → blend lights u v d d ≡ v
  blend-whole u v d h some =
      nearest_unique (light_of lights) 255 (blended_light (light_of lights) u v d d) d (blend lights u v d d) v (blend-nearest lights u v d d)
      (own_code v (blended_light (light_of lights) u v d d) d some h (rw sub_self (omega arith)))

  pub blend-none : (u v d : ℕ) → u ≤ 255 → 0 < d → blend lights u v 0 d ≡ u
  blend-none u v d h some =
      nearest_unique (light_of lights) 255 (blended_light (light_of lights) u v 0 d) d (blend lights u v 0 d) u (blend-nearest lights u v 0 d)
      (own_code u (blended_light (light_of lights) u v 0 d) d some h (rw sub-zero (omega arith)))

  -- within half the widest gap of the blended light, which is not rounded
  module _ (u v n d : ℕ) (hu : u ≤ 255) (hv : v ≤ 255) (h : n ≤ d) (some : 0 < d) where
    first_le : light_of lights 0 * d ≤ blended_light (light_of lights) u v n d
    first_le =
        let a = light_mono (light_of lights) fit.rising 0 u (omega arith) hu in
        let b = light_mono (light_of lights) fit.rising 0 v (omega arith) hv in
        omega (arith, mul-le-mul_right (d - n) a, mul-le-mul_right n b, ap (λ (k : ℕ). light_of lights 0 * k) (add-sub_of_le h))

    last_ge : blended_light (light_of lights) u v n d ≤ light_of lights 255 * d
    last_ge = weighted_le (light_of lights u) (light_of lights v) n d (light_of lights 255) (light_mono (light_of lights) fit.rising u 255 hu (omega arith)) (light_mono (light_of lights) fit.rising v 255 hv (omega arith)) h

    above : (c : ℕ) → Nearest (light_of lights) 255 (blended_light (light_of lights) u v n d) d c → 2 * (light_of lights c * d) ≤ 2 * blended_light (light_of lights) u v n d + widest_gap lights * d
    above zero p = omega (arith, first_le)
    above (suc c) p =
        omega (arith, low_of (light_of lights) fit.rising (blended_light (light_of lights) u v n d) d (suc c) some p c refl, mul-le-mul_right d gap)
      where
        gap : light_of lights (suc c) ≤ light_of lights c + widest_gap lights
        gap = omega (arith, gap_le (light_of lights) 255 c p.code)

    below : (c : ℕ) → Nearest (light_of lights) 255 (blended_light (light_of lights) u v n d) d c → 2 * blended_light (light_of lights) u v n d ≤ 2 * (light_of lights c * d) + widest_gap lights * d
    below c p = ⊎_elim inside last (lt_or_le c 255)
      where
        inside : c < 255 → 2 * blended_light (light_of lights) u v n d ≤ 2 * (light_of lights c * d) + widest_gap lights * d
        inside b =
            let gap : light_of lights (suc c) ≤ light_of lights c + widest_gap lights = omega (arith, gap_le (light_of lights) 255 c b) in
            omega (arith, high_of (light_of lights) fit.rising (blended_light (light_of lights) u v n d) d c some p b, mul-le-mul_right d gap)

        last : 255 ≤ c → 2 * blended_light (light_of lights) u v n d ≤ 2 * (light_of lights c * d) + widest_gap lights * d
        last b =
            let e : 255 ≡ c = omega (arith, p.code) in
            subst (λ (k : ℕ). 2 * blended_light (light_of lights) u v n d ≤ 2 * (light_of lights k * d) + widest_gap lights * d) e (omega (arith, last_ge))

    pub blend-within : Within (light_of lights (blend lights u v n d) over 1) (blended_light (light_of lights) u v n d over d) (widest_gap lights over 2)
    blend-within =
        let p = blend-nearest lights u v n d in
        (omega (arith, above (blend lights u v n d) p), omega (arith, below (blend lights u v n d) p))

-- What the code finds is what is defined.
use mathlib.Core.Path.{◌≡◌, refl, sym, ◌∙◌, ap}
use mathlib.Core.Logic.{⊎_elim}
use Prim.Native.Nat.{ℕ, zero, suc, ◌+◌, ◌*◌, ◌-◌, ◌≤◌, ◌<◌, min}
use native.Mathlib.Nat.{mul-le-mul}
use native.Mathlib.Omega.{arith}
use Rattle.numbers.specs.inner.Order.{dist}
use Rattle.numbers.proofs.Order.{lt_or_le}
use Rattle.edges.specs.Edge.{by_zero, under_d}
use Rattle.edges.specs.inner.Strip.{strip, under_at, span_most, whole_most}
use Rattle.edges.proofs.Strip.{strip_in, strip-past}
use Rattle.edges.proofs.Under.{whole-level, whole_slanted, at_level, at_slanted}
use Rattle.edges.proofs.Edge.{at_le}

-- a strip is one product
pub found-strip : (h p : ℕ) {q : ℕ} → q ≡ min p h → q * (2 * p - q) ≡ strip h p
found-strip h p {q} e = ⊎_elim low high (lt_or_le p h)
  where
    low : p < h → q * (2 * p - q) ≡ strip h p
    low g =
        let k : q ≡ p = omega arith in
        let t : 2 * p - p ≡ p = omega arith in
        rw (k, t) (sym (strip_in h p (omega arith)))

    high : h ≤ p → q * (2 * p - q) ≡ strip h p
    high g =
        let k : q ≡ h = omega arith in
        let t : 2 * p - h ≡ h + 2 * (p - h) = omega arith in
        rw (k, t) (omega (arith, strip-past h p g))

-- at most the greatest whole
pub whole-most : (h k : ℕ) → h ≤ span_most → k ≤ span_most → under_d h k ≤ whole_most
whole-most h zero p q = omega (arith, whole-level h)
whole-most h (suc k) p q = omega (arith, whole_slanted h (suc k) (omega arith), mul-le-mul p q)

module _ (h from to z : ℕ) (wide : h ≤ span_most) (high : dist from to ≤ span_most) where
  under_most : under_at h from to z ≤ whole_most
  under_most = omega (arith, at_le h from to z, whole-most h (dist from to) wide high)

  pub found-level : {left r : ℕ} → from ≡ to → left ≡ from - h * z → r ≡ min left h → (r ≡ under_at h from to z) × (r ≤ whole_most)
  found-level {r = r} e g k =
      let n : r ≡ under_at h from to z = k ∙ rw g (sym (at_level h from to z e)) in
      (n, omega (arith, under_most))

  pub found_slanted : {left right u w r : ℕ} → (from ≡ to → ⊥) → left ≡ from - h * z → right ≡ to - h * z
      → u ≡ strip h right → w ≡ strip h left → r ≡ dist u w → (r ≡ under_at h from to z) × (r ≤ whole_most)
  found_slanted {r = r} e g g' s t k =
      let n : r ≡ under_at h from to z = k ∙ rw (s, t, g, g') (sym (at_slanted h from to z e)) in
      (n, omega (arith, under_most))

-- ---- what the areas are over
pub whole_upright : (l k : ℕ) → l ≡ 0 → (1 ≡ by_zero l 1 (under_d l k)) × (1 ≤ whole_most)
unfolding by_zero
whole_upright l k e = (rw e, omega arith)

pub whole_wide : (l k : ℕ) → 0 < l → by_zero l 1 (under_d l k) ≡ under_d l k
unfolding by_zero
whole_wide zero k h = absurd (omega arith)
whole_wide (suc l) k h = refl

pub whole_flat : (l k : ℕ) → 0 < l → k ≡ 0 → l ≤ span_most → (l ≡ by_zero l 1 (under_d l k)) × (l ≤ whole_most)
whole_flat l k h e w = (sym (whole_wide l k h ∙ ap (under_d l) e ∙ whole-level l), omega arith)

pub whole_sloped : (l k : ℕ) → 0 < l → 0 < k → l ≤ span_most → k ≤ span_most
    → (2 * l * k ≡ by_zero l 1 (under_d l k)) × (2 * l * k ≤ whole_most)
whole_sloped l k h g w t = (sym (whole_wide l k h ∙ whole_slanted l k g), omega (arith, mul-le-mul w t))

-- Coverages of one value blend alike, whatever they are over.
use mathlib.Core.Path.{◌≡◌, refl, sym, ◌∙◌, ap}
use mathlib.Core.List.{List}
use mathlib.Core.Logic.{⊎_elim}
use Prim.Native.Nat.{ℕ, zero, suc, ◌+◌, ◌*◌, ◌-◌, ◌≤◌, ◌<◌}
use native.Mathlib.Nat.{mul-le-mul_right, le_of_mul-le-mul_left}
use native.Mathlib.Omega.{arith}
use borrow.Author.Tests.{le-leb, lt-leb}
use lib.Dec.{leb}
use Rattle.numbers.specs.inner.Equal.{Equal}
use Rattle.numbers.proofs.Order.{lt_or_le, dist-times}
use Rattle.lights.specs.Lights.{light_of}
use Rattle.blending.specs.Blend.{apart, nearest_to, blended_light, blend}

-- a test of two numbers is that of the two in other units
same_test : (a b a' b' d d' : ℕ) → 0 < d → 0 < d' → a * d' ≡ a' * d → b * d' ≡ b' * d → leb a b ≡ leb a' b'
same_test a b a' b' d d' p p' e f = ⊎_elim no yes (lt_or_le b a)
  where
    yes : a ≤ b → leb a b ≡ leb a' b'
    yes h =
        let g : a' ≤ b' = le_of_mul-le-mul_left {k = d} (omega (arith, mul-le-mul_right d' h)) p in
        rw (le-leb a b h, le-leb a' b' g)

    above : b < a → (a' ≤ b') → a ≤ b
    above h g = le_of_mul-le-mul_left {k = d'} (omega (arith, mul-le-mul_right d g)) p'

    no : b < a → leb a b ≡ leb a' b'
    no h =
        let g : b' < a' = ⊎_elim (λ (k : b' < a'). k) (λ (k : a' ≤ b'). absurd (omega (arith, above h k))) (lt_or_le b' a') in
        rw (lt-leb a b h, lt-leb a' b' g)

nearest-same : (light : ℕ → ℕ) (x d x' d' : ℕ) → 0 < d → 0 < d' → x * d' ≡ x' * d → (b : ℕ) → nearest_to light b x d ≡ nearest_to light b x' d'
unfolding nearest_to
nearest-same light x d x' d' p p' e zero = refl
nearest-same light x d x' d' p p' e (suc b) =
    rw (nearest-same light x d x' d' p p' e b, same_test _ _ _ _ d d' p p' (far (light (suc b))) (far (light (nearest_to light b x' d'))))
  where
    far : (k : ℕ) → apart x (k * d) * d' ≡ apart x' (k * d') * d
    far k =
        let f : k * d * d' ≡ k * d' * d = omega arith in
        dist-times x (k * d) d' ∙ rw (e, f) (sym (dist-times x' (k * d') d))

pub blend-same : (lights : List ℕ) (u v : ℕ) {n d n' d' : ℕ} → Equal n d n' d' → blend lights u v n d ≡ blend lights u v n' d'
unfolding blend
blend-same lights u v {n} {d} {n'} {d'} e =
    let k : ℕ = d - n in
    let k' : ℕ = d' - n' in
    let f : d ≡ n + k = omega (arith, e.part) in
    let f' : d' ≡ n' + k' = omega (arith, e.part') in
    let g : k * d' ≡ k' * d = omega (arith, e.cross, ap (λ (x : ℕ). x * d') f, ap (λ (x : ℕ). x * d) f') in
    nearest-same (light_of lights) (blended_light (light_of lights) u v n d) d (blended_light (light_of lights) u v n' d') d' e.some e.some'
    (omega (arith, ap (λ (x : ℕ). light_of lights u * x) g, ap (λ (x : ℕ). light_of lights v * x) e.cross)) 255

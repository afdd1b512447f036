-- The tests that lead from a guess of a palette to the code.
use mathlib.Core.List.{List}
use mathlib.Core.Logic.{⊎_elim}
use mathlib.Core.Path.{◌≡◌, sym}
use Prim.Native.Nat.{ℕ, suc, ◌+◌, ◌*◌, ◌^◌, ◌/◌, ◌≤◌, ◌<◌}
use native.Mathlib.Nat.{mul-le-mul_right, mul-le-mul_left, le_of_mul-le-mul_right, le-div_iff_mul-le, lt-mul-div-succ, div-mul-le_self}
use native.Mathlib.Omega.{arith}
use lib.Seq.{get_or-take}
use Rattle.lights.specs.Lights.{light_of}
use Rattle.blending.specs.Blend.{blended_light, blend}
use Rattle.lights.specs.inner.Fit.{Rising}
use Rattle.lights.specs.inner.Palette.{middle, lights_in, reach_of, Guess}
use Rattle.blending.specs.inner.Search.{Between, AtMost, NextTwo}
use Rattle.lights.proofs.Neighbours.{light_mono, middle-none, middle-past, middle-same, middle-rises}
use Rattle.blending.proofs.Nearest.{nearest-code}
use Rattle.blending.proofs.Blend.{weighted_le}
use Rattle.lights.proofs.Guesses.{reach_most}

-- ---- tests

-- the two middles after that of guess a
module _ (light : ℕ → ℕ) (rising : Rising light) (a x d y z : ℕ) (most : a ≤ 253) (ey : y ≡ middle light (a + 1) * d) (ez : z ≡ middle light (a + 2) * d) where
  -- they are in order
  ordered : y ≤ z
  ordered = omega (arith, mul-le-mul_right d (middle-rises light rising a most))

  -- so that the second is not passed without the first
  pub next_two_is : (p q : ℕ) → middle light a * d ≤ x → AtMost y x p → AtMost z x q → NextTwo light x d a (p + q)
  next_two_is p q low = ⊎_elim (λ h. ⊎_elim (two h) (one h)) (λ h. ⊎_elim (λ w. absurd (omega (arith, ordered))) (none h))
    where
      at : (r : ℕ) → p + q ≡ r → NextTwo light x d a r → NextTwo light x d a (p + q)
      at r e h = rw e h

      two : (y ≤ x) × (p ≡ 1) → (z ≤ x) × (q ≡ 1) → NextTwo light x d a (p + q)
      two h w = at 2 (omega arith) (record { most = omega arith; low = omega arith; high = λ s. absurd (omega arith) })

      one : (y ≤ x) × (p ≡ 1) → (x < z) × (q ≡ 0) → NextTwo light x d a (p + q)
      one h w =
          let e : a + 1 + 1 ≡ a + 2 = omega arith in
          at 1 (omega arith) (record { most = omega arith; low = omega arith; high = λ s. rw e (omega arith) })

      none : (x < y) × (p ≡ 0) → (x < z) × (q ≡ 0) → NextTwo light x d a (p + q)
      none h w =
          let e : a + 0 ≡ a = omega arith in
          at 0 (omega arith) (record { most = omega arith; low = rw e low; high = λ s. rw e (omega arith) })

-- ---- what is left of a quotient does not count, because middles are whole numbers

pub whole-low : (light : ℕ → ℕ) (x d g : ℕ) → 0 < d → middle light g * d ≤ x → middle light g * 1 ≤ x / d
whole-low light x d g some h =
    let k = (le-div_iff_mul-le {k = d} {x = middle light g} {y = x} some).1 h in
    omega arith

pub whole-between : (light : ℕ → ℕ) (x d a b : ℕ) → 0 < d → Between light (x / d) 1 a b → Between light x d a b
whole-between light x d a b some h =
    let least : middle light a ≤ x / d = omega (arith, h.low) in
    let most : x / d + 1 ≤ middle light b = omega (arith, h.high) in
    record {
      low = omega (arith, mul-le-mul_right d least, div-mul-le_self x d);
      high = omega (arith, mul-le-mul_right d most, lt-mul-div-succ x some);
    }

-- ---- the blend

-- a doubled light times d lies between the first middle and the last, and what it is over d does too
pub amid : (p : List ℕ) (x d : ℕ) → 0 < d → x ≤ 131070 * d → Between (light_of p) x d 0 256
amid p x d some most =
    let light = light_of p in
    let high : x < middle light 256 * d = rw (middle-past light 256 (omega arith)) (omega arith) in
    record { low = rw (middle-none light) (omega arith); high = high }

pub amid-whole : (p : List ℕ) (x : ℕ) → x ≤ 131070 * 512 → Between (light_of p) (x / 512) 1 0 256
amid-whole p x most = amid p (x / 512) 1 (omega arith) (omega arith)

module _ (p : List ℕ) (rising : Rising (light_of p)) where
  -- twice the blended light times a scale fits 64 bits
  pub scaled_fits : (u v n d m x : ℕ) → u ≤ 255 → v ≤ 255 → n ≤ d → x ≡ 2 * blended_light (light_of p) u v n d → m * d ≤ reach_of p → x * m < 2 ^ 64
  scaled_fits u v n d m x hu hv h e s =
      let light = light_of p in
      let mono = light_mono light rising in
      let top = weighted_le (light u) (light v) n d (light 255) (mono u 255 hu (omega arith)) (mono v 255 hv (omega arith)) h in
      let most : x ≤ 2 * (light 255 * d) = omega arith in
      omega (arith, mul-le-mul_right m most, mul-le-mul_right (2 * light 255) s, reach_most (light 255))

  -- the guess for the stretch in which it lies is not above its code
  pub guess_low : (d m x b g : ℕ) → 0 < m → m * d ≤ reach_of p → Guess (light_of p) (reach_of p) b g → b * 2 ^ 54 ≤ x * m → middle (light_of p) g * d ≤ x
  guess_low d m x b g some s guess h = le_of_mul-le-mul_right {k = m} (omega (arith, mul-le-mul_left (middle (light_of p) g) s, guess.low)) some

  -- the lights in front are those of the palette
  front : (k : ℕ) → k ≤ 255 → light_of p k ≡ light_of (lights_in p) k
  front k h = sym (get_or-take 256 p k 0 (omega arith))

  -- and rise with them
  front_rises : Rising (light_of (lights_in p))
  front_rises k h = rw (sym (front k (omega arith)), sym (front (suc k) h)) (rising k h)

  -- the code that has twice the blended light between its middles is the blend
  pub blend_is : (u v n d x c : ℕ) → u ≤ 255 → v ≤ 255 → 0 < d → c ≤ 255 → x ≡ 2 * blended_light (light_of p) u v n d → Between (light_of p) x d c (c + 1)
      → c ≡ blend (lights_in p) u v n d
  unfolding blend
  blend_is u v n d x c hu hv some h e amid =
      let s : c + 1 ≡ suc c = omega arith in
      let same = middle-same (light_of p) (light_of (lights_in p)) front in
      let z : x ≡ 2 * blended_light (light_of (lights_in p)) u v n d = rw (sym (front u hu), sym (front v hv)) e in
      nearest-code (light_of (lights_in p)) front_rises (blended_light (light_of (lights_in p)) u v n d) d c some h
      (rw (sym (same c), sym z) amid.low)
      (rw (sym (same (suc c)), sym z) (rw s at amid.high))

-- ---- filling the guesses

-- What the tests of lights tell.
use Rattle.std.proofs.Common.{◌≡◌, ℕ, zero, suc, ◌+◌, ◌-◌, ◌*◌, ◌%◌, ◌^◌, ◌<◌, ◌≤◌, Bool, true, false, not, ◌&&◌, eqb, ltb, leb, List, length, refl, ap, ◌∙◌, subst, ⊎_elim, true≢false, mod-eq_of_lt, mul-le-mul_left, arith, ltb-true, le-ltb, lt-ltb, eq-eqb, ne_eqb, eqb-true, le-leb}
use Rattle.std.specs.Int.{from_bool}
use mathlib.Core.Bool.{and-true, and-false}
use borrow.Author.Tests.{lt-leb}
use Rattle.numbers.proofs.Order.{lt_or_le}
use Rattle.lights.specs.Lights.{light_of, rises_to, fit}
use Rattle.lights.specs.inner.Fit.{Rising, Fit, EvenSteps, StepsOf}

-- ---- counting the lights that do not rise

pub rises-none : (light : ℕ → ℕ) → rises_to light 0 ≡ eqb 0 0
unfolding rises_to
rises-none light = refl

-- what a test counts
pub counted_one : (b : Bool) (t : ℕ) → t ≡ from_bool b → t ≤ 1
counted_one true t e = omega arith
counted_one false t e = omega arith

-- one light more: t is 1 where it does not rise
rises_next : (light : ℕ → ℕ) (i fallen t : ℕ) → rises_to light i ≡ eqb fallen 0 → t ≡ from_bool (leb (light (suc i)) (light i))
    → rises_to light (suc i) ≡ eqb (fallen + t) 0
unfolding rises_to
rises_next light i fallen t e h = ⊎_elim up down (lt_or_le (light i) (light (suc i)))
  where
    up : light i < light (suc i) → (rises_to light i && ltb (light i) (light (suc i))) ≡ eqb (fallen + t) 0
    up w =
        let z : t ≡ 0 = h ∙ rw (lt-leb (light (suc i)) (light i) w) in
        let s : fallen + t ≡ fallen = omega arith in
        rw (lt-ltb (light i) (light (suc i)) w, s) (and-true (rises_to light i) ∙ e)

    down : light (suc i) ≤ light i → (rises_to light i && ltb (light i) (light (suc i))) ≡ eqb (fallen + t) 0
    down w =
        let z : t ≡ 1 = h ∙ rw (le-leb (light (suc i)) (light i) w) in
        rw (le-ltb (light i) (light (suc i)) w, ne_eqb (fallen + t) 0 (λ q. omega arith)) (and-false (rises_to light i))

pub rises-more : (light : ℕ → ℕ) (i fallen t : ℕ) → rises_to light i ≡ eqb fallen 0 → t ≡ from_bool (leb (light (i + 1)) (light i))
    → rises_to light (i + 1) ≡ eqb (fallen + t) 0
rises-more light i fallen t e h =
    let s : i + 1 ≡ suc i = omega arith in
    rw s (rises_next light i fallen t e (rw s at h))

-- ---- fit lights

both : (a b : Bool) → (a && b) ≡ true → (a ≡ true) × (b ≡ true)
both true b e = (refl, e)
both false b e = let y : ◌≡◌ {A = ℕ} 0 1 = cc in absurd (omega arith)

rises-all : (light : ℕ → ℕ) (n : ℕ) → rises_to light n ≡ true → (k : ℕ) → k < n → light k < light (suc k)
unfolding rises_to
rises-all light zero e k h = absurd (omega arith)
rises-all light (suc n) e k h = ⊎_elim (rises-all light n parts.0 k) last (lt_or_le k n)
  where
    parts : (rises_to light n ≡ true) × (ltb (light n) (light (suc n)) ≡ true)
    parts = both (rises_to light n) (ltb (light n) (light (suc n))) e

    last : n ≤ k → light k < light (suc k)
    last w = subst (λ (i : ℕ). light i < light (suc i)) (omega arith) (ltb-true (light n) (light (suc n)) parts.1)

all_rise : (light : ℕ → ℕ) (n : ℕ) → ((k : ℕ) → k < n → light k < light (suc k)) → rises_to light n ≡ true
unfolding rises_to
all_rise light zero h = refl
all_rise light (suc n) h = rw (all_rise light n (λ k b. h k (omega arith)), lt-ltb (light n) (light (suc n)) (h n (omega arith)))

pub fit_facts : (lights : List ℕ) → fit lights ≡ true → Fit lights
unfolding fit
fit_facts lights e =
    let p = both (eqb (length lights) 256) (rises_to (light_of lights) 255) e in
    record { count = eqb-true (length lights) 256 p.0; rising = rises-all (light_of lights) 255 p.1 }

pub facts_fit : (lights : List ℕ) → Fit lights → fit lights ≡ true
unfolding fit
facts_fit lights f = rw (eq-eqb (length lights) 256 f.count, all_rise (light_of lights) 255 f.rising)

-- where the test of 32 finds nothing
pub fit_passed : (lights : List ℕ) → not (fit lights) ≡ false → Fit lights
fit_passed lights e = fit_facts lights (go (fit lights) e)
  where
    go : (t : Bool) → not t ≡ false → t ≡ true
    go true e = refl
    go false e = absurd (true≢false e)

-- the test of the count, and that of the rise where the count is right
pub fit_count : (lights : List ℕ) → (length lights ≡ 256 → ⊥) → fit lights ≡ false
unfolding fit
fit_count lights h = rw (ne_eqb (length lights) 256 h)

pub fit_rise : (lights : List ℕ) → length lights ≡ 256 → fit lights ≡ rises_to (light_of lights) 255
unfolding fit
fit_rise lights h = rw (eq-eqb (length lights) 256 h)

-- ---- lights at steps of one width

-- where the first stands
pub steps_first : (a step : ℕ) → a < 65536 → a ≡ (a + step * 0) % 2 ^ 16
steps_first a step h = omega arith

-- the next step, in 16 bits that wrap
pub steps_due : (a step i due : ℕ) → due ≡ (a + step * i) % 2 ^ 16 → (due + step) % 2 ^ 16 ≡ (a + step * (i + 1)) % 2 ^ 16
steps_due a step i due e = omega arith

-- one light more: where all so far were met, and this one is
pub steps_more : (light : ℕ → ℕ) (step i : ℕ) → ((k : ℕ) → k < i → light k ≡ (light 0 + step * k) % 2 ^ 16) → light i ≡ (light 0 + step * i) % 2 ^ 16
    → (k : ℕ) → k < i + 1 → light k ≡ (light 0 + step * k) % 2 ^ 16
steps_more light step i h e k w = ⊎_elim (h k) last (lt_or_le k i)
  where
    last : i ≤ k → light k ≡ (light 0 + step * k) % 2 ^ 16
    last b = subst (λ (j : ℕ). light j ≡ (light 0 + step * j) % 2 ^ 16) (omega arith) e

module _ (light : ℕ → ℕ) (step : ℕ) (steps : StepsOf light step) (most : light 0 + 255 * step ≤ 65535) where
  -- no step wraps, because the last does not
  plain : (k : ℕ) → k ≤ 255 → light k ≡ light 0 + step * k
  plain k h = steps k h ∙ mod-eq_of_lt (omega (arith, mul-le-mul_left step h))

  pub steps_even : step ≡ light 1 - light 0 → EvenSteps light
  steps_even e k h = plain k h ∙ ap (λ (s : ℕ). light 0 + s * k) e

  pub steps_rise : 0 < step → Rising light
  steps_rise some k h = rw (plain k (omega arith), plain (suc k) h) (omega (arith, some))

-- Neighbouring lights: their order, their gaps, and the middles between them.
use Rattle.std.proofs.Common.{◌≡◌, ℕ, zero, suc, ◌+◌, ◌-◌, ◌*◌, ◌<◌, ◌≤◌, max, ◌⊎◌, sym, refl, ◌∙◌, subst, inl, inr, ⊎_elim, arith, le-ltb, lt-ltb}
use Rattle.numbers.proofs.Order.{lt_or_le}
use Rattle.lights.specs.Lights.{widest_to}
use Rattle.lights.specs.inner.Fit.{Rising}
use Rattle.lights.specs.inner.Palette.{middle}

module _ (light : ℕ → ℕ) (rising : Rising light) where
  -- lights of later codes are no less
  pub light_mono : (a b : ℕ) → a ≤ b → b ≤ 255 → light a ≤ light b
  light_mono a zero h k = subst (λ (j : ℕ). light j ≤ light 0) (sym e) (omega arith)
    where
      e : a ≡ 0
      e = omega arith
  light_mono a (suc b) h k = go (lt_or_le a (suc b)) (λ w. light_mono a b w (omega arith))
    where
      go : (a < suc b) ⊎ (suc b ≤ a) → (a ≤ b → light a ≤ light b) → light a ≤ light (suc b)
      go (inl w) rest = omega (arith, rest (omega arith), rising b (omega arith))
      go (inr w) rest = subst (λ (j : ℕ). light j ≤ light (suc b)) (sym e) (omega arith)
        where
          e : a ≡ suc b
          e = omega arith

-- each gap is at most the widest
pub gap_le : (light : ℕ → ℕ) (n k : ℕ) → k < n → light (suc k) - light k ≤ widest_to light n
unfolding widest_to
gap_le light zero k h = absurd (omega arith)
gap_le light (suc n) k h = go (lt_or_le k n) (gap_le light n k)
  where
    last : k ≡ n → light (suc k) - light k ≤ max (widest_to light n) (light (suc n) - light n)
    last e = subst (λ (j : ℕ). light (suc j) - light j ≤ max (widest_to light n) (light (suc n) - light n)) (sym e) (omega arith)

    go : (k < n) ⊎ (n ≤ k) → (k < n → light (suc k) - light k ≤ widest_to light n) → light (suc k) - light k ≤ max (widest_to light n) (light (suc n) - light n)
    go (inl b) rest = omega (arith, rest b)
    go (inr b) rest = last (omega arith)

-- ---- the middles

pub middle-none : (light : ℕ → ℕ) → middle light 0 ≡ 0
unfolding middle
middle-none light = refl

pub middle-some : (light : ℕ → ℕ) (k : ℕ) → k < 255 → middle light (suc k) ≡ light k + light (suc k)
unfolding middle
middle-some light k h = rw (lt-ltb k 255 h)

pub middle-past : (light : ℕ → ℕ) (k : ℕ) → 256 ≤ k → middle light k ≡ 131071
unfolding middle
middle-past light zero h = absurd (omega arith)
middle-past light (suc k) h = rw (le-ltb k 255 (omega arith))

-- that of code k is the sum of two lights
pub middle-code : (light : ℕ → ℕ) (k : ℕ) → 1 ≤ k → k ≤ 255 → middle light k ≡ light (k - 1) + light k
middle-code light zero some h = absurd (omega arith)
middle-code light (suc k) some h =
    let e : suc k - 1 ≡ k = omega arith in
    rw e (middle-some light k h)

-- lights that are the same for codes 0 to 255 have the same middles
pub middle-same : (f g : ℕ → ℕ) → ((k : ℕ) → k ≤ 255 → f k ≡ g k) → (k : ℕ) → middle f k ≡ middle g k
middle-same f g same zero = middle-none f ∙ sym (middle-none g)
middle-same f g same (suc k) = ⊎_elim inside past (lt_or_le k 255)
  where
    inside : k < 255 → middle f (suc k) ≡ middle g (suc k)
    inside h = rw (middle-some f k h, middle-some g k h, same k (omega arith), same (suc k) h)

    past : 255 ≤ k → middle f (suc k) ≡ middle g (suc k)
    past h = middle-past f (suc k) (omega arith) ∙ sym (middle-past g (suc k) (omega arith))

module _ (light : ℕ → ℕ) (rising : Rising light) where
  -- middles rise
  pub middle-rises : (k : ℕ) → k ≤ 253 → middle light (k + 1) ≤ middle light (k + 2)
  middle-rises k h =
      let e : k + 1 ≡ suc k = omega arith in
      let f : k + 2 ≡ suc (suc k) = omega arith in
      rw (e, f, middle-some light k (omega arith), middle-some light (suc k) (omega arith))
      (omega (arith, rising k (omega arith), rising (suc k) (omega arith)))

  -- no code's is above twice the last light
  pub middle-most : (k : ℕ) → k ≤ 255 → middle light k ≤ 2 * light 255
  middle-most zero h = rw (middle-none light) (omega arith)
  middle-most (suc k) h =
      omega (arith, middle-some light k h, light_mono light rising k 255 (omega arith) (omega arith), light_mono light rising (suc k) 255 h (omega arith))

-- Filling a palette: the guesses, and the lights in front of them.
use Rattle.std.proofs.Common.{◌≡◌, ℕ, zero, suc, ◌+◌, ◌-◌, ◌*◌, ◌/◌, ◌^◌, ◌<◌, ◌≤◌, ◌⊎◌, List, [], ◌∷◌, length, get_or, set, replicate, refl, ◌∙◌, subst, inl, inr, ⊎_elim, mul-le-mul_right, div-mul-le_self, arith, length-set, length-take, get_or-set_other, get_or-take, get_or-set_same, ext_get_or}
use Rattle.numbers.proofs.Order.{lt_or_le, eq_or_ne}
use Rattle.lights.specs.Lights.{light_of}
use Rattle.lights.specs.inner.Fit.{Rising, Fit}
use Rattle.lights.specs.inner.Palette.{middle, lights_in, guess_of, reach_of, palette_size, Guess, Guesses, FilledFrom, Palette}
use Rattle.lights.proofs.Neighbours.{middle-none, middle-same, middle-most}

-- ---- the guesses

-- the reach times twice the last light fits 64 bits
pub reach_most : (last : ℕ) → (2 ^ 63 - 1) / (last + 1) * (2 * last) < 2 ^ 64
reach_most last = omega (arith, div-mul-le_self (2 ^ 63 - 1) (last + 1))

-- a store, within the list or past it
set_at : (t : List ℕ) (j k : ℕ) → (get_or (set t j k) j 0 ≡ get_or t j 0) ⊎ (get_or (set t j k) j 0 ≡ k)
set_at [] j k = inl refl
set_at (x ∷ t) zero k = inr refl
set_at (x ∷ t) (suc j) k = set_at t j k

-- nothing is filled yet
pub filled_none : (p : List ℕ) (a g : ℕ) → FilledFrom a g p p
filled_none p a g = record { size = refl; each = λ b. inl refl }

-- one guess more from stretch a on
pub filled-set : (p q : List ℕ) (a i g : ℕ) → FilledFrom a g p q → FilledFrom a g p (set q (256 + a + i) g)
filled-set p q a i g h =
    record {
      size = simp length-set h.size;
      each = λ b. ⊎_elim (here b) (λ n. kept b (get_or-set_other q (256 + a + i) (256 + b) g 0 (λ e. n (omega arith)))) (eq_or_ne b (a + i));
    }
  where
    kept : (b : ℕ) → guess_of (set q (256 + a + i) g) b ≡ guess_of q b
        → (guess_of (set q (256 + a + i) g) b ≡ guess_of p b) ⊎ ((a ≤ b) × (guess_of (set q (256 + a + i) g) b ≡ g))
    kept b s = ⊎_elim (λ e. inl (s ∙ e)) (λ w. inr (w.0, s ∙ w.1)) (h.each b)

    here : (b : ℕ) → b ≡ a + i → (guess_of (set q (256 + a + i) g) b ≡ guess_of p b) ⊎ ((a ≤ b) × (guess_of (set q (256 + a + i) g) b ≡ g))
    here b e =
        let s : 256 + a + i ≡ 256 + b = omega arith in
        ⊎_elim
        (λ w. kept b (subst (λ (j : ℕ). get_or (set q (256 + a + i) g) j 0 ≡ get_or q j 0) s w))
        (λ w. inr (omega arith, subst (λ (j : ℕ). get_or (set q (256 + a + i) g) j 0 ≡ g) s w))
        (set_at q (256 + a + i) g)

-- the same guess from a later stretch on
pub filled_more : (p q r : List ℕ) (a b g : ℕ) → a ≤ b → FilledFrom a g p q → FilledFrom b g q r → FilledFrom a g p r
filled_more p q r a b g le h w =
    record {
      size = w.size ∙ h.size;
      each = λ k. ⊎_elim (λ e. ⊎_elim (λ f. inl (e ∙ f)) (λ f. inr (f.0, e ∙ f.1)) (h.each k)) (λ e. inr (omega arith, e.1)) (w.each k);
    }

-- code 0 is a guess anywhere
pub guess_none : (light : ℕ → ℕ) (reach b : ℕ) → Guess light reach b 0
guess_none light reach b = record { most = omega arith; low = rw (middle-none light) (omega arith) }

-- zeros are guesses
zeros : (n k : ℕ) → ◌≡◌ {A = ℕ} (get_or (replicate n 0) k 0) 0
zeros zero k = refl
zeros (suc n) zero = refl
zeros (suc n) (suc k) = zeros n k

pub guesses_none : (light : ℕ → ℕ) (reach : ℕ) → Guesses light reach (replicate palette_size 0)
guesses_none light reach = record { size = refl; each = λ b. rw (zeros palette_size (256 + b)) (guess_none light reach b) }

-- a guess for stretch a is one for those after it
pub guesses_more : (light : ℕ → ℕ) (reach a g : ℕ) (p q : List ℕ) → Guesses light reach p → Guess light reach a g → FilledFrom a g p q → Guesses light reach q
guesses_more light reach a g p q all one h =
    record {
      size = h.size ∙ all.size;
      each = λ b. ⊎_elim (λ e. rw e (all.each b)) (λ w. rw w.1 (record { most = one.most; low = omega (arith, one.low) })) (h.each b);
    }

-- a middle by the reach of its lights fits 64 bits
pub reach_fits : (lights : List ℕ) → Rising (light_of lights) → (k : ℕ) → k ≤ 255 → middle (light_of lights) k * reach_of lights < 2 ^ 64
reach_fits lights rising k h =
    omega (arith, mul-le-mul_right (reach_of lights) (middle-most (light_of lights) rising k h), reach_most (light_of lights 255))

-- ---- the lights in front of the guesses

-- a light stored in front leaves the guesses
pub guesses_set : (light : ℕ → ℕ) (reach : ℕ) (p : List ℕ) (i y : ℕ) → i < 256 → Guesses light reach p → Guesses light reach (set p i y)
guesses_set light reach p i y h all =
    record { size = simp length-set all.size; each = λ b. rw (get_or-set_other p i (256 + b) y 0 (λ e. omega arith)) (all.each b) }

-- one light more in front
pub lights-set : (p : List ℕ) (light : ℕ → ℕ) (i : ℕ) → i < length p → ((k : ℕ) → k < i → light_of p k ≡ light k)
    → (k : ℕ) → k < i + 1 → light_of (set p i (light i)) k ≡ light k
lights-set p light i b h k w = ⊎_elim before here (lt_or_le k i)
  where
    before : k < i → light_of (set p i (light i)) k ≡ light k
    before z = get_or-set_other p i k (light i) 0 (λ e. omega arith) ∙ h k z

    here : i ≤ k → light_of (set p i (light i)) k ≡ light k
    here z = subst (λ (j : ℕ). light_of (set p i (light i)) j ≡ light j) (omega arith) (get_or-set_same p i (light i) 0 b)

-- all lights in front of guesses by them are a palette
module _ (lights p : List ℕ) (fit : Fit lights) (all : Guesses (light_of lights) (reach_of lights) p) (same : (k : ℕ) → k < 256 → light_of p k ≡ light_of lights k) where
  pub palette_lights : lights_in p ≡ lights
  palette_lights = ext_get_or 0 (lights_in p) lights (omega (arith, size, fit.count)) (λ k h. get_or-take 256 p k 0 (omega (arith, size)) ∙ same k (omega (arith, size)))
    where
      size : length (lights_in p) ≡ 256
      size = length-take 256 p ∙ omega (arith, all.size)

  pub palette_is : Palette p
  palette_is =
      record {
        rising = λ k h. rw (same k (omega arith), same (suc k) (omega arith)) (fit.rising k h);
        guesses = record { size = all.size; each = λ b. record { most = (all.each b).most; low = low b } };
      }
    where
      low : (b : ℕ) → middle (light_of p) (guess_of p b) * reach_of p ≤ b * 2 ^ 54
      low b = rw (middle-same (light_of p) (light_of lights) (λ k h. same k (omega arith)) (guess_of p b), same 255 (omega arith)) (all.each b).low

-- Lights equal to codes: they are fit, their widest gap is one, and they span 255.
use Rattle.std.proofs.Common.{◌≡◌, ℕ, zero, suc, ◌+◌, ◌<◌, ◌≤◌, true, List, length, set, sym, refl, ap, ◌∙◌, subst, ⊎_elim, arith, get_or-set_other, get_or-set_same, ext_get_or}
use Rattle.numbers.proofs.Order.{lt_or_le}
use Rattle.lights.specs.Lights.{light_of, fit, widest_to, widest_gap, light_span}
use Rattle.lights.specs.Codes.{up_from, codes}
use Rattle.lights.specs.inner.Fit.{Fit}
use Rattle.lights.proofs.Rising.{facts_fit}

length_up : (k n : ℕ) → length (up_from k n) ≡ n
unfolding up_from
length_up k zero = refl
length_up k (suc n) = ap suc (length_up (suc k) n)

light_up : (k n i : ℕ) → i < n → light_of (up_from k n) i ≡ k + i
unfolding up_from
light_up k zero i h = absurd (omega arith)
light_up k (suc n) zero h = omega arith
light_up k (suc n) (suc i) h = light_up (suc k) n i (omega arith) ∙ omega arith

-- each is its code
pub code-light : (k : ℕ) → k ≤ 255 → light_of codes k ≡ k
code-light k h = light_up 0 256 k (omega arith) ∙ omega arith

-- one light more, of lights that are filled in order
pub code-more : (l : List ℕ) (k : ℕ) → k < length l → ((i : ℕ) → i < k → light_of l i ≡ i) → (i : ℕ) → i < k + 1 → light_of (set l k k) i ≡ i
code-more l k b h i w = ⊎_elim before here (lt_or_le i k)
  where
    before : i < k → light_of (set l k k) i ≡ i
    before z = get_or-set_other l k i k 0 (λ q. omega arith) ∙ h i z

    here : k ≤ i → light_of (set l k k) i ≡ i
    here z = subst (λ (j : ℕ). light_of (set l k k) j ≡ j) (omega arith) (get_or-set_same l k k 0 b)

-- and nothing else is
pub codes_only : (lights : List ℕ) → length lights ≡ 256 → ((k : ℕ) → k ≤ 255 → light_of lights k ≡ k) → lights ≡ codes
codes_only lights e is =
    ext_get_or 0 lights codes (e ∙ sym (length_up 0 256)) (λ k h. is k (omega arith) ∙ sym (code-light k (omega arith)))

pub codes_rise : Fit codes
codes_rise =
    record { count = length_up 0 256; rising = λ k h. rw (code-light k (omega arith), code-light (suc k) h) (omega arith) }

pub codes-fit : fit codes ≡ true
codes-fit = facts_fit codes codes_rise

widest_to_lem : (n : ℕ) → suc n ≤ 255 → widest_to (light_of codes) (suc n) ≡ 1
unfolding widest_to
widest_to_lem zero h = rw (code-light 1 (omega arith), code-light 0 (omega arith))
widest_to_lem (suc n) h =
    let e = widest_to_lem n (omega arith) in
    let a = code-light (suc (suc n)) h in
    let b = code-light (suc n) (omega arith) in
    omega arith

pub widest-codes : widest_gap codes ≡ 1
widest-codes = widest_to_lem 254 (omega arith)

pub span_codes : light_span codes ≡ 255
span_codes = rw (code-light 255 (omega arith), code-light 0 (omega arith))

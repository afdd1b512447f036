-- Laws of the pixels that a coverage touches.
use mathlib.Core.Path.{◌≡◌, sym, ap, ◌∙◌}
use mathlib.Core.Logic.{◌⊎◌, inl, inr}
use Prim.Native.Nat.{ℕ, ◌+◌, ◌-◌, ◌*◌, ◌≤◌, ◌<◌}
use native.Mathlib.Omega.{arith}
use Rattle.numbers.specs.Sum.{sum_to}
use Rattle.numbers.proofs.Order.{lt_or_le}
use Rattle.numbers.proofs.Sum.{sum_ext, sum_zero, sum_add, sum_le, sum_window, sum_one}
use Rattle.page.specs.inner.Paint.{touch, clipped, touches}
use Rattle.page.proofs.Clip.{Outside, left_of_lem, right_of, above, below, clip_in, clip_out, Either, Join}

pub touches_le : (w h : ℕ) (n : ℕ → ℕ → ℕ) → touches w h n ≤ h * w
unfolding touches
touches_le w h n = sum_le h w (λ y. sum_to w (λ x. touch (n x y))) (λ y. omega (arith, sum_le w 1 (λ x. touch (n x y)) (λ x. omega arith)))

pub touches_ext : (w h : ℕ) (n n' : ℕ → ℕ → ℕ) → ((x y : ℕ) → n x y ≡ n' x y) → touches w h n ≡ touches w h n'
unfolding touches
touches_ext w h n n' e = sum_ext h _ _ (λ y _. sum_ext w _ _ (λ x _. ap touch (e x y)))

pub touches_zero : (w h : ℕ) (n : ℕ → ℕ → ℕ) → ((x y : ℕ) → n x y ≡ 0) → touches w h n ≡ 0
unfolding touches
touches_zero w h n e = sum_zero h _ (λ y _. sum_zero w _ (λ x _. ap touch (e x y)))

pub touches_join : (w h : ℕ) (n₁ n₂ n : ℕ → ℕ → ℕ) → Join n₁ n₂ n → touches w h n₁ + touches w h n₂ ≡ touches w h n
unfolding touches
touches_join w h n₁ n₂ n j =
    sym (sum_add h (λ y. sum_to w (λ x. touch (n₁ x y))) (λ y. sum_to w (λ x. touch (n₂ x y))))
    ∙ sum_ext h _ _ (λ y _. sym (sum_add w (λ x. touch (n₁ x y)) (λ x. touch (n₂ x y))) ∙ sum_ext w _ _ (λ x _. both (j x y)))
  where
    both : {a b c : ℕ} → Either a b c → touch a + touch b ≡ touch c
    both (inl h) = omega arith
    both (inr h) = omega arith

pub touches_one : (w h x y : ℕ) (n : ℕ → ℕ → ℕ) → x < w → y < h → ((x' y' : ℕ) → ((x' ≡ x) × (y' ≡ y) → ⊥) → n x' y' ≡ 0)
    → touches w h n ≡ touch (n x y)
unfolding touches
touches_one w h x y n h₁ h₂ e =
    sum_one h y (λ j. sum_to w (λ i. touch (n i j))) h₂ (λ j ne. sum_zero w _ (λ i _. ap touch (e i j (λ q. ne q.1))))
    ∙ sum_one w x (λ i. touch (n i y)) h₁ (λ i ne. ap touch (e i y (λ q. ne q.0)))

pub touches_stretch : (w h a b y : ℕ) (n : ℕ → ℕ → ℕ) → a ≤ b → b ≤ w → y < h
    → touches w h (clipped a y b (y + 1) n) ≡ sum_to (b - a) (λ i. touch (n (a + i) y))
unfolding touches
touches_stretch w h a b y n h₁ h₂ h₃ =
    sum_one h y (λ j. sum_to w (λ x. touch (c x j))) h₃
    (λ j ne. sum_zero w _ (λ x _. ap touch (clip_out a y b (y + 1) n x j (other j ne (lt_or_le j y)))))
    ∙ sum_window w a b (λ x. touch (c x y)) h₁ h₂
    (λ x z. ap touch (clip_out a y b (y + 1) n x y (left_of_lem z)))
    (λ x z. ap touch (clip_out a y b (y + 1) n x y (right_of z)))
    ∙ sum_ext (b - a) _ _ (λ i z. ap touch (clip_in a y b (y + 1) n (a + i) y (omega arith)))
  where
    c : ℕ → ℕ → ℕ
    c = clipped a y b (y + 1) n

    other : {x : ℕ} (j : ℕ) → (j ≡ y → ⊥) → (j < y) ⊎ (y ≤ j) → Outside a y b (y + 1) x j
    other j ne (inl z) = above z
    other j ne (inr z) = below (omega arith)

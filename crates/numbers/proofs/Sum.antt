-- Laws of sums over a range, and over a list.
use mathlib.Core.Path.{◌≡◌, refl, ap, ap₂, ◌∙◌}
use mathlib.Core.List.{List, [], ◌∷◌, ◌++◌}
use mathlib.Core.Logic.{◌⊎◌, inl, inr, ⊎_elim}
use Prim.Native.Nat.{ℕ, zero, suc, ◌+◌, ◌-◌, ◌*◌, ◌≤◌, ◌<◌}
use native.Mathlib.Nat.{add-zero, zero-add, add-suc, suc-mul, mul-le-mul_right}
use native.Mathlib.Numerals.{add-one}
use native.Mathlib.Omega.{arith}
use lib.IntN.{ℤ}
use Rattle.numbers.specs.Sum.{sum_to, total}
use Rattle.numbers.proofs.Order.{lt_or_le}
use Rattle.numbers.proofs.Integer.{Diff, plus, minus, diff_of, diff_same}

pub sum-none : (f : ℕ → ℕ) → sum_to 0 f ≡ 0
unfolding sum_to
sum-none f = refl

pub sum_more : (n : ℕ) (f : ℕ → ℕ) → sum_to (n + 1) f ≡ sum_to n f + f n
unfolding sum_to
sum_more n f = rw add-one

pub sum_ext : (n : ℕ) (f g : ℕ → ℕ) → ((k : ℕ) → k < n → f k ≡ g k) → sum_to n f ≡ sum_to n g
unfolding sum_to
sum_ext zero f g h = refl
sum_ext (suc n) f g h = ap₂ ◌+◌ (sum_ext n f g (λ k b. h k (omega arith))) (h n (omega arith))

pub sum_zero : (n : ℕ) (f : ℕ → ℕ) → ((k : ℕ) → k < n → f k ≡ 0) → sum_to n f ≡ 0
unfolding sum_to
sum_zero zero f h = refl
sum_zero (suc n) f h = omega (arith, sum_zero n f (λ k b. h k (omega arith)), h n (omega arith))

-- a term that is not 0
pub sum-some : (n a : ℕ) (f : ℕ → ℕ) → a < n → 0 < f a → 0 < sum_to n f
unfolding sum_to
sum-some zero a f b h = absurd (omega arith)
sum-some (suc n) a f b h = ⊎_elim (λ k. omega (arith, sum-some n a f k h)) (λ k. let e : a ≡ n = omega arith in let z = rw e at h in omega arith) (lt_or_le a n)

pub sum_add : (n : ℕ) (f g : ℕ → ℕ) → sum_to n (λ k. f k + g k) ≡ sum_to n f + sum_to n g
unfolding sum_to
sum_add zero f g = refl
sum_add (suc n) f g = omega (arith, sum_add n f g)

-- the order of two sums does not matter
pub sum_swap : (n m : ℕ) (f : ℕ → ℕ → ℕ) → sum_to n (λ y. sum_to m (λ x. f x y)) ≡ sum_to m (λ x. sum_to n (λ y. f x y))
unfolding sum_to
sum_swap n zero f = sum_zero n (λ y. 0) (λ k b. refl)
sum_swap n (suc m) f = sum_add n (λ y. sum_to m (λ x. f x y)) (λ y. f m y) ∙ ap (λ (t : ℕ). t + sum_to n (λ y. f m y)) (sum_swap n m f)

-- terms that are each at most m
pub sum_le : (n m : ℕ) (f : ℕ → ℕ) → ((k : ℕ) → f k ≤ m) → sum_to n f ≤ n * m
unfolding sum_to
sum_le zero m f h = omega arith
sum_le (suc n) m f h = omega (arith, sum_le n m f h, h n, suc-mul n m)

pub sum_split : (a n : ℕ) (f : ℕ → ℕ) → sum_to (a + n) f ≡ sum_to a f + sum_to n (λ i. f (a + i))
unfolding sum_to
sum_split a zero f = rw add-zero (omega arith)
sum_split a (suc n) f = rw (add-suc, sum_split a n f) (omega arith)

-- terms that are 0 outside a to b
pub sum_window : (n a b : ℕ) (f : ℕ → ℕ) → a ≤ b → b ≤ n → ((k : ℕ) → k < a → f k ≡ 0) → ((k : ℕ) → b ≤ k → f k ≡ 0)
    → sum_to n f ≡ sum_to (b - a) (λ i. f (a + i))
sum_window n a b f h₁ h₂ low high =
    ap (λ (m : ℕ). sum_to m f) e₁
    ∙ sum_split b (n - b) f
    ∙ ap₂ ◌+◌ (ap (λ (m : ℕ). sum_to m f) e₂ ∙ sum_split a (b - a) f) (sum_zero (n - b) (λ i. f (b + i)) (λ k z. high (b + k) (omega arith)))
    ∙ omega (arith, sum_zero a f low)
  where
    e₁ : n ≡ b + (n - b)
    e₁ = omega arith

    e₂ : b ≡ a + (b - a)
    e₂ = omega arith

-- one term that is not 0
pub sum_one : (n a : ℕ) (f : ℕ → ℕ) → a < n → ((k : ℕ) → (k ≡ a → ⊥) → f k ≡ 0) → sum_to n f ≡ f a
unfolding sum_to
sum_one n a f b h =
    sum_window n a (a + 1) f (omega arith) (omega arith) (λ k z. h k (omega arith)) (λ k z. h k (omega arith))
    ∙ ap (λ (m : ℕ). sum_to m (λ i. f (a + i))) one
    ∙ zero-add (f (a + 0))
    ∙ ap f (add-zero a)
  where
    one : a + 1 - a ≡ suc zero
    one = omega arith

-- place j is none of the l places from z on, which may begin below 0
abbrev pub Beyond : ℤ → ℕ → ℕ → Type 0
Beyond z l j = (j + minus z < plus z) ⊎ (plus z + l ≤ j + minus z)

-- by another difference that z is
pub beyond_diff : {z : ℤ} {a b : ℕ} (l j : ℕ) → Diff z a b → Beyond z l j → (j + b < a) ⊎ (a + l ≤ j + b)
beyond_diff {z} l j d (inl h) = inl (omega (arith, diff_same (diff_of z) d))
beyond_diff {z} l j d (inr h) = inr (omega (arith, diff_same (diff_of z) d))

-- terms that are each at most m, and 0 beyond l places; where these begin below 0, fewer of them count
pub sum-few : (n : ℕ) (z : ℤ) (l m : ℕ) (f : ℕ → ℕ) → ((k : ℕ) → f k ≤ m) → ((k : ℕ) → Beyond z l k → f k ≡ 0) → sum_to n f ≤ l * m
sum-few n z l m f most none =
    let a = plus z - minus z in
    let b = plus z + l - minus z in
    let h : b - a ≤ l = omega arith in
    omega (
      arith,
      sum_split n b f,
      sum_window (n + b) a b f (omega arith) (omega arith) (λ k i. none k (inl (omega arith))) (λ k i. none k (inr (omega arith))),
      sum_le (b - a) m (λ i. f (a + i)) (λ i. most (a + i)),
      mul-le-mul_right m h,
    )

-- ---- sums over a list
module _ {ℓ} {A : Type ℓ} where
  pub total_++ : (m : A → ℕ) (xs ys : List A) → total m (xs ++ ys) ≡ total m xs + total m ys
  unfolding total
  total_++ m [] ys = omega arith
  total_++ m (x ∷ xs) ys = omega (arith, total_++ m xs ys)

  pub total_ext : (m n : A → ℕ) (xs : List A) → ((a : A) → m a ≡ n a) → total m xs ≡ total n xs
  unfolding total
  total_ext m n [] h = refl
  total_ext m n (x ∷ xs) h = ap₂ ◌+◌ (h x) (total_ext m n xs h)

  -- a sum of totals is the total of the sums
  pub sum_total : (n : ℕ) (m : ℕ → A → ℕ) (xs : List A) → sum_to n (λ k. total (m k) xs) ≡ total (λ a. sum_to n (λ k. m k a)) xs
  unfolding total
  sum_total n m [] = sum_zero n (λ k. 0) (λ k b. refl)
  sum_total n m (x ∷ xs) = sum_add n (λ k. m k x) (λ k. total (m k) xs) ∙ ap (λ (t : ℕ). sum_to n (λ k. m k x) + t) (sum_total n m xs)

  -- a measure that is at most another on each element of a list with P; what has P, its rest has too
  pub total_le : (P : List A → Type 0) (m n : A → ℕ) → ((x : A) (xs : List A) → P (x ∷ xs) → (m x ≤ n x) × P xs) → (xs : List A) → P xs → total m xs ≤ total n xs
  unfolding total
  total_le P m n each [] p = omega arith
  total_le P m n each (x ∷ xs) p = let e = each x xs p in omega (arith, e.0, total_le P m n each xs e.1)

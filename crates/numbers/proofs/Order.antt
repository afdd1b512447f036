-- Cases and orders of naturals. `omega` multiplies products out and takes each monomial for an unknown, so an order that is not
-- linear is proved by handing it the product of two facts.
use mathlib.Core.Bool.{Bool, true, false, cond, ◌&&◌}
use mathlib.Core.Path.{◌≡◌, refl, ◌∙◌, ap, subst}
use mathlib.Core.Logic.{◌⊎◌, inl, inr, ⊎_elim}
use Prim.Native.Nat.{ℕ, zero, suc, ◌+◌, ◌*◌, ◌-◌, ◌≤◌, ◌<◌}
use native.Mathlib.Nat.{le_dest, mul-le-mul, mul-le-mul_right, lt_of_not-le, mul-add, add-mul, mul_assoc, mul_comm, mul_left_comm, one-mul, mul-one}
use native.Mathlib.Decide.{dec_le}
use native.Mathlib.Omega.{arith}
use Rattle.numbers.specs.inner.Order.{dist}

-- products in one order, for both sides of an equation that omega closes
pub ruleset ring = (one-mul, mul-one, mul-add, add-mul, mul_assoc, mul_comm, mul_left_comm)

pub lt_or_le : (a b : ℕ) → (a < b) ⊎ (b ≤ a)
lt_or_le a b = go (dec_le b a)
  where
    go : Dec (b ≤ a) → (a < b) ⊎ (b ≤ a)
    go (yes h) = inr h
    go (no f) = inl (lt_of_not-le f)

pub eq_or_ne : (a b : ℕ) → (a ≡ b) ⊎ (a ≡ b → ⊥)
eq_or_ne a b = go (lt_or_le a b) (lt_or_le b a)
  where
    go : (a < b) ⊎ (b ≤ a) → (b < a) ⊎ (a ≤ b) → (a ≡ b) ⊎ (a ≡ b → ⊥)
    go (inl h) k = inr (λ e. omega arith)
    go (inr h) (inl k) = inr (λ e. omega arith)
    go (inr h) (inr k) = inl (omega arith)

-- what holds of a + k, for every k, holds of each b from a on
pub from_le : {a b : ℕ} (P : ℕ → Type 0) → a ≤ b → ((k : ℕ) → P (a + k)) → P b
from_le P h f = subst P (le_dest h).1 (f (le_dest h).0)

-- what holds of 0, 1 and so on, n of them one by one, holds of each k below n
abbrev pub AllBelow : ℕ → (ℕ → Type 0) → Type 0
AllBelow zero P = Unit {0}
AllBelow (suc n) P = AllBelow n P × P n

pub below : (n : ℕ) (P : ℕ → Type 0) → AllBelow n P → (k : ℕ) → k < n → P k
below zero P a k h = absurd (omega arith)
below (suc n) P a k h = ⊎_elim (λ i. below n P a.0 k i) (λ i. let e : n ≡ k = omega arith in subst P e a.1) (lt_or_le k n)

-- (b − a)·(d − c) is not negative
pub cross : {a b c d : ℕ} → a ≤ b → c ≤ d → a * d + b * c ≤ a * c + b * d
cross {a} {b} {c} {d} p q =
    from_le (λ (b : ℕ). a * d + b * c ≤ a * c + b * d) p (λ k. from_le (λ (d : ℕ). a * d + (a + k) * c ≤ a * c + (a + k) * d) q (λ j. omega arith))

pub square_le : {a b : ℕ} → a ≤ b → a * a ≤ b * b
square_le p = mul-le-mul p p

pub twice_product : (a b : ℕ) → 2 * (a * b) ≤ a * a + b * b
twice_product a b = ⊎_elim (λ p. omega (arith, cross p p)) (λ p. omega (arith, cross p p)) (lt_or_le a b)

-- ---- tests

-- either of two numbers that are at most m
pub cond_le : (t : Bool) {a b m : ℕ} → a ≤ m → b ≤ m → cond t a b ≤ m
cond_le true h k = h
cond_le false h k = k

pub both_true : (a b : Bool) → (a && b) ≡ true → (a ≡ true) × (b ≡ true)
both_true true true e = (refl, refl)
both_true true false e = absurd (let z : ◌≡◌ {A = ℕ} 0 1 = cc in omega arith)
both_true false b e = absurd (let z : ◌≡◌ {A = ℕ} 0 1 = cc in omega arith)

-- a distance in units that are k times as small
pub dist-times : (u w k : ℕ) → dist u w * k ≡ dist (u * k) (w * k)
dist-times u w k = ⊎_elim (λ (h : u < w). low u w (omega arith)) (λ h. swap (low w u h)) (lt_or_le u w)
  where
    low : (u w : ℕ) → u ≤ w → dist u w * k ≡ dist (u * k) (w * k)
    low u w h =
        let t : w - u + u ≡ w = omega arith in
        let z : dist u w ≡ w - u = omega arith in
        rw z (omega (arith, ap (λ (v : ℕ). v * k) t, mul-le-mul_right k h))

    swap : dist w u * k ≡ dist (w * k) (u * k) → dist u w * k ≡ dist (u * k) (w * k)
    swap e =
        let z : dist u w ≡ dist w u = omega arith in
        rw z (e ∙ omega arith)

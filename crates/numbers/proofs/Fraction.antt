-- Laws of fractions.
use mathlib.Core.Path.{◌≡◌, ap, ap₂, subst}
use Prim.Native.Nat.{ℕ, ◌*◌, ◌<◌}
use native.Mathlib.Nat.{mul_comm, add_comm, le_of_mul-le-mul_left, mul-le-mul_left}
use native.Mathlib.Omega.{arith}
use Rattle.numbers.specs.Fraction.{Frac, ◌over◌, ◌⊕◌, ◌≼◌, Within}
use Rattle.numbers.proofs.Order.{ring}

pub ⊕_comm : (p q : Frac) → p ⊕ q ≡ q ⊕ p
⊕_comm p q = ap₂ ◌over◌ (add_comm (p.num * q.den) (q.num * p.den)) (mul_comm p.den q.den)

-- p ≤ q + a and q ≤ r + b: p ≤ r + (b + a)
≼_step : (p q r a b : Frac) → 0 < q.den → p ≼ q ⊕ a → q ≼ r ⊕ b → p ≼ r ⊕ (b ⊕ a)
≼_step p q r a b pos h k =
    le_of_mul-le-mul_left {k = q.den}
    (let h' = simp ring at (mul-le-mul_left (r.den * b.den) h) in
    let k' = simp ring at (mul-le-mul_left (p.den * a.den) k) in
    simp ring (omega arith))
    pos

-- distances add up
pub triangle : (p q r a b : Frac) → 0 < q.den → Within p q a → Within q r b → Within p r (b ⊕ a)
triangle p q r a b pos h k = (
  ≼_step p q r a b pos h.0 k.0,
  subst (λ (s : Frac). r ≼ p ⊕ s) (⊕_comm a b) (≼_step r q p b a pos k.1 h.1),
)

-- a fraction is within any bound of itself, and of one with the same value
pub within_same : (p q b : Frac) → p.num * q.den ≡ q.num * p.den → Within p q b
within_same p q b e =
    let k = simp ring at (ap (λ (x : ℕ). b.den * x) e) in
    (simp ring (omega arith), simp ring (omega arith))

-- sums keep the order
pub ⊕_le : (p q r : Frac) → p ≼ q → p ⊕ r ≼ q ⊕ r
⊕_le p q r h = omega (arith, mul-le-mul_left (r.den * r.den) h)

-- two sums are within the sum of what their parts are within
sum_le : (p q a p' q' b : Frac) → p ≼ q ⊕ a → p' ≼ q' ⊕ b → p ⊕ p' ≼ q ⊕ q' ⊕ (a ⊕ b)
sum_le p q a p' q' b h k =
    let h' = simp ring at (mul-le-mul_left (p'.den * q'.den * b.den) h) in
    let k' = simp ring at (mul-le-mul_left (p.den * q.den * a.den) k) in
    simp ring (omega arith)

pub within-sum : (p q a p' q' b : Frac) → Within p q a → Within p' q' b → Within (p ⊕ p') (q ⊕ q') (a ⊕ b)
within-sum p q a p' q' b h k = (sum_le p q a p' q' b h.0 k.0, sum_le q p a q' p' b h.1 k.1)

-- a wider bound
pub within_wider : (p q a b : Frac) → 0 < a.den → a ≼ b → Within p q a → Within p q b
within_wider p q a b pos h w = (wider p q w.0, wider q p w.1)
  where
    wider : (p q : Frac) → p ≼ q ⊕ a → p ≼ q ⊕ b
    wider p q k =
        le_of_mul-le-mul_left {k = a.den}
        (let k' = simp ring at (mul-le-mul_left b.den k) in
        let h' = simp ring at (mul-le-mul_left (p.den * q.den) h) in
        simp ring (omega arith))
        pos

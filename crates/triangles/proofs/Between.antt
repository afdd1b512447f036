-- What lies between two cuts of a row.
use mathlib.Core.Path.{◌≡◌, ap}
use Prim.Native.Nat.{ℕ, ◌+◌, ◌-◌, ◌*◌, ◌≤◌, ◌<◌}
use native.Mathlib.Nat.{mul-le-mul, mul-le-mul_left, mul-le-mul_right}
use native.Mathlib.Omega.{arith}
use Rattle.numbers.specs.inner.Equal.{Equal}
use Rattle.numbers.specs.inner.Order.{dist}
use Rattle.edges.proofs.Under.{whole_pos}
use Rattle.edges.proofs.Edge.{at_le}
use Rattle.triangles.specs.inner.Side.{left_of, CutFit}
use Rattle.triangles.specs.inner.Row.{right_of, between_of}
use Rattle.triangles.specs.declared.side.Cut.{Cut}

pub left_le : (c : Cut) (z : ℕ) → CutFit c → left_of c z ≤ c.d
left_le c z f = omega (arith, at_le c.h c.low c.high z, f.whole)

pub whole-some : (c : Cut) → CutFit c → 0 < c.d
whole-some c f = omega (arith, f.whole, whole_pos c.h (dist c.low c.high) f.some)

pub whole_both : (a b : Cut) → CutFit a → CutFit b → 0 < a.d * b.d
whole_both a b f g =
    let p : 1 ≤ a.d = whole-some a f in
    let q : 1 ≤ b.d = whole-some b g in
    mul-le-mul p q

pub between_le : (a b : Cut) (z : ℕ) → CutFit a → CutFit b → between_of a b z ≤ a.d * b.d
between_le a b z f g = omega (arith, mul-le-mul_right b.d (left_le a z f), mul-le-mul_left a.d (left_le b z g))

-- ---- a leaves off before b begins
module _ (a b : Cut) (f : CutFit a) (g : CutFit b) (apart : a.end ≤ b.column) (z : ℕ) where
  part_equal : {n d : ℕ} (k : ℕ) → 0 < d → n ≤ d → between_of a b z ≡ n * k → a.d * b.d ≡ d * k → Equal n d (between_of a b z) (a.d * b.d)
  part_equal {n} {d} k some part e h =
      record { cross = rw (e, h) (omega arith); some = some; some' = whole_both a b f g; part = part; part' = between_le a b z f g }

  -- only a leaves in part what is before b
  pub equal_left : z < b.column → Equal (right_of a z) a.d (between_of a b z) (a.d * b.d)
  equal_left h =
      let whole : left_of b z ≡ b.d = g.before z h in
      let n : ℕ = a.d - left_of a z in
      let k : a.d ≡ left_of a z + n = omega (arith, left_le a z f) in
      part_equal b.d (whole-some a f) (omega arith) (rw whole (omega (arith, ap (λ (x : ℕ). x * b.d) k))) (omega arith)

  -- only b what is past a
  pub equal_right : a.end ≤ z → Equal (left_of b z) b.d (between_of a b z) (a.d * b.d)
  equal_right h =
      let none : left_of a z ≡ 0 = f.past z h in
      part_equal a.d (whole-some b g) (left_le b z g) (rw none (omega arith)) (omega arith)

  pub whole-between : a.end ≤ z → z < b.column → between_of a b z ≡ a.d * b.d
  whole-between h k =
      let none : left_of a z ≡ 0 = f.past z h in
      let whole : left_of b z ≡ b.d = g.before z k in
      rw (none, whole) (omega arith)

-- ---- any two
pub none_before : (a b : Cut) (z : ℕ) → CutFit a → CutFit b → z < a.column → z < b.column → between_of a b z ≡ 0
none_before a b z f g h k =
    let p : left_of a z ≡ a.d = f.before z h in
    let q : left_of b z ≡ b.d = g.before z k in
    rw (p, q) (omega arith)

pub none-past : (a b : Cut) (z : ℕ) → CutFit a → CutFit b → a.end ≤ z → b.end ≤ z → between_of a b z ≡ 0
none-past a b z f g h k =
    let p : left_of a z ≡ 0 = f.past z h in
    let q : left_of b z ≡ 0 = g.past z k in
    rw (p, q) (omega arith)

-- A triangle's coverage by coordinates is that by their offsets.
use mathlib.Core.Path.{◌≡◌}
use Prim.Native.Nat.{ℕ, ◌*◌, ◌^◌, ◌≤◌}
use native.Mathlib.Nat.{mul-le-mul}
use native.Mathlib.Omega.{arith}
use lib.IntN.{ℤ, pos, ◌+ℤ◌, ◌-ℤ◌}
use Rattle.numbers.specs.inner.Offset.{offset_of}
use Rattle.numbers.proofs.Integer.{diff_pos, diff_add, diff_minus, diff_unique}
use Rattle.numbers.proofs.Coordinate.{InRange, offset_diff, le_offset}
use Rattle.edges.specs.Edge.{edge_d}
use Rattle.edges.specs.inner.Strip.{whole_most}
use Rattle.numbers.specs.inner.Order.{dist}
use Rattle.limits.specs.Limits.{triangle_most}
use Rattle.shapes.specs.inner.Offsets.{corners_of}
use Rattle.shapes.specs.declared.Triangle.{Triangle}
use Rattle.limits.proofs.Triangles.{LawfulTriangle}
use Rattle.sides.specs.Triangle.{Corner, share_n, side_n, side_d, cover_n, cover_d, first, second, third, triangle_cover, triangle_whole}
use Rattle.sides.specs.inner.Offsets.{at, offset_n, offset_d, Near, NearCorners}
use Rattle.sides.proofs.Found.{side_most}

pub record Placed (a : Corner) : Type 0 where
  pub x_in : InRange a.x
  pub y_in : InRange a.y

abbrev pub placed : Corner → Corner
placed a = at (offset_of a.x) (offset_of a.y)

-- differences are those of the offsets
less-same : {p q : ℤ} → InRange p → InRange q → p -ℤ q ≡ pos (offset_of p) -ℤ pos (offset_of q)
less-same {p} {q} h g =
    diff_unique (offset_diff h g) (diff_minus (diff_pos (offset_of p)) (diff_pos (offset_of q))) (omega arith)

next-same : {p q : ℤ} → InRange p → InRange q → p -ℤ (q +ℤ pos 1) ≡ pos (offset_of p) -ℤ (pos (offset_of q) +ℤ pos 1)
next-same {p} {q} h g =
    diff_unique (diff_minus h.diff (diff_add g.diff (diff_pos 1))) (diff_minus (diff_pos (offset_of p)) (diff_add (diff_pos (offset_of q)) (diff_pos 1))) (omega arith)

module _ (a b : Corner) (p : Placed a) (q : Placed b) where
  pub whole_same : side_d a b ≡ side_d (placed a) (placed b)
  unfolding side_d edge_d
  whole_same = rw (less-same q.x_in p.x_in, less-same q.y_in p.y_in)

  module _ (x y : ℤ) (h : InRange x) (g : InRange y) where
    share_same : share_n a b x y ≡ share_n (placed a) (placed b) (pos (offset_of x)) (pos (offset_of y))
    unfolding share_n
    share_same = rw (less-same h p.x_in, next-same q.x_in h, less-same p.y_in g, less-same q.y_in g)

side_same : (a b : Corner) (x y : ℤ) → Placed a → Placed b → InRange x → InRange y → side_n a b x y ≡ side_n (placed a) (placed b) (pos (offset_of x)) (pos (offset_of y))
unfolding side_n
side_same a b x y p q h g =
    rw (le_offset p.x_in h, le_offset q.x_in h, share_same a b p q x y h g, share_same b a q p x y h g)

module _ (a b c : Corner) (x y : ℤ) (p : Placed a) (q : Placed b) (r : Placed c) (h : InRange x) (g : InRange y) where
  pub cover_same : cover_n a b c x y ≡ cover_n (placed a) (placed b) (placed c) (pos (offset_of x)) (pos (offset_of y))
  unfolding cover_n
  cover_same =
      rw (side_same a b x y p q h g, side_same b c x y q r h g, side_same c a x y r p h g, whole_same a b p q, whole_same b c q r, whole_same c a r p)

pub over-same : (a b c : Corner) → Placed a → Placed b → Placed c → cover_d a b c ≡ cover_d (placed a) (placed b) (placed c)
unfolding cover_d
over-same a b c p q r = rw (whole_same a b p q, whole_same b c q r, whole_same c a r p)

near : {xa ya xb yb : ℤ} → InRange xa → InRange ya → InRange xb → InRange yb
    → dist (offset_of xa) (offset_of xb) ≤ triangle_most
    → dist (offset_of ya) (offset_of yb) ≤ triangle_most
    → Near (offset_of xa) (offset_of ya) (offset_of xb) (offset_of yb)
near p q r s h g =
    record {
      wide = h;
      high = g;
      x_in = omega (arith, p.less);
      y_in = omega (arith, q.less);
      x_in' = omega (arith, r.less);
      y_in' = omega (arith, s.less);
    }

product_most : {a b c : ℕ} → a ≤ whole_most → b ≤ whole_most → c ≤ whole_most → a * b * c ≤ 2 ^ 45
product_most p q r = omega (arith, mul-le-mul (mul-le-mul p q) r)

-- ---- a lawful triangle
module _ (t : Triangle) (l : LawfulTriangle t) where
  first-placed : Placed (first t)
  first-placed = record { x_in = l.corners.x0_in; y_in = l.corners.y0_in }

  second-placed : Placed (second t)
  second-placed = record { x_in = l.corners.x1_in; y_in = l.corners.y1_in }

  third-placed : Placed (third t)
  third-placed = record { x_in = l.corners.x2_in; y_in = l.corners.y2_in }

  pub cover_placed : {x y : ℤ} → InRange x → InRange y → triangle_cover t x y ≡ offset_n (corners_of t) (offset_of x) (offset_of y)
  cover_placed {x} {y} h g = cover_same (first t) (second t) (third t) x y first-placed second-placed third-placed h g

  pub whole-placed : triangle_whole t ≡ offset_d (corners_of t)
  whole-placed = over-same (first t) (second t) (third t) first-placed second-placed third-placed

  pub near-placed : NearCorners (corners_of t)
  near-placed =
      let c = l.corners in
      record {
        first = near c.x0_in c.y0_in c.x1_in c.y1_in l.x01 l.y01;
        second = near c.x1_in c.y1_in c.x2_in c.y2_in l.x12 l.y12;
        third = near c.x2_in c.y2_in c.x0_in c.y0_in l.x20 l.y20;
      }

  -- no query answers with a greater d
  pub triangle_most_lem : triangle_whole t ≤ 2 ^ 45
  unfolding cover_d
  triangle_most_lem =
      let n = near-placed in
      rw whole-placed (product_most (side_most _ _ _ _ n.first) (side_most _ _ _ _ n.second) (side_most _ _ _ _ n.third))

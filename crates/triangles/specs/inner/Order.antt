-- The corners of a triangle in another order.
use Rattle.std.specs.Prelude.{◌≡◌, ℕ, ◌≤◌, cond, leb}
use Rattle.shapes.specs.declared.Corners.{Corners}
use Rattle.shapes.specs.declared.Point.{Point}
use Rattle.sides.specs.inner.Offsets.{offset_n, offset_d, NearCorners}

abbrev pub corners : Point → Point → Point → Corners
corners a b c = record { x0 = a.x; y0 = a.y; x1 = b.x; y1 = b.y; x2 = c.x; y2 = c.y }

-- two corners in the order in which y rises
abbrev pub rising : Point → Point → Point × Point
rising a b = cond (leb a.y b.y) (a, b) (b, a)

-- the same coverage
pub record Reordered (c r : Corners) : Type 0 where
  pub near : NearCorners r
  pub same : (x y : ℕ) → offset_n r x y ≡ offset_n c x y
  pub over : offset_d r ≡ offset_d c

-- and in the order in which y rises
pub record Sorted (c r : Corners) : Type 0 where
  pub reordered : Reordered c r
  pub first : r.y0 ≤ r.y1
  pub last : r.y1 ≤ r.y2

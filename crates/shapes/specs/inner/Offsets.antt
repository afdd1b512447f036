-- The coordinates of a point, of a line's ends and of a triangle's corners as offsets.
use Rattle.std.specs.Prelude.{Bool, ℕ, ◌+◌, ◌*◌, ◌-◌, min, max, eqb, ℤ}
use Rattle.numbers.specs.inner.Offset.{offset_of}
use Rattle.shapes.specs.declared.Line.{Line}
use Rattle.shapes.specs.declared.Disc.{Disc}
use Rattle.shapes.specs.declared.Ring.{Ring}
use Rattle.shapes.specs.declared.Triangle.{Triangle}
use Rattle.shapes.specs.declared.Point.{Point}
use Rattle.shapes.specs.declared.Ends.{Ends}
use Rattle.shapes.specs.declared.Corners.{Corners}

abbrev pub point_of : ℤ → ℤ → Point
point_of x y = record { x = offset_of x; y = offset_of y }

-- the disc around a ring
abbrev pub outer : Ring → Disc
outer g = record { x = g.x; y = g.y; radius = g.radius; big = g.big }

abbrev pub ends_of : Line → Ends
ends_of l = record { x0 = offset_of l.x0; y0 = offset_of l.y0; x1 = offset_of l.x1; y1 = offset_of l.y1 }

abbrev pub corners_of : Triangle → Corners
corners_of t =
    record { x0 = offset_of t.x0; y0 = offset_of t.y0; x1 = offset_of t.x1; y1 = offset_of t.y1; x2 = offset_of t.x2; y2 = offset_of t.y2 }

-- the greatest and the least of three offsets, and how far they are apart
abbrev pub greatest_of : ℕ → ℕ → ℕ → ℕ
greatest_of a b c = max (max a b) c

abbrev pub least_of : ℕ → ℕ → ℕ → ℕ
least_of a b c = min (min a b) c

abbrev pub spread_of : ℕ → ℕ → ℕ → ℕ
spread_of a b c = greatest_of a b c - least_of a b c

-- the greatest offset of the corners, and the greater of their spreads
abbrev pub farthest : Corners → ℕ
farthest c = max (greatest_of c.x0 c.x1 c.x2) (greatest_of c.y0 c.y1 c.y2)

abbrev pub widest : Corners → ℕ
widest c = max (spread_of c.x0 c.x1 c.x2) (spread_of c.y0 c.y1 c.y2)

-- the corners are on one straight line: both ways round, the products of neighbours add up to the same
unfoldable pub straight : Corners → Bool
straight c = eqb (c.x0 * c.y1 + c.x1 * c.y2 + c.x2 * c.y0) (c.x1 * c.y0 + c.x2 * c.y1 + c.x0 * c.y2)

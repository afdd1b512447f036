-- A triangle by its rows, and by the offsets of its corners.
use Rattle.std.specs.Prelude.{◌≡◌, ℕ, ◌*◌, ◌≤◌, ℤ, pos}
use Rattle.numbers.specs.inner.Order.{dist}
use Rattle.numbers.specs.inner.Offset.{offset_most}
use Rattle.limits.specs.Limits.{triangle_most}
use Rattle.shapes.specs.declared.Point.{Point}
use Rattle.shapes.specs.declared.Corners.{Corners}
use Rattle.sides.specs.Triangle.{Corner, share_n, side_n, side_d, cover_n, cover_d}

-- x and y exchanged: the same triangle by its rows
abbrev pub turned : Corner → Corner
turned a = record { x = a.y; y = a.x }

-- the share of a pixel to the left of a side that goes up from a to b across its row, n over d
abbrev pub row_n : Corner → Corner → ℤ → ℤ → ℕ
row_n a b x y = share_n (turned a) (turned b) y x

abbrev pub row_d : Corner → Corner → ℕ
row_d a b = side_d (turned a) (turned b)

-- what is to the left of the sides a b and a' b' of a row, one less the other, n over d
abbrev pub between_n : Corner → Corner → Corner → Corner → ℤ → ℤ → ℕ
between_n a b a' b' x y = dist (row_n a b x y * row_d a' b') (row_n a' b' x y * row_d a b)

abbrev pub between_d : Corner → Corner → Corner → Corner → ℕ
between_d a b a' b' = row_d a b * row_d a' b'

-- a corner at offsets
abbrev pub at : ℕ → ℕ → Corner
at x y = record { x = pos x; y = pos y }

abbrev pub corner : Point → Corner
corner p = at p.x p.y

-- the coverage of the pixel of offsets x and y by the triangle with its corners at offsets, n over d
abbrev pub offset_n : Corners → ℕ → ℕ → ℕ
offset_n c x y = cover_n (at c.x0 c.y0) (at c.x1 c.y1) (at c.x2 c.y2) (pos x) (pos y)

abbrev pub offset_d : Corners → ℕ
offset_d c = cover_d (at c.x0 c.y0) (at c.x1 c.y1) (at c.x2 c.y2)

-- the ends of a side, in range and not too far apart
pub record Near (xa ya xb yb : ℕ) : Type 0 where
  pub wide : dist xa xb ≤ triangle_most
  pub high : dist ya yb ≤ triangle_most
  pub x_in : xa ≤ offset_most
  pub y_in : ya ≤ offset_most
  pub x_in' : xb ≤ offset_most
  pub y_in' : yb ≤ offset_most

-- so are those of each side
pub record NearCorners (c : Corners) : Type 0 where
  pub first : Near c.x0 c.y0 c.x1 c.y1
  pub second : Near c.x1 c.y1 c.x2 c.y2
  pub third : Near c.x2 c.y2 c.x0 c.y0

-- a side at pixel (x, y), n over d
pub record SideIs (xa ya xb yb x y : ℕ) (n : ℤ) (d : ℕ) : Type 0 where
  pub value : n ≡ side_n (at xa ya) (at xb yb) (pos x) (pos y)
  pub whole : d ≡ side_d (at xa ya) (at xb yb)

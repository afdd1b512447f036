-- A side as the code holds it, and where it stands in a row.
use Rattle.std.specs.Prelude.{◌≡◌, ℕ, ◌+◌, ◌-◌, ◌*◌, ◌^◌, ◌≤◌, ◌<◌, pos}
use Rattle.numbers.specs.inner.Inverse.{Inverse}
use Rattle.numbers.specs.inner.Order.{dist}
use Rattle.edges.specs.Edge.{under_d}
use Rattle.edges.specs.inner.Strip.{under_at, span_most, height_most, whole_most}
use Rattle.sides.specs.inner.Offsets.{at, row_n, row_d}
use Rattle.triangles.specs.declared.side.Side.{Side}
use Rattle.triangles.specs.declared.side.Cut.{Cut}

-- the lower of the two places that a side stands between in row y, and the higher
abbrev pub low_on : Side → ℕ → ℕ
low_on s y = s.start + (y - s.y) * s.right - (y - s.y) * s.left

abbrev pub high_on : Side → ℕ → ℕ
high_on s y = low_on s y + s.right + s.left

-- what it has on its left in the pixel of offsets x and y, over its d
abbrev pub left_on : Side → ℕ → ℕ → ℕ
left_on s x y = under_at s.h (low_on s y) (high_on s y) x

-- a side that the code can work with; it stays at 0 or above, and below the greatest height
pub record SideFit (s : Side) : Type 0 where
  pub some : 0 < s.h
  pub wide : s.h ≤ span_most
  pub slope : s.right + s.left ≤ span_most
  pub stays : (i : ℕ) → i < s.h → (i * s.left ≤ s.start) × (s.start + i * s.right + s.right + s.left ≤ height_most)
  pub whole : s.d ≡ under_d s.h (s.right + s.left)
  pub whole-most : s.d ≤ whole_most
  pub inverted : Inverse (2 ^ 32) s.h s.inverse

-- that of the side from (xa, ya) up to (xb, yb)
pub record SideIs (xa ya xb yb : ℕ) (s : Side) : Type 0 where
  pub first : s.y ≡ ya
  pub last : s.y + s.h ≡ yb
  pub left : (x y : ℕ) → ya ≤ y → y < yb → row_n (at xa ya) (at xb yb) (pos x) (pos y) ≡ left_on s x y
  pub over : row_d (at xa ya) (at xb yb) ≡ s.d

-- what a cut has on its left in the pixel of offset z, over its d
abbrev pub left_of : Cut → ℕ → ℕ
left_of c z = under_at c.h c.low c.high z

-- a cut that the code can work with, which leaves columns before `column` whole on its left, and those from `end` on not at all
pub record CutFit (c : Cut) : Type 0 where
  pub some : 0 < c.h
  pub wide : c.h ≤ span_most
  pub high-most : c.high ≤ height_most
  pub rises : c.low ≤ c.high
  pub slope : c.high ≤ c.low + span_most
  pub whole : c.d ≡ under_d c.h (dist c.low c.high)
  pub whole-most : c.d ≤ whole_most
  pub before : (z : ℕ) → z < c.column → left_of c z ≡ c.d
  pub past : (z : ℕ) → c.end ≤ z → left_of c z ≡ 0
  pub order : c.column ≤ c.end

-- that of a side in row y
pub record CutOf (s : Side) (y : ℕ) (c : Cut) : Type 0 where
  pub fit : CutFit c
  pub left : (x : ℕ) → left_of c x ≡ left_on s x y
  pub over : c.d ≡ s.d

-- A row between two sides, on a page.
use Rattle.std.specs.Prelude.{◌≡◌, List, ℕ, ◌+◌, ◌-◌, ◌*◌, ◌≤◌, ◌<◌, pos}
use Rattle.numbers.specs.inner.Equal.{Equal}
use Rattle.numbers.specs.inner.Offset.{origin, offset_most}
use Rattle.numbers.specs.inner.Order.{dist}
use Rattle.sides.specs.inner.Offsets.{at, row_n, row_d}
use Rattle.page.specs.inner.Paint.{clipped, Lawful, Drawn}
use Rattle.page.specs.declared.View.{View}
use Rattle.triangles.specs.inner.Side.{left_of, left_on, CutFit}
use Rattle.triangles.specs.declared.side.Side.{Side}
use Rattle.triangles.specs.declared.side.Cut.{Cut}

-- what a cut has on its right in the pixel of offset z, over its d
abbrev pub right_of : Cut → ℕ → ℕ
right_of c z = c.d - left_of c z

-- what is on the left of one cut less what is on the left of another, over both d
abbrev pub between_of : Cut → Cut → ℕ → ℕ
between_of a b z = dist (left_of a z * b.d) (left_of b z * a.d)

-- the same of two sides in any row
abbrev pub between_on : Side → Side → ℕ → ℕ → ℕ
between_on s t x y = dist (left_on s x y * t.d) (left_on t x y * s.d)

-- the same of the side from (xa, ya) up to (xb, yb) and another
abbrev pub beside_on : ℕ → ℕ → ℕ → ℕ → Side → ℕ → ℕ → ℕ
beside_on xa ya xb yb t x y = dist (row_n (at xa ya) (at xb yb) (pos x) (pos y) * t.d) (left_on t x y * row_d (at xa ya) (at xb yb))

-- columns from to end of row y are drawn on l, in an ink, by the coverage n of offsets, which gives m and touches t pixels
abbrev pub RowDrawn : View → (ℕ → ℕ → ℕ) → (ℕ → ℕ) → ℕ → ℕ → ℕ → List ℕ → List ℕ → ℕ → Type 0
RowDrawn view ink n y from end l m t = Drawn view.w view.h ink (clipped from y end (y + 1) (λ x _. n (x + origin))) l m t

-- so are rows from to end, in the clip's columns
abbrev pub RowsDrawn : View → (ℕ → ℕ → ℕ) → (ℕ → ℕ → ℕ) → ℕ → ℕ → List ℕ → List ℕ → ℕ → Type 0
RowsDrawn view ink n from end l m t = Drawn view.w view.h ink (clipped view.x0 from view.x1 end (λ x y. n (x + origin) (y + origin))) l m t

-- a page of size bytes, and columns from to end of one of its rows
pub record Stretch (view : View) (size y from end : ℕ) : Type 0 where
  pub lawful : Lawful view size
  pub row : y < view.h
  pub order : from ≤ end
  pub last : end ≤ view.w

-- what may be asked for each offset, and answers no more than d
abbrev pub Covering : (ℕ → Type 0) → (ℕ → ℕ → Type 0) → ℕ → Type 0
Covering pre post d = (z : ℕ) → z ≤ offset_most → pre z × ((k : ℕ) → post z k → k ≤ d)

-- what answers the coverage n of each offset
abbrev pub Gives : (ℕ → ℕ → Type 0) → (ℕ → ℕ) → Type 0
Gives post n = (z k : ℕ) → z ≤ offset_most → post z k → k ≡ n z

-- inks of coverages over d and over d' that leave the same byte at the same share of a pixel
pub record Alike (ink : ℕ → ℕ → ℕ) (d : ℕ) (ink' : ℕ → ℕ → ℕ) (d' : ℕ) : Type 0 where
  pub same : (u k k' : ℕ) → Equal k d k' d' → ink k u ≡ ink' k' u

-- a row of the clip and two cuts of it, whose shares are over d and over d'
pub record Ready (view : View) (size : ℕ) (a b : Cut) (d d' y : ℕ) : Type 0 where
  pub lawful : Lawful view size
  pub row : y < view.h
  pub first : CutFit a
  pub second : CutFit b
  pub over : d ≡ a.d
  pub over' : d' ≡ b.d

-- rows from to end lie from offset low to before offset high
pub record Between (low high from end : ℕ) : Type 0 where
  pub order : from ≤ end
  pub below : (y : ℕ) → from ≤ y → y < end → low ≤ y + origin
  pub above : (y : ℕ) → from ≤ y → y < end → y + origin < high

-- rows of the page that a side crosses
pub record Crossed (view : View) (s : Side) (from end : ℕ) : Type 0 where
  pub inside : end ≤ view.h
  pub rows : Between s.y (s.y + s.h) from end

-- The frame of a line as the code holds it.
use Rattle.std.specs.Prelude.{Bool, true, cond, ◌≡◌, ℕ, ◌+◌, ◌-◌, ◌≤◌, ◌<◌, leb, ltb}
use Rattle.numbers.specs.Coordinate.{in_range}
use Rattle.numbers.specs.inner.Order.{dist}
use Rattle.numbers.specs.inner.Offset.{offset_most, offset_of}
use Rattle.shapes.specs.declared.Line.{Line}
use Rattle.shapes.specs.declared.Ends.{Ends}
use Rattle.shapes.specs.Span.{longer, shorter, steep}
use Rattle.bands.specs.Frame.{framed, falls}
use Rattle.bands.specs.declared.Frame.{Frame}

-- the row 0 of a frame is counted as this, so that no row is negative
abbrev pub row_origin : ℕ
row_origin = 16384

-- the row, so counted, at offset b across the longer span, with the first end at offset y; mirrored where the line falls
abbrev pub row_by : Bool → ℕ → ℕ → ℕ
row_by falls y b = cond falls (y + (row_origin - 1) - b) (b + row_origin - y)

abbrev pub row_at : Frame → ℕ → ℕ
row_at f b = row_by f.falls f.y b

-- the ends by their offsets: x and y exchanged where y is the longer, and then in the order in which x rises
abbrev pub exchanged_by : Bool → Ends → Ends
exchanged_by steep e = cond steep (record { x0 = e.y0; y0 = e.x0; x1 = e.y1; y1 = e.x1 }) e

abbrev pub in_order : Ends → Ends
in_order e = cond (leb e.x0 e.x1) e (record { x0 = e.x1; y0 = e.y1; x1 = e.x0; y1 = e.y0 })

-- the frame as the code holds it, of ends in that order
pub record Rising (steep : Bool) (e : Ends) (f : Frame) : Type 0 where
  pub l_is : f.l ≡ e.x1 - e.x0
  pub s_is : f.s ≡ dist e.y0 e.y1
  pub steep-is : f.steep ≡ steep
  pub falls-is : f.falls ≡ ltb e.y1 e.y0
  pub x-is : f.x ≡ e.x0
  pub y-is : f.y ≡ e.y0

-- and of a line
pub record Framed (n : Line) (f : Frame) : Type 0 where
  pub l_is : f.l ≡ longer n
  pub s_is : f.s ≡ shorter n
  pub steep-is : f.steep ≡ steep n
  pub falls-is : f.falls ≡ falls n
  pub x-is : f.x ≡ offset_of (framed n).x0
  pub y-is : f.y ≡ offset_of (framed n).y0
  pub x_in : in_range (framed n).x0 ≡ true
  pub y_in : in_range (framed n).y0 ≡ true
  pub long : 0 < f.l
  pub short : f.s ≤ f.l
  pub right : f.x + f.l ≤ offset_most
  pub high : f.y ≤ offset_most

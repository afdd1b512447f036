-- How the frame of a line lies on a page: p is the page's column of a frame's column, or its row where the line is steep.
use Rattle.std.specs.Prelude.{Bool, true, cond, ◌&&◌, ◌≡◌, List, ℕ, ◌+◌, ◌*◌, ◌-◌, ◌^◌, ◌≤◌, ◌<◌, leb, ltb, get_or, set}
use Rattle.numbers.specs.inner.Offset.{origin}
use Rattle.bands.specs.inner.Frame.{row_origin, row_at}
use Rattle.bands.specs.declared.Frame.{Frame}
use Rattle.bands.specs.declared.Rows.{Rows}
use Rattle.page.specs.inner.Paint.{dot, touch, clipped}
use Rattle.page.specs.declared.View.{View}
use Rattle.columns.specs.declared.layout.Layout.{Layout}

-- a pixel's coordinate along a frame's columns, and across them
abbrev pub along_of : Frame → ℕ → ℕ → ℕ
along_of f x y = cond f.steep y x

abbrev pub across_of : Frame → ℕ → ℕ → ℕ
across_of f x y = cond f.steep x y

-- the clip's range along them, and across
abbrev pub along_from : View → Frame → ℕ
along_from c f = cond f.steep c.y0 c.x0

abbrev pub along_end : View → Frame → ℕ
along_end c f = cond f.steep c.y1 c.x1

abbrev pub across_from : View → Frame → ℕ
across_from c f = cond f.steep c.x0 c.y0

abbrev pub across_end : View → Frame → ℕ
across_end c f = cond f.steep c.x1 c.y1

-- the columns before e end with the clip's and with the line's
pub record EndInside (c : View) (f : Frame) (e : ℕ) : Type 0 where
  pub right : e ≤ along_end c f
  pub last : e + origin ≤ f.x + f.l

-- columns from p to e, at least one, that the clip and the line have
pub record Between (c : View) (f : Frame) (p e : ℕ) : Type 0 where
  pub some : p < e
  pub left : along_from c f ≤ p
  pub first : f.x ≤ p + origin
  pub end : EndInside c f e

-- a coverage under the clip, in the frame's columns p to e alone
unfoldable pub strip : View → Frame → ℕ → ℕ → (ℕ → ℕ → ℕ) → ℕ → ℕ → ℕ
strip c f p e n = cond f.steep (clipped c.x0 p c.x1 e n) (clipped p c.y0 e c.y1 n)

-- the frame's row of a pixel
abbrev pub row_on : Frame → ℕ → ℕ → ℕ
row_on f x y = row_at f (across_of f x y + origin)

-- the offset across the columns of row g, with the row origin added
abbrev pub across_by : Bool → ℕ → ℕ → ℕ
across_by falls y g = cond falls (y + (2 * row_origin - 1) - g) (y + g)

-- the row of the clip's edge b, or of the other edge a where rows are mirrored
abbrev pub edge_by : Bool → ℕ → ℕ → ℕ → ℕ
edge_by falls y a b = cond falls (y + (row_origin - origin) - a) (b + (row_origin + origin) - y)

-- the byte of column p and row g, with the layout's origin added, so that a pixel off the page has one too
abbrev pub byte_at : Frame → Layout → ℕ → ℕ → ℕ
byte_at f lay p g = (p + origin) * lay.along + across_by f.falls f.y g * lay.across

pub record Laid (c : View) (f : Frame) (lay : Layout) : Type 0 where
  pub along-is : lay.along ≡ cond f.steep c.w 1
  pub across-is : lay.across ≡ cond f.steep 1 c.w
  pub falls-is : lay.falls ≡ f.falls
  pub low-is : lay.low ≡ edge_by f.falls f.y (across_end c f) (across_from c f)
  pub high_is : lay.high ≡ edge_by f.falls f.y (across_from c f) (across_end c f)
  pub origin-is : lay.origin ≡ origin * lay.along + (row_origin + origin) * lay.across

-- row g lies in the clip
abbrev pub shown : Layout → ℕ → Bool
shown lay g = leb lay.low g && ltb g lay.high

-- byte k of a page, blended by an ink at coverage n where its row is shown; and how many pixels that touches
abbrev pub spotted : Bool → (ℕ → ℕ → ℕ) → ℕ → ℕ → List ℕ → List ℕ
spotted t ink n k l = cond t (set l k (dot ink n (get_or l k 0))) l

abbrev pub counted : Bool → ℕ → ℕ
counted t n = cond t (touch n) 0

-- the byte of the row above, and of the row below
abbrev pub raised : Layout → ℕ → ℕ
raised lay k = cond lay.falls (k - lay.across) (k + lay.across)

abbrev pub lowered : Layout → ℕ → ℕ
lowered lay k = cond lay.falls (k + lay.across) (k - lay.across)

-- the rows of a column that are shown, blended, its middle pixel being byte k in row g; and how many pixels that touches
abbrev pub columned : Layout → (ℕ → ℕ → ℕ) → Rows → ℕ → ℕ → List ℕ → List ℕ
columned lay ink c k g l =
    spotted (shown lay (g - 1)) ink c.lower (lowered lay k - lay.origin)
    (spotted (shown lay g) ink c.middle (k - lay.origin)
    (spotted (shown lay (g + 1)) ink c.upper (raised lay k - lay.origin) l))

abbrev pub column_count : Layout → Rows → ℕ → ℕ
column_count lay c g = counted (shown lay (g + 1)) c.upper + counted (shown lay g) c.middle + counted (shown lay (g - 1)) c.lower

-- what a walk may touch from byte k in row g: the bytes of the rows around it that are shown lie on the page
pub record Reachable (lay : Layout) (k g size : ℕ) : Type 0 where
  pub least : lay.across ≤ k
  pub most : k + lay.across < 2 ^ 63
  pub row-least : 1 ≤ g
  pub row-most : g + 1 < 2 * row_origin
  pub upper : shown lay (g + 1) ≡ true → (lay.origin ≤ raised lay k) × (raised lay k - lay.origin < size)
  pub middle : shown lay g ≡ true → (lay.origin ≤ k) × (k - lay.origin < size)
  pub lower : shown lay (g - 1) ≡ true → (lay.origin ≤ lowered lay k) × (lowered lay k - lay.origin < size)

-- Which columns of a line a walk takes. A column is named by the page's column p, or by its row where the line is steep.
use Rattle.std.specs.Prelude.{Bool, ◌&&◌, ◌≡◌, ◌⊎◌, ℕ, ◌+◌, ◌-◌, ◌*◌, ◌≤◌, ◌<◌, ltb}
use Rattle.numbers.specs.inner.Offset.{origin, offset_most}
use Rattle.shapes.specs.declared.Line.{Line}
use Rattle.shapes.specs.declared.Shape.TheVariants.{Line as line}
use Rattle.coverage.specs.inner.OnPage.{shape_on}
use Rattle.bands.specs.inner.Rows.{edge_at}
use Rattle.bands.specs.Line.{row_of}
use Rattle.bands.specs.inner.Frame.{row_origin}
use Rattle.bands.specs.declared.Frame.{Frame}
use Rattle.page.specs.inner.Paint.{in_view}
use Rattle.page.specs.declared.View.{View}
use Rattle.columns.specs.inner.Layout.{along_of, along_from, along_end, strip, Between}
use Rattle.columns.specs.declared.layout.Layout.{Layout}

-- ---- those whose rows the clip has all

-- the row of the middle pixel of column p
abbrev pub row_in : Frame → ℕ → ℕ
row_in f p = row_origin + row_of f.l f.s (p + origin - f.x)

-- the clip keeps all rows of columns p to e: rows only rise, so that the first and the last column tell
pub record Inside (f : Frame) (lay : Layout) (p e : ℕ) : Type 0 where
  pub above_low : p < e → lay.low < row_in f p
  pub below-high : p < e → row_in f (e - 1) + 1 < lay.high

-- ---- those in which a line touches a pixel under the clip

-- the line covers pixel (x, y) of column p, which the clip keeps
pub record Touching (c : View) (n : Line) (f : Frame) (p : ℕ) : Type 0 where
  pub x : ℕ
  pub y : ℕ
  pub along-is : along_of f x y ≡ p
  pub covered : 0 < in_view c (shape_on (line n)) x y

-- columns from p to e are those: each is touched, and outside of them the line has no coverage in the clip
pub record Columns (c : View) (n : Line) (f : Frame) (p e : ℕ) : Type 0 where
  pub between : p < e → Between c f p e
  pub whole : (x y : ℕ) → strip c f p e (shape_on (line n)) x y ≡ in_view c (shape_on (line n)) x y
  pub each : (k : ℕ) → p ≤ k → k < e → Touching c n f k

-- ---- how they are found

-- columns from p to e, all that the clip and the line have in common
pub record Common (c : View) (f : Frame) (p e : ℕ) : Type 0 where
  pub between : p < e → Between c f p e
  pub all : (k : ℕ) → along_from c f ≤ k → k < along_end c f → f.x ≤ k + origin → k + origin < f.x + f.l → (p ≤ k) × (k < e)

-- columns p to e are a line's, and no number is too great
pub record PartFits (f : Frame) (p e : ℕ) : Type 0 where
  pub first : f.x ≤ p + origin
  pub order : p ≤ e
  pub last : e + origin ≤ f.x + f.l
  pub long : 0 < f.l
  pub short : f.s ≤ f.l
  pub right : f.x + f.l ≤ offset_most

-- nor is a row of the clip
pub record RowsFit (lay : Layout) : Type 0 where
  pub low : lay.low < 2 * row_origin
  pub high : lay.high ≤ 2 * row_origin

-- the band's upper edge at the left side of column p, over the floor of row 0
abbrev pub edge_in : Frame → ℕ → ℕ
edge_in f p = edge_at f.l f.s (p + origin - f.x)

-- columns a to b are those among columns p to e at which that edge has come to low and not yet to high
pub record Part (f : Frame) (low high p e a b : ℕ) : Type 0 where
  pub least : p ≤ a
  pub order : a ≤ b
  pub most : b ≤ e
  pub within : (k : ℕ) → a ≤ k → k < b → (low ≤ edge_in f k) × (edge_in f k < high)
  pub before : (k : ℕ) → p ≤ k → k < a → edge_in f k < low
  pub behind : (k : ℕ) → b ≤ k → k < e → high ≤ edge_in f k

-- columns a to b are among columns p to e, and inside
pub record InsidePart (f : Frame) (lay : Layout) (p e a b : ℕ) : Type 0 where
  pub least : p ≤ a
  pub order : a ≤ b
  pub most : b ≤ e
  pub inside : Inside f lay a b

-- the same edge over the floor of the row from which rows are counted
abbrev pub edge_over : Frame → ℕ → ℕ
edge_over f p = 2 * f.l * row_origin + edge_in f p

-- a touched row of column p is one of the clip's, or none is
abbrev pub Meets : Frame → Layout → ℕ → Type 0
Meets f lay p = (2 * f.l * lay.low < edge_over f p + 2 * f.s) × (edge_over f p < 2 * f.l * (lay.high + 1))

abbrev pub Misses : Frame → Layout → ℕ → Type 0
Misses f lay p = (edge_over f p + 2 * f.s ≤ 2 * f.l * lay.low) ⊎ (2 * f.l * (lay.high + 1) ≤ edge_over f p)

-- columns a to b are those among columns p to e of which the clip has a touched row
pub record TouchedPart (f : Frame) (lay : Layout) (p e a b : ℕ) : Type 0 where
  pub least : p ≤ a
  pub order : a ≤ b
  pub most : b ≤ e
  pub within : (k : ℕ) → a ≤ k → k < b → Meets f lay k
  pub outside : (k : ℕ) → p ≤ k → k < e → (k < a) ⊎ (b ≤ k) → Misses f lay k

-- the clip has the rows −1 to s, the only ones that a line can touch
abbrev pub has_rows : Layout → Frame → Bool
has_rows lay f = ltb lay.low row_origin && ltb (row_origin + f.s) lay.high

-- One line on one page, and a walk along its columns.
use Rattle.std.specs.Prelude.{cond, ◌≡◌, List, ℕ, ◌+◌, ◌-◌, ◌*◌, ◌^◌, ◌≤◌, ◌<◌, leb}
use Rattle.numbers.specs.inner.Offset.{origin, offset_most}
use Rattle.shapes.specs.declared.Shape.TheVariants.{Line as line}
use Rattle.bands.specs.Line.{row_of, rest_of}
use Rattle.bands.specs.inner.Rows.{whole_of}
use Rattle.bands.specs.inner.Frame.{row_origin, Framed}
use Rattle.coverage.specs.inner.OnPage.{shape_on}
use Rattle.bands.specs.declared.Frame.{Frame}
use Rattle.page.specs.inner.Paint.{Lawful, Drawn}
use Rattle.columns.specs.inner.Layout.{along_from, strip, EndInside, Laid, byte_at, raised}
use Rattle.columns.specs.declared.layout.Layout.{Layout}
use Rattle.steps.specs.declared.Stroke.{Stroke}
use Rattle.steps.specs.declared.Step.{Step}

-- ---- one step

-- a walk stands at a column: the byte, the row and the rest are the column's
pub record At (f : Frame) (lay : Layout) (at : Step) : Type 0 where
  pub k_is : at.k ≡ byte_at f lay at.p at.g
  pub g_is : at.g ≡ row_origin + row_of f.l f.s (at.p + origin - f.x)
  pub r-is : at.r ≡ rest_of f.l f.s (at.p + origin - f.x)

-- a walk may begin at column p: it is one of the line's, and no number is too great
pub record FirstFits (lay : Layout) (f : Frame) (p : ℕ) : Type 0 where
  pub first : f.x ≤ p + origin
  pub last : p + origin < f.x + f.l
  pub long : f.l ≤ offset_most
  pub short : f.s ≤ f.l
  pub high : f.y ≤ offset_most
  pub column : p ≤ 1024
  pub along : lay.along ≤ 1024
  pub across : lay.across ≤ 1024
  pub falls-is : lay.falls ≡ f.falls

-- a walk may go on to the next column: no number is too great
pub record NextFits (lay : Layout) (f : Frame) (at : Step) : Type 0 where
  pub long : f.l ≤ offset_most
  pub short : f.s ≤ f.l
  pub rest : at.r < 2 * f.l
  pub least : lay.across ≤ at.k
  pub most : at.k + lay.across + lay.along < 2 ^ 63
  pub row : at.g < 2 * row_origin
  pub column : at.p ≤ 1024
  pub few : at.touched ≤ 65535

-- the next column, after one that touched t pixels: it is in the next row where the rest and 2s come to 2l
pub record Advanced (lay : Layout) (f : Frame) (t : ℕ) (at to : Step) : Type 0 where
  pub p_is : to.p ≡ at.p + 1
  pub k_is : to.k ≡ cond (leb (2 * f.l) (at.r + 2 * f.s)) (raised lay at.k) at.k + lay.along
  pub g_is : to.g ≡ cond (leb (2 * f.l) (at.r + 2 * f.s)) (at.g + 1) at.g
  pub r-is : to.r ≡ cond (leb (2 * f.l) (at.r + 2 * f.s)) (at.r + 2 * f.s - 2 * f.l) (at.r + 2 * f.s)
  pub touched-is : to.touched ≡ at.touched + t

-- ---- a walk

-- a stroke that may be drawn on a page of size bytes
pub record Prepared (s : Stroke) (size : ℕ) : Type 0 where
  pub lawful : Lawful s.view size
  pub framed : Framed s.line s.frame
  pub laid : Laid s.view s.frame s.layout
  pub d-is : s.d ≡ whole_of s.line.exact s.frame.l s.frame.s

-- a walk stands at a column of the stroke, or after its last; three pixels a column bound its count
pub record Standing (s : Stroke) (at : Step) : Type 0 where
  pub is : At s.frame s.layout at
  pub left : along_from s.view s.frame ≤ at.p
  pub first : s.frame.x ≤ at.p + origin
  pub few : at.touched ≤ 3 * at.p

-- a walk may draw the column at which it stands, on a page of size bytes
pub record Steppable (s : Stroke) (at : Step) (size : ℕ) : Type 0 where
  pub ready : Prepared s size
  pub standing : Standing s at
  pub within : EndInside s.view s.frame (at.p + 1)

-- a walk stands where the clip keeps all three rows of the column
pub record Inner (s : Stroke) (at : Step) : Type 0 where
  pub above_low : s.layout.low < at.g
  pub below-high : at.g + 1 < s.layout.high

-- a walk has drawn the columns from one step to another, in any ink: the page was l and is m
pub record Extended (ink : ℕ → ℕ → ℕ) (s : Stroke) (at to : Step) (l m : List ℕ) : Type 0 where
  pub order : at.p ≤ to.p
  pub more : at.touched ≤ to.touched
  pub drawn : Drawn s.view.w s.view.h ink (strip s.view s.frame at.p to.p (shape_on (line s.line))) l m (to.touched - at.touched)
  pub standing : Standing s to

-- it was one column
pub record Stepped (ink : ℕ → ℕ → ℕ) (s : Stroke) (at to : Step) (l m : List ℕ) : Type 0 where
  pub p_is : to.p ≡ at.p + 1
  pub extended : Extended ink s at to l m

-- The bytes of a record in an array.
use Rattle.std.specs.Prelude.{Bool, List, ◌++◌, ℕ, ◌-◌, ◌≤◌, ◌<◌, length, replicate}
use Rattle.limits.specs.Limits.{circle_room}
use Rattle.shapes.specs.declared.Shape.{Shape}
use Rattle.shapes.specs.declared.Shape.TheVariants.{Line as line, Disc as disc, Ring as ring, Triangle as triangle}
use Rattle.shapes.specs.declared.Record.{Record}
use Rattle.shapes.specs.declared.Record.TheVariants.{End as end, Setting as setting, Shape as shape}
use Rattle.format.specs.Format.{size_at}

-- a record of a known kind stands whole at the front of s
pub record Whole (s : List ℕ) : Type 0 where
  pub known : 0 < size_at s
  pub fits : size_at s ≤ length s

-- how many bytes the array of a record or a header has; each fits
abbrev pub record_most : ℕ
record_most = 13

-- bytes with zeros behind them
abbrev pub padded : List ℕ → List ℕ
padded bs = bs ++ replicate (record_most - length bs) 0

-- a radius that a record has room for, and a width that is no greater
abbrev pub CircleFits : Bool → ℕ → ℕ → Type 0
CircleFits big radius width = (radius ≤ circle_room big) × (width ≤ radius)

-- the radius and the width of a shape fit its record; a disc has the width 0
unfoldable pub ShapeFits : Shape → Type 0
ShapeFits (line l) = Unit {0}
ShapeFits (disc d) = CircleFits d.big d.radius 0
ShapeFits (ring g) = CircleFits g.big g.radius g.width
ShapeFits (triangle t) = Unit {0}

abbrev pub RecordFits : Record → Type 0
RecordFits end = Unit {0}
RecordFits (setting g) = Unit {0}
RecordFits (shape s) = ShapeFits s

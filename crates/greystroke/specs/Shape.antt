-- One shape by the numbers of C: asked for its coverage, drawn, asked for its last column (R8.7).
use Rattle.std.specs.Prelude.{cond, ◌||◌, List, ℕ, eqb, ℤ, Option, None, Some, Result, Err}
use Rattle.coverage.specs.Coverage.{queried}
use Rattle.numbers.specs.declared.Ratio.{Ratio}
use Rattle.draw.specs.Draw.{shape_outcome, shape_page}
use Rattle.last_column.specs.Column.{column_reach}
use Rattle.arguments.specs.Taken.{coordinate_of, unsigned_of, clip_of, line_of}
use Rattle.arguments.specs.declared.GivenClip.{GivenClip}
use Rattle.arguments.specs.declared.GivenShape.{GivenShape}
use Rattle.shapes.specs.declared.Shape.{Shape}

-- the refusal of a kind that is no shape's, tried before all others
abbrev pub unknown_kind : ℕ
unknown_kind = 4

-- a query by the numbers of C
unfoldable pub coverage_asked : Option Shape → ℤ → ℤ → Result Ratio ℕ
coverage_asked (Some s) x y = queried s (coordinate_of x) (coordinate_of y)
coverage_asked None x y = Err unknown_kind

-- a shape drawn by the numbers of C on a page of so many bytes in some lights, and the page after it
unfoldable pub shape_drawn : ℕ → ℕ → ℕ → List ℕ → GivenClip → Option Shape → Result ℕ ℕ
shape_drawn w h size lights c (Some s) = shape_outcome (unsigned_of w) (unsigned_of h) size lights (clip_of c) s
shape_drawn w h size lights c None = Err unknown_kind

unfoldable pub page_drawn : ℕ → ℕ → List ℕ → GivenClip → ℕ → Option Shape → List ℕ → List ℕ
page_drawn w h lights c v (Some s) l = shape_page (unsigned_of w) (unsigned_of h) lights (clip_of c) v s l
page_drawn w h lights c v None l = l

-- the last column by the numbers of C; only the kinds 3 and 4, the lines, have columns
unfoldable pub column_asked : ℕ → ℕ → GivenClip → GivenShape → Result (Option ℕ) ℕ
column_asked w h c s =
    cond (eqb s.kind 3 || eqb s.kind 4)
    (column_reach (unsigned_of w) (unsigned_of h) (clip_of c) (line_of (eqb s.kind 3) s.numbers))
    (Err unknown_kind)

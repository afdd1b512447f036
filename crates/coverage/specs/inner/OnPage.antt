-- A shape on a page, whose pixels have no negative coordinates.
use Rattle.std.specs.Prelude.{ℕ, pos}
use Rattle.shapes.specs.declared.Shape.{Shape}
use Rattle.coverage.specs.Coverage.{drawn_n}

-- the coverage of the page's pixels that a shape is drawn with
abbrev pub shape_on : Shape → ℕ → ℕ → ℕ
shape_on s x y = drawn_n s (pos x) (pos y)

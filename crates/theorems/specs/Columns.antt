-- How far a line goes (R6.5): the last column is found by a search downwards, and is what the words say.
use Rattle.std.specs.Prelude.{Some, None, ◌≡◌, ℕ, ◌<◌}
use Rattle.shapes.specs.Span.{longer}
use Rattle.shapes.specs.declared.Clip.{Clip}
use Rattle.shapes.specs.declared.Line.{Line}
use Rattle.last_column.specs.Column.{column_touches, last_column}

pub record Columns : Type 0 where
  -- it is the last in which the line touches a pixel (R6.5)
  pub last_some : (w h : ℕ) (c : Clip) (n : Line) (i : ℕ) → i < longer n → 0 < column_touches w h c n i
      → ((k : ℕ) → i < k → k < longer n → column_touches w h c n k ≡ 0) → last_column w h c n ≡ Some i
  -- a line that touches none has none (R6.5)
  pub last_none : (w h : ℕ) (c : Clip) (n : Line) → ((k : ℕ) → k < longer n → column_touches w h c n k ≡ 0) → last_column w h c n ≡ None

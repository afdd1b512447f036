-- How far a line goes.
use Rattle.shapes.specs.Span.{longer}
use Rattle.last_column.specs.Column.{column_touches, last_column}
use Rattle.last_column.proofs.Column.{last_some, last_none}
use Rattle.theorems.specs.Columns.{Columns}

pub columns : Columns
unfolding last_column
columns =
    record {
      last_some = λ w h c n. last_some (column_touches w h c n) (longer n);
      last_none = λ w h c n. last_none (column_touches w h c n) (longer n);
    }

-- Where the clip has every row, the touched columns are all that the clip and the line have in common.
use mathlib.Core.Path.{sym, ◌∙◌}
use Prim.Native.Nat.{◌*◌}
use Rattle.columns.proofs.Touching.{all-touched}
use Rattle.columns.proofs.walk_of.Goals as goal

pub returns-then-has_rows : goal.returns-then-has_rows
returns-then-has_rows c =
    all-touched c.args.view c.args.line c.args.f (c.args.view.h * c.args.view.w) c.requires.0 c.requires.1 c.of.result c.of.ensures
    (sym c.has_rows.ensures ∙ c.if-has_rows.true) c.common_of.ensures

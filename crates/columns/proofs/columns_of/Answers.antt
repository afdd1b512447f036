-- Where the clip and the line have no column in common, or the clip has no row, nothing is touched; else the touched columns are a part of
-- those in common.
use Prim.Native.Nat.{◌*◌}
use native.Mathlib.Omega.{arith}
use Rattle.std.proofs.lemmas.Bool.Decides.{nat_tests}
use Rattle.columns.proofs.Touching.{touched-columns, none_common, none-shown}
use Rattle.columns.proofs.columns_of.Goals as goal

pub returns-then-is_empty : goal.returns-then-is_empty
returns-then-is_empty c =
    none_common c.args.view c.args.line c.args.f (c.args.view.h * c.args.view.w) c.requires.0 c.requires.1 c.common_of-common.ensures (grind (arith, nat_tests))

pub returns-then-lay : goal.returns-then-lay
returns-then-lay c =
    none-shown c.args.view c.args.line c.args.f (c.args.view.h * c.args.view.w) c.requires.0 c.requires.1 c.of-lay.result c.of-lay.ensures c.if-lay.true (omega arith)

pub returns : goal.returns
returns c =
    touched-columns c.args.view c.args.line c.args.f (c.args.view.h * c.args.view.w) c.requires.0 c.requires.1 c.of-lay.result c.of-lay.ensures
    c.if-lay.false (grind (arith, nat_tests)) c.common_of-common.ensures c.touched_of.ensures

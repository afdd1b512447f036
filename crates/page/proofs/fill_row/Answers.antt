-- The stretch is lent to `fill`, and the rest of the page stays as it was.
use native.Mathlib.Omega.{arith}
use Rattle.page.proofs.Drawn.{drawn-whole}
use Rattle.page.proofs.fill_row.Goals as goal

pub returns : goal.returns
returns c =
    let a = c.args in
    drawn-whole a.view.w a.view.h a.v a.from a.end a.y a.page.now _
    (omega arith) (omega arith) (omega arith) (omega arith) c.fill.ensures

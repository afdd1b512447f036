-- Each arm puts the text of its answer.
use Rattle.std.proofs.Common.{arith}
use Rattle.print.specs.Printed.{answer_text}
use Rattle.print.proofs.put_outcome.Goals as goal

pub returns-in-Ok : goal.returns-in-Ok
unfolding answer_text
returns-in-Ok c = rw c.in-Ok.is c.put_page.ensures

pub returns-in-Err : goal.returns-in-Err
unfolding answer_text
returns-in-Err c = rw (c.in-Err.is, ← c.into.ensures) (c.put_refusal.ensures.0, omega arith)

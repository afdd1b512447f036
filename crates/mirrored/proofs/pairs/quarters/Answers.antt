-- What lies from the first distance up to a is drawn in both rows.
use Rattle.std.proofs.Common.{arith}
use Rattle.mirrored.proofs.Pair.{quarters_start, quarters_turn}
use Rattle.mirrored.proofs.pairs.quarters.Goals as goal

pub loop-a-init : goal.loop-a-init
loop-a-init g c =
    let a = c.args in
    quarters_start a.circles.now a.b a.from a.end (omega arith)

pub loop-a-preserved : goal.loop-a-preserved
loop-a-preserved g c =
    let a = c.args in
    quarters_turn a.circles.now a.b a.from a.end
    c.requires.ready.2 (omega arith) c.loop-a.invariant
    c.covered-n.ensures.0 c.touched-touched.ensures c.pair.ensures c.pair-in-loop-a.ensures

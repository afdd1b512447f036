-- What lies from the first distance up to a is drawn.
use Rattle.std.proofs.Common.{arith}
use Rattle.mirrored.proofs.Pair.{sides_start, sides_turn}
use Rattle.mirrored.proofs.pairs.sides.Goals as goal

pub loop-a-init : goal.loop-a-init
loop-a-init g c =
    let a = c.args in
    sides_start a.circles.now a.y a.from a.end (omega arith)

pub loop-a-preserved : goal.loop-a-preserved
loop-a-preserved g c =
    let a = c.args in
    sides_turn a.circles.now a.y a.from a.end
    c.requires.b_value.0 (omega arith) c.loop-a.invariant
    c.covered-n.ensures.0 c.touched-touched.ensures c.pair.ensures

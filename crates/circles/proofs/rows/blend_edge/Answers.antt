-- The first i bytes are blended, the rest are as at entry, and the count is that of the first i.
use Rattle.std.proofs.Common.{arith}
use Rattle.circles.proofs.Row.{in_stretch_lem, stretch_start, stretch_few, stretch_turn, stretch_end}
use Rattle.circles.proofs.rows.blend_edge.Goals as goal

pub loop-i-init : goal.loop-i-init
loop-i-init g c = stretch_start

pub overflow_add-touched : goal.overflow_add-touched
overflow_add-touched g c = omega (arith, stretch_few c.loop-i.invariant)

pub loop-i-preserved : goal.loop-i-preserved
loop-i-preserved g c =
    let a = c.args in
    stretch_turn c.loop-i.invariant (omega arith)
    (in_stretch_lem a.circles.now a.x a.b c.loop-i.i c.apart_of-a.ensures c.covered-n.ensures.0)
    c.over.ensures
    c.touched-touched.ensures

pub returns-clause-stretch_after : goal.returns-clause-stretch_after
returns-clause-stretch_after g c = (stretch_end c.loop-i.invariant (omega arith)).0

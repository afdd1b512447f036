-- What lies from the first distance up to a is drawn.
use Rattle.mirrored.proofs.Pair.{SidesTo}
use Rattle.mirrored.proofs.pairs.sides.Given as goal

abbrev pub invariant-loop-a : goal.invariant-loop-a
invariant-loop-a g l = SidesTo (g.I.Ink.blends l.ink) l.view l.circles l.y l.from l.end l.initial.page l.page l.touched l.a

-- What lies from the first distance up to a is drawn in both rows.
use Rattle.mirrored.proofs.Pair.{QuartersTo}
use Rattle.mirrored.proofs.pairs.quarters.Given as goal

abbrev pub invariant-loop-a : goal.invariant-loop-a
invariant-loop-a g l = QuartersTo (g.I.Ink.blends l.ink) l.view l.circles l.b l.from l.end l.initial.page l.page l.touched l.a

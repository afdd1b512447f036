-- What is nearer than b to the centre's row is drawn.
use Rattle.mirrored.specs.inner.Mirrored.{QuartersDrawn}
use Rattle.mirrored.proofs.draw_enclosed.Given as goal

abbrev pub invariant-loop-b : goal.invariant-loop-b
invariant-loop-b g l =
    QuartersDrawn (g.I.Ink.blends l.ink) l.view l.circles 0 0 l.circles.ring.radius l.b l.initial.page l.page l.touched

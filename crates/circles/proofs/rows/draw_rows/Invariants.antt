-- The rows up to y are drawn.
use Rattle.rings.specs.inner.Placed.{RingDrawn}
use Rattle.circles.proofs.rows.draw_rows.Given as goal

abbrev pub invariant-loop-y : goal.invariant-loop-y
invariant-loop-y g l =
    RingDrawn (g.I.Ink.blends l.ink) l.view l.circles l.view.x0 l.view.y0 l.view.x1 l.y l.initial.page l.page l.touched

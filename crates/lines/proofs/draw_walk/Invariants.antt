-- Each step extends the walk by one column, until it has come to the end; before it has begun, nothing is drawn.
use Rattle.std.proofs.Common.{◌≡◌, ◌-◌, ◌≤◌, length}
use Rattle.steps.specs.inner.Stroke.{Extended}
use Rattle.lines.proofs.draw_walk.Given as goal

abbrev pub invariant-loop-at : goal.invariant-loop-at
invariant-loop-at g l =
    (length l.page ≡ length l.initial.page) × Extended (g.I.Ink.blends l.ink) l.s l.initial.at l.at l.initial.page l.page × (l.at.p ≤ l.columns.end)

abbrev pub decreases-loop-at : goal.decreases-loop-at
decreases-loop-at g l = l.columns.end - l.at.p

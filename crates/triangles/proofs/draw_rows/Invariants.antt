-- The rows before the next one are drawn, and the count is theirs.
use Rattle.std.proofs.Common.{◌≡◌}
use Rattle.triangles.proofs.Rows.{DrawnTo}
use Rattle.triangles.proofs.draw_rows.Given as goal

abbrev pub invariant-loop-y : goal.invariant-loop-y
invariant-loop-y g l =
    DrawnTo l.view (g.I.Ink.blends l.inks.both) l.s l.t l.fn.rows.start l.fn.rows.end l.initial.page l.page l.touched l.y-iterator.start
    × (l.y-iterator.end ≡ l.fn.rows.end)

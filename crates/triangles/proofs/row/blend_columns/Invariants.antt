-- The columns before the next one are blended, and the count is theirs.
use Rattle.std.proofs.Common.{◌≡◌}
use Rattle.triangles.proofs.Blended.{BlendedTo}
use Rattle.triangles.proofs.row.blend_columns.Given as goal

abbrev pub invariant-loop-x : goal.invariant-loop-x
invariant-loop-x g l =
    BlendedTo l.fn.view (g.I.Ink.blends l.ink) (goal.F-post g l.coverage) l.y l.fn.columns.start l.fn.columns.end l.initial.page l.page l.touched l.x-iterator.start
    × (l.x-iterator.end ≡ l.fn.columns.end)

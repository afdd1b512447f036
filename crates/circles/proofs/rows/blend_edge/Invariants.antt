-- The first i bytes are blended, the rest are as at entry, and the count is that of the first i.
use Rattle.circles.specs.inner.Row.{in_stretch}
use Rattle.circles.proofs.Row.{BlendedTo}
use Rattle.circles.proofs.rows.blend_edge.Given as goal

abbrev pub invariant-loop-i : goal.invariant-loop-i
invariant-loop-i g l = BlendedTo (g.I.Ink.blends l.ink) (in_stretch l.circles l.x l.b) l.initial.stretch l.stretch l.touched l.i

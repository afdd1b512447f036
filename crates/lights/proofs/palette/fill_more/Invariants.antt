-- Each sixteen begin at a or later.
use Rattle.lights.specs.inner.Palette.{FilledFrom}
use Rattle.lights.proofs.palette.fill_more.Given as goal

abbrev pub invariant-loop-k : goal.invariant-loop-k
invariant-loop-k l = FilledFrom l.a l.g l.initial.palette l.palette

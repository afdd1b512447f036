-- Each store puts g at a stretch from a on.
use Rattle.lights.specs.inner.Palette.{FilledFrom}
use Rattle.lights.proofs.palette.fill_sixteen.Given as goal

abbrev pub invariant-loop-i : goal.invariant-loop-i
invariant-loop-i l = FilledFrom l.a l.g l.initial.palette l.palette

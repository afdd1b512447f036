-- The search from t finds what the search from y does.
use Rattle.std.proofs.Common.{◌≡◌}
use Rattle.chords.specs.Circle.{half_root}
use Rattle.chords.proofs.half_root.Given as goal

abbrev pub invariant-loop-t : goal.invariant-loop-t
invariant-loop-t l = half_root l.t l.m ≡ half_root l.y l.m

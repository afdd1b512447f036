-- Each guess stands from the first stretch that begins above its middle on, so that it is not above the code of any light there.
use Rattle.std.proofs.Common.{◌*◌, ◌≤◌}
use Rattle.lights.specs.Lights.{light_of}
use Rattle.lights.specs.inner.Palette.{reach_of, Guess, Guesses}
use Rattle.lights.proofs.palette.fill_guesses.Given as goal

abbrev pub invariant-loop-k : goal.invariant-loop-k
invariant-loop-k l =
    (l.a ≤ 1024) × Guess (light_of l.lights) (reach_of l.lights) l.a (2 * l.k) × Guesses (light_of l.lights) (reach_of l.lights) l.palette

-- The turn at i has counted those of lights 1 to i that do not rise.
use Rattle.std.proofs.Common.{◌≡◌, ◌≤◌, eqb}
use Rattle.lights.specs.Lights.{light_of, rises_to}
use Rattle.lights.proofs.fit.rises.Given as goal

abbrev pub invariant-loop-i : goal.invariant-loop-i
invariant-loop-i l = (l.fallen ≤ l.i) × (rises_to (light_of l.lights) l.i ≡ eqb l.fallen 0)

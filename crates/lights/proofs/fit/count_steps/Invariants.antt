-- The turn at i has counted those of lights 0 to i − 1 that stand at their step; where it met all, each does.
use Rattle.std.proofs.Common.{◌≡◌, ℕ, ◌+◌, ◌*◌, ◌%◌, ◌^◌, ◌<◌, ◌≤◌}
use Rattle.lights.specs.Lights.{light_of}
use Rattle.lights.proofs.fit.count_steps.Given as goal

abbrev pub invariant-loop-i : goal.invariant-loop-i
invariant-loop-i l =
    (l.met ≤ l.i) × (l.due ≡ (light_of l.lights 0 + l.step * l.i) % 2 ^ 16) × (l.met ≡ l.i → (k : ℕ) → k < l.i → light_of l.lights k ≡ (light_of l.lights 0 + l.step * k) % 2 ^ 16)

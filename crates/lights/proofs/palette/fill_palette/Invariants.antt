-- The guesses are made first, over zeros, and the lights are stored in front of them.
use Rattle.std.proofs.Common.{◌≡◌, ℕ, ◌<◌}
use Rattle.lights.specs.Lights.{light_of}
use Rattle.lights.specs.inner.Palette.{reach_of, Guesses}
use Rattle.lights.proofs.palette.fill_palette.Given as goal

abbrev pub invariant-loop-i : goal.invariant-loop-i
invariant-loop-i l =
    ((k : ℕ) → k < l.i → light_of l.palette k ≡ light_of l.lights k) × Guesses (light_of l.lights) (reach_of l.lights) l.palette

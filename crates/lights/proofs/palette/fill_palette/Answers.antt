-- The guesses are made first, over zeros, and the lights are stored in front of them.
use Rattle.std.proofs.Common.{◌≡◌, ℕ, ◌<◌, sym, subst, arith}
use Rattle.lights.specs.Lights.{light_of}
use Rattle.lights.specs.inner.Palette.{reach_of, Guesses}
use Rattle.lights.proofs.Guesses.{guesses_none, guesses_set, lights-set, palette_is, palette_lights}
use Rattle.lights.proofs.palette.fill_palette.Goals as goal

pub fill_guesses-requires : goal.fill_guesses-requires
fill_guesses-requires c =
    (c.requires.0, subst (Guesses (light_of c.args.lights.now) (reach_of c.args.lights.now)) (sym c.requires.1) (guesses_none (light_of c.args.lights.now) (reach_of c.args.lights.now)))

pub loop-i-preserved : goal.loop-i-preserved
loop-i-preserved c =
    let l = c.loop-i in
    let lights = c.args.lights.now in (
      lights-set l.palette (light_of lights) l.i (omega (arith, l.invariant.1.size)) l.invariant.0,
      guesses_set (light_of lights) (reach_of lights) l.palette l.i (light_of lights l.i) (omega arith) l.invariant.1,
    )

pub returns : goal.returns
returns c =
    let l = c.loop-i in
    let lights = c.args.lights.now in
    let same : (k : ℕ) → k < 256 → light_of l.palette k ≡ light_of lights k = λ k h. l.invariant.0 k (omega arith) in
    (palette_is lights l.palette c.requires.0 l.invariant.1 same, palette_lights lights l.palette c.requires.0 l.invariant.1 same)

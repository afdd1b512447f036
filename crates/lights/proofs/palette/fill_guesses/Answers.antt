-- Each guess stands from the first stretch that begins above its middle on, so that it is not above the code of any light there.
use Rattle.std.proofs.Common.{◌≡◌, ◌+◌, ◌*◌, sym, subst, arith}
use Rattle.lights.specs.Lights.{light_of}
use Rattle.lights.specs.inner.Palette.{reach_of, Guess}
use Rattle.lights.proofs.Guesses.{reach_fits, guess_none, guesses_more}
use Rattle.lights.proofs.palette.fill_guesses.Goals as goal

pub loop-k-init : goal.loop-k-init
loop-k-init c = (omega arith, guess_none (light_of c.args.lights.now) (reach_of c.args.lights.now) 0, c.requires.1)

pub stretch_of-b-requires : goal.stretch_of-b-requires
stretch_of-b-requires c =
    rw (c.middle_of.ensures.0, c.reach-all.ensures.0)
    (reach_fits c.args.lights.now c.requires.0.rising (2 * c.loop-k.k + 2) (omega arith))

pub loop-k-preserved : goal.loop-k-preserved
loop-k-preserved c =
    let l = c.loop-k in
    let lights = c.args.lights.now in
    let next : Guess (light_of lights) (reach_of lights) c.stretch_of-b.result (2 * l.k + 2) =
    record { most = omega arith; low = rw (sym c.middle_of.ensures.0, sym c.reach-all.ensures.0) c.stretch_of-b.ensures.1 } in
    let two : 2 * l.k + 2 ≡ 2 * (l.k + 1) = omega arith in (
      omega arith,
      subst (Guess (light_of lights) (reach_of lights) c.stretch_of-b.result) two next,
      guesses_more (light_of lights) (reach_of lights) l.a (2 * l.k) l.palette c.fill_stretches.new.palette l.invariant.2 l.invariant.1 c.fill_stretches.ensures,
    )

pub stretch_of-last-requires : goal.stretch_of-last-requires
stretch_of-last-requires c =
    rw (c.middle_of-2.ensures.0, c.reach-all.ensures.0) (reach_fits c.args.lights.now c.requires.0.rising 253 (omega arith))

pub returns : goal.returns
returns c =
    let l = c.loop-k in
    let lights = c.args.lights.now in
    let light = light_of lights in
    let all : 2 * l.k ≡ 252 = omega arith in
    let last : Guess light (reach_of lights) c.stretch_of-last.result 253 =
    record { most = omega arith; low = rw (sym c.middle_of-2.ensures.0, sym c.reach-all.ensures.0) c.stretch_of-last.ensures.1 } in
    guesses_more light (reach_of lights) c.stretch_of-last.result 253 c.fill_stretches-2.new.palette c.fill_stretches-3.new.palette
    (guesses_more light (reach_of lights) l.a 252 l.palette c.fill_stretches-2.new.palette l.invariant.2 (subst (Guess light (reach_of lights) l.a) all l.invariant.1) c.fill_stretches-2.ensures)
    last c.fill_stretches-3.ensures

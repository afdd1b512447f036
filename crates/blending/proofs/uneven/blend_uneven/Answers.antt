-- The guess of the stretch in which the doubled light lies is not above the code, which is found from there.
use Rattle.std.proofs.Common.{arith}
use Rattle.lights.specs.inner.Palette.{guess_of}
use Rattle.blending.proofs.Guessing.{amid, scaled_fits, guess_low, blend_is}
use Rattle.blending.proofs.uneven.blend_uneven.Goals as goal

pub stretch_at-requires : goal.stretch_at-requires
stretch_at-requires c =
    let a = c.args in
    scaled_fits a.palette.now c.requires.0.rising a.u a.v a.n a.d a.m c.doubled-x.result
    (omega arith) (omega arith) (omega arith) c.doubled-x.ensures.0 c.requires.2.most

pub code_from-requires-clause-rising : goal.code_from-requires-clause-rising
code_from-requires-clause-rising c =
    let a = c.args in
    let p = a.palette.now in
    let b = c.stretch_at in
    let x = c.doubled-x.result in
    let guess = c.requires.0.guesses.each b.result in
    let low = guess_low p c.requires.0.rising a.d a.m x b.result (guess_of p b.result) c.requires.2.some c.requires.2.most guess b.ensures.1 in
    (c.requires.0.rising, low, amid p x a.d (omega arith) c.doubled-x.ensures.1)

pub returns : goal.returns
returns c =
    let a = c.args in
    blend_is a.palette.now c.requires.0.rising a.u a.v a.n a.d c.doubled-x.result c.code_from.result
    (omega arith) (omega arith) (omega arith) (omega arith) c.doubled-x.ensures.0 c.code_from.ensures

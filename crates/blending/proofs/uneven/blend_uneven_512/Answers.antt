-- The guess of the stretch in which the doubled light lies is not above the code, which is found from there.
use Rattle.std.proofs.Common.{arith}
use Rattle.lights.specs.Lights.{light_of}
use Rattle.lights.specs.inner.Palette.{guess_of}
use Rattle.blending.proofs.Guessing.{amid-whole, whole-low, whole-between, scaled_fits, guess_low, blend_is}
use Rattle.blending.proofs.uneven.blend_uneven_512.Goals as goal

pub stretch_at-requires : goal.stretch_at-requires
stretch_at-requires c =
    let a = c.args in
    scaled_fits a.palette.now c.requires.0.rising a.u a.v a.n 512 a.m c.doubled-x.result
    (omega arith) (omega arith) (omega arith) c.doubled-x.ensures.0 c.requires.2.most

pub code_from-requires-clause-rising : goal.code_from-requires-clause-rising
code_from-requires-clause-rising c =
    let a = c.args in
    let p = a.palette.now in
    let b = c.stretch_at in
    let x = c.doubled-x.result in
    let guess = c.requires.0.guesses.each b.result in
    let low = guess_low p c.requires.0.rising 512 a.m x b.result (guess_of p b.result) c.requires.2.some c.requires.2.most guess b.ensures.1 in
    (c.requires.0.rising, whole-low (light_of p) x 512 _ (omega arith) low, amid-whole p x c.doubled-x.ensures.1)

pub returns : goal.returns
returns c =
    let a = c.args in
    blend_is a.palette.now c.requires.0.rising a.u a.v a.n 512 c.doubled-x.result c.code_from.result
    (omega arith) (omega arith) (omega arith) (omega arith) c.doubled-x.ensures.0
    (whole-between (light_of a.palette.now) c.doubled-x.result 512 _ _ (omega arith) c.code_from.ensures)

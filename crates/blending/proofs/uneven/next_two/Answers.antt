-- Middles rise, so that the second is not passed without the first.
use native.Mathlib.Omega.{arith}
use Rattle.lights.specs.Lights.{light_of}
use Rattle.blending.proofs.Guessing.{next_two_is}
use Rattle.blending.proofs.uneven.next_two.Goals as goal

pub returns : goal.returns
returns c =
    let a = c.args in
    let y = c.middle_over in
    let z = c.middle_over-2 in
    next_two_is (light_of a.palette.now) c.requires.rising.0 a.a a.x a.d y.result z.result (omega arith) y.ensures.0 z.ensures.0
    c.at_most.result c.at_most-2.result c.requires.rising.1 c.at_most.ensures.0 c.at_most-2.ensures.0

-- A dividend of at most 511·d over 2·d is a byte; the reciprocal of d is near enough for it up to 2^23, and above that the quotient is tested.
use mathlib.Core.Path.{◌∙◌}
use native.Mathlib.Omega.{arith}
use Rattle.blending.proofs.CodeBlend.{blend_quotient, reciprocal_fits, near_enough}
use Rattle.blending.proofs.even.blend_code.Goals as goal

pub near_quotient-requires : goal.near_quotient-requires
near_quotient-requires c =
    let x = c.dividend-x.ensures.most in
    let m = c.requires.1 in
    (omega arith, reciprocal_fits _ c.args.d _ x (omega arith) m, omega arith, near_enough _ c.args.d _ x (omega arith) m)

pub quotient-requires : goal.quotient-requires
quotient-requires c =
    (omega arith, omega arith, reciprocal_fits _ c.args.d c.args.m c.dividend-x.ensures.most (omega arith) c.requires.1)

pub returns-then-d-le8388608 : goal.returns-then-d-le8388608
returns-then-d-le8388608 c = c.near_quotient.ensures ∙ blend_quotient _ _ _ _ _ c.dividend-x.ensures

pub returns-else-d-le8388608 : goal.returns-else-d-le8388608
returns-else-d-le8388608 c = c.quotient.ensures ∙ blend_quotient _ _ _ _ _ c.dividend-x.ensures

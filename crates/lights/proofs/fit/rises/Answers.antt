-- The turn at i has counted those of lights 1 to i that do not rise.
use Rattle.std.proofs.Common.{arith}
use Rattle.lights.specs.Lights.{light_of}
use Rattle.lights.proofs.Rising.{rises-none, rises-more, counted_one}
use Rattle.lights.proofs.fit.rises.Goals as goal

pub loop-i-init : goal.loop-i-init
loop-i-init c = (omega arith, rises-none (light_of c.args.lights.now))

pub loop-i-preserved : goal.loop-i-preserved
loop-i-preserved c =
    let l = c.loop-i in
    let a = c.args in
    (omega (arith, counted_one _ _ c.from-fallen.ensures), rises-more (light_of a.lights.now) l.i l.fallen c.from-fallen.result l.invariant.1 c.from-fallen.ensures)

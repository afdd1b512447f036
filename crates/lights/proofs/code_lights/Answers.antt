-- The turn at k has given codes 0 to k − 1 their lights.
use Rattle.std.proofs.Common.{arith}
use Rattle.lights.proofs.Codes.{codes_only}
use Rattle.lights.proofs.code_lights.Goals as goal

pub returns : goal.returns
returns c =
    let l = c.loop-k in
    codes_only l.lights l.invariant.0 (λ i h. l.invariant.1 i (omega arith))

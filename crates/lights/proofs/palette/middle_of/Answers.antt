-- Two lights of 16 bits each, and their sum is the middle.
use Rattle.std.proofs.Common.{◌-◌, arith}
use Rattle.lights.specs.Lights.{light_of}
use Rattle.lights.proofs.Neighbours.{middle-code}
use Rattle.lights.proofs.palette.middle_of.Goals as goal

pub returns : goal.returns
returns c =
    let a = c.args in
    let is = middle-code (light_of a.palette.now) a.k (omega arith) (omega arith) in
    (omega (arith, c.from.ensures, c.from-2.ensures), omega (arith, c.from.ensures, c.from-2.ensures, c.type_inv.palette (c.args.k - 1), c.type_inv.palette c.args.k))

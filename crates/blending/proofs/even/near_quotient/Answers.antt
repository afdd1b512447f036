-- x·m / 2^56 lies between x/d and x/d + 1/d, since x times the excess of m·d over 2^56 is below 2^56.
use Prim.Native.Nat.{◌^◌}
use native.Mathlib.Omega.{arith}
use Rattle.numbers.proofs.Inverse.{near_quotient_lem}
use Rattle.blending.proofs.even.near_quotient.Goals as goal

pub returns : goal.returns
returns c = near_quotient_lem (2 ^ 56) c.args.x c.args.d c.args.m (omega arith) (omega arith) (omega arith)

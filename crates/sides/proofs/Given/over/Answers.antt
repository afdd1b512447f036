-- The product is small.
use Rattle.std.proofs.Common.{refl, ◌<◌, ◌*◌, ◌^◌, mul-le-mul, arith}
use Rattle.std.proofs.lemmas.Int.{ints}
use Rattle.std.proofs.Math.Facts.{to_z_pos, to_z-of_z}
use mir.Syntax.{w64}
use mir.Val.{SFits}
use Rattle.sides.proofs.Found.{product_small}
use Rattle.sides.proofs.Given.over.Goals as goal

pub overflow_mul-result-2 : goal.overflow_mul-result-2
overflow_mul-result-2 c =
    let a = c.args in
    let s : SFits w64 a.self.n = omega (arith, ints) in
    let k : a.q.d * a.r.d < 2 ^ 63 = omega (arith, mul-le-mul a.q.small.1 a.r.small.1) in
    rw (to_z-of_z s, to_z_pos w64 k) (product_small a.self.n a.q.d a.r.d a.self.small.0 a.q.small.1 a.r.small.1).0

pub returns : goal.returns
returns c =
    let a = c.args in
    let s : SFits w64 a.self.n = omega (arith, ints) in
    let k : a.q.d * a.r.d < 2 ^ 63 = omega (arith, mul-le-mul a.q.small.1 a.r.small.1) in
    let p = product_small a.self.n a.q.d a.r.d a.self.small.0 a.q.small.1 a.r.small.1 in
    rw (to_z-of_z s, to_z_pos w64 k, to_z-of_z p.0) (refl, p.1)

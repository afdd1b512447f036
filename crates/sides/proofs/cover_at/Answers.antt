-- Three sides over the product of what they are over.
use Rattle.std.proofs.Common.{◌∙◌, ◌+ℤ◌, mul-le-mul, arith}
use Rattle.std.proofs.lemmas.Int.{ints}
use Rattle.std.proofs.Math.Facts.{to_z-of_z}
use mir.Syntax.{w64}
use mir.Val.{SFits}
use Rattle.sides.proofs.Found.{found_cover, found-over}
use Rattle.sides.proofs.cover_at.Goals as goal

pub overflow_add-n-2 : goal.overflow_add-n-2
overflow_add-n-2 c = omega (arith, ints, c.over.ensures.1, c.over-2.ensures.1, c.over-3.ensures.1)

pub overflow_mul-result-2 : goal.overflow_mul-result-2
overflow_mul-result-2 c =
    record { fits = omega (arith, mul-le-mul (mul-le-mul c.given-p.result.small.1 c.given-q.result.small.1) c.given-r.result.small.1) }

pub returns : goal.returns
returns c =
    let a = c.args in
    let p = c.over in
    let q = c.over-2 in
    let r = c.over-3 in
    let fits_p : SFits w64 p.result = omega (arith, ints, p.ensures.1) in
    let fits_q : SFits w64 q.result = omega (arith, ints, q.ensures.1) in
    let fits_r : SFits w64 r.result = omega (arith, ints, r.ensures.1) in
    let fits : SFits w64 (p.result +ℤ q.result) = omega (arith, ints, p.ensures.1, q.ensures.1) in
    let all_fit : SFits w64 (p.result +ℤ q.result +ℤ r.result) = omega (arith, ints, p.ensures.1, q.ensures.1, r.ensures.1) in
    let e₁ = rw (c.between.ensures.0, c.between.ensures.1) at c.given-p.ensures in
    let e₂ = rw (c.between-2.ensures.0, c.between-2.ensures.1) at c.given-q.ensures in
    let e₃ = rw (c.between-3.ensures.0, c.between-3.ensures.1) at c.given-r.ensures in (
      simp to_z-of_z at c.unsigned_abs.ensures.value
          ∙ found_cover a.c.x0 a.c.y0 a.c.x1 a.c.y1 a.c.x2 a.c.y2 a.pixel.x a.pixel.y e₁ e₂ e₃ p.ensures.0 q.ensures.0 r.ensures.0,
      found-over a.c.x0 a.c.y0 a.c.x1 a.c.y1 a.c.x2 a.c.y2 a.pixel.x a.pixel.y e₁ e₂ e₃,
    )

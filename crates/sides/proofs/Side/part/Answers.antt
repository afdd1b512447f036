-- By where the column lies, the side adds, takes away or gives nothing.
use Rattle.std.proofs.Common.{◌∙◌, ◌<◌, ◌^◌, arith}
use Rattle.std.proofs.Math.Facts.{to_z_pos}
use mir.Syntax.{w64}
use Rattle.sides.proofs.Found.{found_right, found_left, found-past, found_ahead, negative}
use Rattle.sides.proofs.Side.part.Goals as goal

pub returns-in-true-false : goal.returns-in-true-false
returns-in-true-false c =
    let s = c.args.self in
    let p = c.args.pixel in
    let e = c.share.ensures in
    let small : c.share.result < 2 ^ 63 = omega arith in
    rw (to_z_pos w64 small) (found_right s.a.x s.a.y s.b.x s.b.y p.x p.y (omega arith) (omega arith) e.0, e.1)

pub returns-in-false-true : goal.returns-in-false-true
returns-in-false-true c =
    let s = c.args.self in
    let p = c.args.pixel in
    let e = rw (c.turned.ensures.0, c.turned.ensures.1) at c.share-in-false-true.ensures in
    let n = negative c.share-in-false-true.result e.1 in
    (n.0 ∙ found_left s.a.x s.a.y s.b.x s.b.y p.x p.y (omega arith) (omega arith) e.0, n.1)

pub returns-in-true-true : goal.returns-in-true-true
returns-in-true-true c =
    let s = c.args.self in
    let p = c.args.pixel in
    (found-past s.a.x s.a.y s.b.x s.b.y p.x p.y (omega arith) (omega arith), omega arith)

pub returns-in-true-true-2 : goal.returns-in-true-true-2
returns-in-true-true-2 c =
    let s = c.args.self in
    let p = c.args.pixel in
    (found_ahead s.a.x s.a.y s.b.x s.b.y p.x p.y (omega arith) (omega arith), omega arith)

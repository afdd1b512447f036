-- The heights at the two sides of the column, by the distances to both ends.
use Rattle.std.proofs.Common.{sym, ◌∙◌, ◌-◌, arith}
use Rattle.sides.proofs.Found.{found_share}
use Rattle.sides.proofs.Side.share.Goals as goal

pub returns : goal.returns
returns c =
    let s = c.args.self in
    let p = c.args.pixel in
    let e = c.under_at.ensures in
    (e.0 ∙ sym (found_share s.a.x s.a.y s.b.x s.b.y p.x p.y (p.x - s.a.x) (s.b.x - p.x - 1) (omega arith) (omega arith)), e.1)

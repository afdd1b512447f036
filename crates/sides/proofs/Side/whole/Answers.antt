-- By the width and the height of the side.
use Rattle.std.proofs.Common.{sym, ◌∙◌}
use Rattle.sides.proofs.Found.{found-whole}
use Rattle.sides.proofs.Side.whole.Goals as goal

pub returns : goal.returns
returns c =
    let s = c.args.self in
    let e = c.whole_of.ensures in
    (rw (c.abs_diff.ensures, c.abs_diff-2.ensures) at e.0 ∙ sym (found-whole s.a.x s.a.y s.b.x s.b.y), e.1)

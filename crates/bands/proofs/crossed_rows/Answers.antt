-- With t not negative both outer rows are corners, and the middle one is what they leave of the whole.
use native.Mathlib.Omega.{arith}
use Rattle.bands.proofs.Closed.{corners_le, crossed_is}
use Rattle.bands.proofs.crossed_rows.Goals as goal

pub overflow_sub-result : goal.overflow_sub-result
overflow_sub-result c =
    let a = c.args in
    let pre = c.requires in
    let h = corners_le a.exact a.l a.s a.r pre.1 pre.2 pre.3 in
    omega (arith, h, c.corner-upper.ensures, pre.4)

pub overflow_sub-result-2 : goal.overflow_sub-result-2
overflow_sub-result-2 c =
    let a = c.args in
    let pre = c.requires in
    let h = corners_le a.exact a.l a.s a.r pre.1 pre.2 pre.3 in
    omega (arith, h, c.corner-upper.ensures, c.corner-lower.ensures, pre.4)

pub returns : goal.returns
returns c =
    let pre = c.requires in
    let a = c.args in
    rw (c.corner-upper.ensures, c.corner-lower.ensures, pre.4) (crossed_is a.exact a.l a.s a.r pre.1 pre.2 pre.3)

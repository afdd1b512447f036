-- Inside the clip all three rows are shown; the two lower ones always have something, and the upper one is tried.
use Rattle.std.proofs.Common.{refl, arith}
use Rattle.steps.proofs.Steps.{covers, advances, upper-byte, middle-byte, lower-byte, inner_stepped}
use Rattle.steps.proofs.step_crossed.Goals as goal

pub crossed_rows-rows-requires : goal.crossed_rows-rows-requires
crossed_rows-rows-requires g c =
    let pre = c.requires in
    let fit = advances pre.0 in
    (fit.long, fit.short, fit.rest, pre.3, pre.0.ready.d-is)

pub overflow_sub-above : goal.overflow_sub-above
overflow_sub-above g c =
    let pre = c.requires in
    rw c.above-above.ensures.0 (upper-byte pre.0 pre.2).0

pub spot-t-requires : goal.spot-t-requires
spot-t-requires g c =
    let pre = c.requires in
    (rw c.above-above.ensures.0 (upper-byte pre.0 pre.2).1, rw (c.crossed_rows-rows.ensures, pre.1) (covers pre.0).upper)

pub overflow_sub-at : goal.overflow_sub-at
overflow_sub-at g c =
    let pre = c.requires in
    (middle-byte pre.0 pre.2).0

pub put-requires : goal.put-requires
put-requires g c =
    let pre = c.requires in
    (rw c.spot-t.auto.page (middle-byte pre.0 pre.2).1, rw (c.crossed_rows-rows.ensures, pre.1) (covers pre.0).middle)

pub overflow_sub-below : goal.overflow_sub-below
overflow_sub-below g c =
    let pre = c.requires in
    rw c.below-below.ensures (lower-byte pre.0 pre.2).0

pub put-requires-2 : goal.put-requires-2
put-requires-2 g c =
    let pre = c.requires in
    (rw (c.below-below.ensures, c.put.auto.page, c.spot-t.auto.page) (lower-byte pre.0 pre.2).1, rw (c.crossed_rows-rows.ensures, pre.1) (covers pre.0).lower)

pub next-requires : goal.next-requires
next-requires g c =
    (advances c.requires.0, omega (arith, c.spot-t.ensures.2))

pub returns : goal.returns
returns g c =
    let rows = c.crossed_rows-rows in
    let a = c.args in
    inner_stepped c.requires.0 c.requires.2 (g.I.Ink.blends a.ink) c.spot-t.result rows.result c.next.result
    a.page.now c.spot-t.new.page c.put.new.page c.put-2.new.page rows.ensures refl c.next.ensures c.spot-t.ensures.1
    (rw (← c.above-above.ensures.0) c.spot-t.ensures.0)
    c.put.ensures
    (rw (← c.below-below.ensures) c.put-2.ensures)

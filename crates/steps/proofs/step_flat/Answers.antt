-- Inside the clip all three rows are shown; the two lower ones always have something, and with t below 0 the upper one has nothing.
use Rattle.std.proofs.Common.{refl, ◌-◌, arith}
use Rattle.columns.specs.inner.Layout.{raised}
use Rattle.steps.proofs.Dots.{spotted-none}
use Rattle.steps.proofs.Steps.{covers, middle-byte, lower-byte, flat_upper, inner_stepped}
use Rattle.steps.proofs.step_flat.Goals as goal

pub overflow_sub-at : goal.overflow_sub-at
overflow_sub-at g c =
    let pre = c.requires in
    (middle-byte pre.0 pre.2).0

pub put-requires : goal.put-requires
put-requires g c =
    let pre = c.requires in
    ((middle-byte pre.0 pre.2).1, rw (c.flat_rows-rows.ensures, pre.1) (covers pre.0).middle)

pub overflow_sub-below : goal.overflow_sub-below
overflow_sub-below g c =
    let pre = c.requires in
    rw c.below-below.ensures (lower-byte pre.0 pre.2).0

pub put-requires-2 : goal.put-requires-2
put-requires-2 g c =
    let pre = c.requires in
    (rw (c.put.auto.page, c.below-below.ensures) (lower-byte pre.0 pre.2).1, rw (c.flat_rows-rows.ensures, pre.1) (covers pre.0).lower)

pub returns : goal.returns
returns g c =
    let rows = c.flat_rows-rows in
    let a = c.args in
    let lay = a.s.layout in
    let ink = g.I.Ink.blends a.ink in
    let z = flat_upper c.requires.0 c.requires.2 rows.result rows.ensures c.requires.3 in
    inner_stepped c.requires.0 c.requires.2 ink 0 rows.result c.next.result a.page.now a.page.now c.put.new.page c.put-2.new.page
    rows.ensures refl c.next.ensures (omega (arith, z))
    (spotted-none ink rows.result.upper (raised lay a.at.k - lay.origin) a.page.now z)
    c.put.ensures
    (rw (← c.below-below.ensures) c.put-2.ensures)

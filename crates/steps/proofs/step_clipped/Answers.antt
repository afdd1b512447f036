-- The rows of the column are coverages, and its bytes in the clip lie on the page; drawing them is drawing the column's strip.
use Rattle.std.proofs.Common.{refl}
use Rattle.steps.proofs.Steps.{reaches, covers, advances, stepped}
use Rattle.steps.proofs.step_clipped.Goals as goal

pub rows_of-rows-requires : goal.rows_of-rows-requires
rows_of-rows-requires g c =
    let fit = advances c.requires.0 in
    (fit.long, fit.short, fit.rest, c.requires.0.ready.d-is)

pub draw_column-t-requires-clause-reachable : goal.draw_column-t-requires-clause-reachable
draw_column-t-requires-clause-reachable g c = reaches c.requires.0

pub draw_column-t-requires-clause-coverages : goal.draw_column-t-requires-clause-coverages
draw_column-t-requires-clause-coverages g c =
    let v = covers c.requires.0 in
    rw (c.rows_of-rows.ensures, c.requires.1) (v.upper, v.middle, v.lower)

pub next-requires : goal.next-requires
next-requires g c = (advances c.requires.0, c.draw_column-t.ensures.value.1)

pub returns : goal.returns
returns g c =
    let a = c.args in
    let d = c.draw_column-t in
    stepped c.requires.0 (g.I.Ink.blends a.ink) c.rows_of-rows.result a.page.now c.rows_of-rows.ensures refl d.result c.next.result d.new.page
    c.next.ensures d.ensures.page_after d.ensures.value.0 d.ensures.value.1

-- The left edge, what is whole, and the right edge: they never meet, and together they are the columns.
use Rattle.std.proofs.Common.{◌+◌, arith}
use Rattle.page.proofs.Drawn.{drawn-count, drawn_beside, drawn_full}
use Rattle.rings.specs.inner.Placed.{cover_on, RingDrawn}
use Rattle.circles.proofs.rows.draw_band.Goals as goal
use Rattle.circles.proofs.rows.draw_band.Goals.{After-draw_edge-right}

-- the left edge and the columns that are whole
left : (g : _) (c : After-draw_edge-right g)
    → let a = c.args in
    RingDrawn (g.I.Ink.blends a.ink) a.view a.circles.now a.p a.y a.r (a.y + 1) a.page.now c.fill_row-whole.new.page (c.draw_edge-left.result + c.fill_row-whole.result)
left g c =
    let a = c.args in
    let cover = cover_on a.circles.now in
    drawn_beside cover a.y a.p a.q a.r (omega arith) (omega arith) c.draw_edge-left.ensures
    (drawn_full cover (g.I.Ink.whole a.ink) a.y a.q a.r (rw c.requires.ready.1 c.requires.band.whole)
    (c.fill_row-whole.ensures (g.I.Ink.blends a.ink) (g.I.Ink.whole a.ink) (g.met.I.Ink.some a.ink).0
    (rw c.level.ensures (g.met.I.Ink.covers a.ink))))

-- neither part touches more pixels than a page has
pub overflow_add-result : goal.overflow_add-result
overflow_add-result g c = omega (arith, drawn-count c.requires.ready.0.lawful (left g (goal.at.overflow_add-result g c).After-draw_edge-right))

pub overflow_add-result-2 : goal.overflow_add-result-2
overflow_add-result-2 g c =
    let law = c.requires.ready.0.lawful in
    omega (arith, drawn-count law (left g (goal.at.overflow_add-result-2 g c).After-draw_edge-right), drawn-count law c.draw_edge-right.ensures)

pub returns : goal.returns
returns g c =
    let a = c.args in
    drawn_beside (cover_on a.circles.now) a.y a.p a.r a.s (omega arith) (omega arith)
    (left g (goal.at.returns g c).After-draw_edge-right) c.draw_edge-right.ensures

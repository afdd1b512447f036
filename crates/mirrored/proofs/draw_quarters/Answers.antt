-- Edge, whole part and inner edge never meet, and nothing of the two rows lies nearer or further.
use Rattle.std.proofs.Common.{◌≡◌, ◌+◌, ◌≤◌, arith}
use Rattle.page.specs.inner.Paint.{clipped}
use Rattle.page.proofs.Drawn.{drawn_join, drawn-count}
use Rattle.rings.specs.inner.Circles.{cover}
use Rattle.rings.specs.inner.Placed.{around}
use Rattle.mirrored.specs.inner.Mirrored.{QuartersDrawn}
use Rattle.mirrored.proofs.Mirrored.{join_swap, filled-drawn, lower-at, upper-at, rows_join, quarters_cut, quarters_row}
use Rattle.mirrored.proofs.draw_quarters.Goals as goal
use Rattle.mirrored.proofs.draw_quarters.Goals.{After-fill_sides-upper}

-- what is whole is drawn in both rows, and with the edge it is all but the inner edge
solid : (g : _) (c : After-fill_sides-upper g)
    → let a = c.args in
    QuartersDrawn (g.I.Ink.blends a.ink) a.view a.circles.now a.row.inner a.b a.row.outer (a.b + 1) a.page.now c.fill_sides-upper.new.page
    (c.quarters-edge.result + c.fill_sides-lower.result + c.fill_sides-upper.result)
solid g c =
    let a = c.args in
    let ring = a.circles.now.ring in
    let N = cover a.circles.now in
    let measured = c.requires.b_lt_radius.1 in
    let order = measured.order in
    let count : c.quarters-edge.result + (c.fill_sides-lower.result + c.fill_sides-upper.result)
    ≡ c.quarters-edge.result + c.fill_sides-lower.result + c.fill_sides-upper.result = omega arith in
    rw (← count) (drawn_join (around ring (clipped a.row.inner a.b a.row.outer (a.b + 1) N))
    (join_swap (quarters_cut ring N a.row.inner a.b a.row.outer (a.b + 1) a.row.whole order.1 order.2))
    c.quarters-edge.ensures
    (drawn_join (around ring (clipped a.row.inner a.b a.row.whole (a.b + 1) N))
    (rows_join N c.requires.ready.2 a.row.inner a.row.whole)
    (filled-drawn a.view a.circles.now a.y c.requires.ready.1 (lower-at c.requires.ready.2) measured c.fill_sides-lower.ensures)
    (filled-drawn a.view a.circles.now a.z c.requires.ready.1 (upper-at c.requires.ready.2) measured c.fill_sides-upper.ensures)))

few : (g : _) (c : After-fill_sides-upper g)
    → c.quarters-edge.result + c.fill_sides-lower.result + c.fill_sides-upper.result ≤ 1048576
few g c = drawn-count c.requires.ready.0.lawful (solid g c)

pub overflow_add-solid : goal.overflow_add-solid
overflow_add-solid g c = omega (arith, few g (goal.at.overflow_add-solid g c).After-fill_sides-upper)

pub overflow_add-solid-2 : goal.overflow_add-solid-2
overflow_add-solid-2 g c = omega (arith, few g (goal.at.overflow_add-solid-2 g c).After-fill_sides-upper)

pub returns-then-row-eq0 : goal.returns-then-row-eq0
returns-then-row-eq0 g c =
    let a = c.args in
    let m = c.requires.b_lt_radius.1 in
    quarters_row a.view a.circles.now a.b a.row.inner a.row.outer a.circles.now.ring.radius m.order.3
    (λ k h. absurd (omega (arith, c.if-row-eq0.true))) m.outer-none (solid g (goal.at.returns-then-row-eq0 g c).After-fill_sides-upper)

pub overflow_add-result : goal.overflow_add-result
overflow_add-result g c =
    omega (arith, few g (goal.at.overflow_add-result g c).After-fill_sides-upper, drawn-count c.requires.ready.0.lawful c.quarters.ensures)

pub returns : goal.returns
returns g c =
    let a = c.args in
    let ring = a.circles.now.ring in
    let N = cover a.circles.now in
    let m = c.requires.b_lt_radius.1 in
    quarters_row a.view a.circles.now a.b a.row.hole a.row.outer ring.radius m.order.3 m.hole_none m.outer-none
    (drawn_join (around ring (clipped a.row.hole a.b a.row.outer (a.b + 1) N))
    (join_swap (quarters_cut ring N a.row.hole a.b a.row.outer (a.b + 1) a.row.inner m.order.0 (omega arith)))
    (solid g (goal.at.returns g c).After-fill_sides-upper) c.quarters.ensures)

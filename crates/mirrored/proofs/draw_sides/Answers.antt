-- Edge, whole part and inner edge never meet, and nothing of the row lies nearer or further.
use Rattle.std.proofs.Common.{ℕ, ◌+◌, arith}
use Rattle.numbers.specs.inner.Offset.{origin}
use Rattle.page.proofs.Drawn.{drawn_join, drawn-count}
use Rattle.chords.specs.inner.Circle.{apart}
use Rattle.rings.specs.inner.Circles.{Measured}
use Rattle.mirrored.specs.inner.Mirrored.{row_sides, cover_in, SidesDrawn}
use Rattle.mirrored.proofs.Mirrored.{join_swap, sides_cut, sides_row, filled-drawn}
use Rattle.mirrored.proofs.draw_sides.Goals as goal
use Rattle.mirrored.proofs.draw_sides.Goals.{After-fill_sides}

-- what is whole is drawn, and with the edge it is all but the inner edge
solid : (g : _) (c : After-fill_sides g)
    → let a = c.args in
    SidesDrawn (g.I.Ink.blends a.ink) a.view a.circles.now
    a.y a.row.inner a.row.outer a.page.now c.fill_sides.new.page (c.sides-edge.result + c.fill_sides.result)
solid g c =
    let a = c.args in
    let cover : ℕ → ℕ → ℕ = cover_in a.circles.now in
    let order = c.requires.b_value.2.order in
    drawn_join (row_sides a.circles.now.ring cover a.y a.row.inner a.row.outer)
    (join_swap (sides_cut a.circles.now.ring cover a.y a.row.inner a.row.outer a.row.whole order.1 order.2))
    c.sides-edge.ensures
    (filled-drawn a.view a.circles.now a.y c.requires.ready.1 c.requires.b_value.0 c.requires.b_value.2 c.fill_sides.ensures)

pub overflow_add-solid : goal.overflow_add-solid
overflow_add-solid g c =
    omega (arith, drawn-count c.requires.ready.0.lawful (solid g (goal.at.overflow_add-solid g c).After-fill_sides))

pub returns-then-row-eq0 : goal.returns-then-row-eq0
returns-then-row-eq0 g c =
    let a = c.args in
    let measured : Measured a.circles.now (apart a.circles.now.ring.cy (a.y + origin)) a.row = rw c.requires.b_value.0 at c.requires.b_value.2 in
    sides_row a.circles.now a.y a.row.inner a.row.outer c.requires.ready.2
    (λ k h. absurd (omega (arith, c.if-row-eq0.true))) measured.outer-none (solid g (goal.at.returns-then-row-eq0 g c).After-fill_sides)

pub overflow_add-result : goal.overflow_add-result
overflow_add-result g c =
    let law = c.requires.ready.0.lawful in
    omega (arith, drawn-count law (solid g (goal.at.overflow_add-result g c).After-fill_sides), drawn-count law c.sides.ensures)

pub returns : goal.returns
returns g c =
    let a = c.args in
    let cover : ℕ → ℕ → ℕ = cover_in a.circles.now in
    let measured : Measured a.circles.now (apart a.circles.now.ring.cy (a.y + origin)) a.row = rw c.requires.b_value.0 at c.requires.b_value.2 in
    let order = c.requires.b_value.2.order in
    sides_row a.circles.now a.y a.row.hole a.row.outer c.requires.ready.2 measured.hole_none measured.outer-none
    (drawn_join (row_sides a.circles.now.ring cover a.y a.row.hole a.row.outer)
    (join_swap (sides_cut a.circles.now.ring cover a.y a.row.hole a.row.outer a.row.inner order.0 (omega arith)))
    (solid g (goal.at.returns g c).After-fill_sides) c.sides.ensures)

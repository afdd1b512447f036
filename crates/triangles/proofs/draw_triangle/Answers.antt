-- The corners are sorted; the rows up to the middle one lie between the long side and the lower one, those from there on between it and the
-- upper one, and no others are met.
use Rattle.std.proofs.Common.{arith}
use Rattle.page.specs.inner.Ink.{ink_of}
use Rattle.page.proofs.Drawn.{drawn-count}
use Rattle.limits.proofs.Triangles.{triangle_lawful}
use Rattle.shapes.specs.declared.Corners.{Corners}
use Rattle.sides.specs.inner.Offsets.{offset_n, offset_d}
use Rattle.sides.proofs.Placed.{near-placed}
use Rattle.triangles.specs.inner.Order.{corners, Sorted}
use Rattle.triangles.proofs.Rows.{rows_none, rows_join, rows-between, lower_half, upper_half, whole-drawn}
use Rattle.triangles.proofs.draw_triangle.Goals as goal

pub sorted-requires : goal.sorted-requires
sorted-requires g c =
    rw c.from.ensures (near-placed c.args.triangle (triangle_lawful c.args.triangle c.requires.1))

pub returns-then-end-from : goal.returns-then-end-from
returns-then-end-from g c =
    let a = c.args in
    let p = c.sorted.result in
    let r : Corners = corners p.0 p.1 p.2 in
    let lights = g.P.Palette.lights a.palette in
    whole-drawn lights a.level a.view a.triangle _ r c.requires.0 (triangle_lawful a.triangle c.requires.1) c.from.ensures c.sorted.ensures
    c.clamp_offset-from.ensures c.clamp_offset-end.ensures
    (rows_none a.view (ink_of lights a.level (offset_d r)) (offset_n r) _ _ a.page.now c.if-end-from.true)

pub overflow_add-result : goal.overflow_add-result
overflow_add-result g c =
    let law = c.requires.0 in
    omega (arith, drawn-count law c.draw_half-lower.ensures, drawn-count law c.draw_half-upper.ensures)

pub returns : goal.returns
returns g c =
    let a = c.args in
    let p = c.sorted.result in
    let r : Corners = corners p.0 p.1 p.2 in
    let s : Sorted c.from.result r = c.sorted.ensures in
    let lights = g.P.Palette.lights a.palette in
    let lower = rows-between a.view c.requires.0.y-order r.y0 r.y1 c.clamp_offset-from.ensures c.clamp_offset-middle.ensures s.first in
    let upper = rows-between a.view c.requires.0.y-order r.y1 r.y2 c.clamp_offset-middle.ensures c.clamp_offset-end.ensures s.last in
    let i = c.new-side.ensures.1 in
    whole-drawn lights a.level a.view a.triangle _ r c.requires.0 (triangle_lawful a.triangle c.requires.1) c.from.ensures s
    c.clamp_offset-from.ensures c.clamp_offset-end.ensures
    (rows_join a.view (ink_of lights a.level (offset_d r)) (offset_n r) _ _ _ lower.order upper.order
    (lower_half lights a.level a.view r c.new-side.result i s.first s.last lower c.draw_half-lower.ensures)
    (upper_half lights a.level a.view r c.new-side.result i s.first s.last upper c.draw_half-upper.ensures))

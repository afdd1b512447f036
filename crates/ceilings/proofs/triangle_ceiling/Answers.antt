-- The product of width and height, each of 16 bits.
use Rattle.std.proofs.lemmas.Int.{to_z-of_z}
use Rattle.std.proofs.Common.{rules, w16, SFits}
use Rattle.ceilings.specs.Ceiling.{shape_ceiling}
use Rattle.shapes.specs.Span.{width, height}
use Rattle.ceilings.proofs.triangle_ceiling.Goals as goal

pub returns : goal.returns
unfolding shape_ceiling width height
returns c =
    let t = c.args.triangle in
    let x0 : SFits w16 t.x0 = search rules in
    let x1 : SFits w16 t.x1 = search rules in
    let x2 : SFits w16 t.x2 = search rules in
    let y0 : SFits w16 t.y0 = search rules in
    let y1 : SFits w16 t.y1 = search rules in
    let y2 : SFits w16 t.y2 = search rules in
    let x = simp to_z-of_z at c.extent.ensures in
    let y = simp to_z-of_z at c.extent-2.ensures in
    cc

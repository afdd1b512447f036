-- Shapes drawn on a page of one level leave what the touches of each pixel make of that level.
use mathlib.Core.Path.{ap, ◌∙◌}
use native.Mathlib.Omega.{arith}
use Rattle.drawing.specs.inner.Walk.{shapes_page}
use Rattle.drawing.proofs.Shapes.{page-painted}
use Rattle.drawing.proofs.paint.Goals as goal

pub returns : goal.returns
returns g c =
    let v = c.ranges.background in
    let e = c.draw_records.ensures in
    record { page = e.page ∙ ap (shapes_page _ _ _) c.fill.ensures ∙ page-painted _ _ _ _ _; counts = e.counts; lawful = e.lawful; byte = omega arith }

-- The rows up to y are drawn.
use Rattle.std.proofs.Common.{◌≡◌, ◌+◌, ◌≤◌, arith}
use Rattle.page.proofs.Clip.{clip_zero, clip-rows}
use Rattle.page.proofs.Drawn.{drawn-none, drawn_join, drawn-count}
use Rattle.circles.proofs.rows.draw_rows.Goals as goal

pub loop-y-init : goal.loop-y-init
loop-y-init g c = drawn-none _ _ _ _ c.args.page.now (clip_zero _ _ _ _ _ (λ x y i. absurd (omega arith)))

pub overflow_add-touched : goal.overflow_add-touched
overflow_add-touched g c =
    let law = c.requires.0.lawful in
    omega (arith, drawn-count law c.loop-y.invariant, drawn-count law c.draw_row-touched.ensures)

pub loop-y-preserved : goal.loop-y-preserved
loop-y-preserved g c =
    let v = c.args.view in
    let l = c.loop-y in
    let least : v.y0 ≤ l.y = omega arith in
    drawn_join _ (clip-rows v.x0 v.y0 v.x1 (l.y + 1) l.y _ least (omega arith)) l.invariant c.draw_row-touched.ensures

pub returns : goal.returns
returns g c =
    let l = c.loop-y in
    let e : l.y ≡ c.args.view.y1 = omega (arith, c.requires.0.lawful.y-order) in
    rw e at l.invariant

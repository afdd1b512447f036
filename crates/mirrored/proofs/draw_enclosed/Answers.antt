-- What is nearer than b to the centre's row is drawn.
use Rattle.std.proofs.Common.{◌≡◌, ◌+◌, inr, arith}
use Rattle.page.specs.inner.Paint.{clipped}
use Rattle.page.proofs.Drawn.{drawn-none, drawn_join, drawn-count}
use Rattle.rings.specs.inner.Circles.{cover}
use Rattle.rings.specs.inner.Placed.{around}
use Rattle.mirrored.proofs.Mirrored.{quarters_more, quarters_none, enclosed_drawn}
use Rattle.mirrored.proofs.draw_enclosed.Goals as goal

pub loop-b-init : goal.loop-b-init
loop-b-init g c =
    let a = c.args in
    drawn-none _ _ _ _ a.page.now (quarters_none a.circles.now.ring _ 0 0 a.circles.now.ring.radius 0 (inr (omega arith)))

pub overflow_add-touched : goal.overflow_add-touched
overflow_add-touched g c =
    let law = c.requires.0.lawful in
    omega (arith, drawn-count law c.loop-b.invariant, drawn-count law c.draw_distance-touched.ensures)

pub loop-b-preserved : goal.loop-b-preserved
loop-b-preserved g c =
    let l = c.loop-b in
    let ring = c.args.circles.now.ring in
    let N = cover c.args.circles.now in
    drawn_join (around ring (clipped 0 0 ring.radius (l.b + 1) N)) (quarters_more ring N 0 0 ring.radius (l.b + 1) l.b (omega arith) (omega arith))
    l.invariant c.draw_distance-touched.ensures

pub returns : goal.returns
returns g c =
    let l = c.loop-b in
    let e : l.b ≡ c.args.circles.now.ring.radius = omega arith in
    enclosed_drawn c.args.circles.now c.requires.2 (rw e at l.invariant)

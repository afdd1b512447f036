-- The columns before the next one are blended, and the count is theirs.
use Rattle.std.proofs.Common.{◌≡◌, ◌∙◌, ◌+◌, ◌<◌, refl, arith}
use Rattle.triangles.proofs.Blended.{blended_start, byte_in, blended_next}
use Rattle.triangles.proofs.row.blend_columns.Goals as goal

pub loop-x-init : goal.loop-x-init
loop-x-init g c =
    rw c.into_iter-x-iterator.ensures.into_iter_gives (blended_start c.requires.stretch, refl)

pub put-requires : goal.put-requires
put-requires g c =
    let here = c.in-Some.ensures.steps in
    let less : c.in-Some.x < c.args.columns.end = omega (arith, here, c.loop-x.invariant.1) in
    let byte = byte_in c.requires.stretch less in
    let part = (c.requires.covering (c.in-Some.x + 4096) (omega (arith, byte.1))).1 in
    let some = g.met.I.Ink.some c.args.ink in
    (rw c.loop-x.auto.page byte.0, record { some = some.0; part = part c.coverage-n.result c.coverage-n.ensures; most = some.1 })

pub loop-x-preserved : goal.loop-x-preserved
loop-x-preserved g c =
    let here = c.in-Some.ensures.steps in
    let less : c.in-Some.x < c.args.columns.end = omega (arith, here, c.loop-x.invariant.1) in
    let next : c.next.new.self.start ≡ c.in-Some.x + 1 = omega (arith, here) in (
      rw next (blended_next {ink = g.I.Ink.blends c.args.ink} c.requires.stretch (rw (← here.1.1) at c.loop-x.invariant.0) less c.coverage-n.ensures c.put.ensures c.touched-touched.ensures),
      here.0 ∙ c.loop-x.invariant.1,
    )

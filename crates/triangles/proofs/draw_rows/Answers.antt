-- The rows before the next one are drawn, and the count is theirs.
use Rattle.std.proofs.Common.{◌≡◌, ◌∙◌, refl, ◌+◌, arith}
use Rattle.page.proofs.Drawn.{drawn-count}
use Rattle.triangles.specs.inner.Row.{between_on}
use Rattle.triangles.proofs.Rows.{crosses, rows_none, rows_next}
use Rattle.triangles.proofs.draw_rows.Goals as goal

pub loop-y-init : goal.loop-y-init
loop-y-init g c =
    let a = c.args in
    rw c.into_iter-y-iterator.ensures.into_iter_gives (
      record {
        least = omega arith;
        most = c.requires.crossed.0.rows.order;
        drawn = rows_none a.view (g.I.Ink.blends a.inks.now.both) (between_on a.s a.t) a.rows.start a.rows.start a.page.now (omega arith);
      },
      refl,
    )

pub cut_at-requires : goal.cut_at-requires
cut_at-requires g c =
    let here = c.in-Some.ensures.steps in
    let i = c.loop-y.invariant in
    crosses c.requires.fit.1 c.requires.crossed.0 (omega (arith, here, i.0.least)) (omega (arith, here, i.1))

pub cut_at-requires-in-loop-y : goal.cut_at-requires-in-loop-y
cut_at-requires-in-loop-y g c =
    let here = c.in-Some.ensures.steps in
    let i = c.loop-y.invariant in
    crosses c.requires.fit.2 c.requires.crossed.1 (omega (arith, here, i.0.least)) (omega (arith, here, i.1))

pub overflow_add-touched : goal.overflow_add-touched
overflow_add-touched g c =
    let law = c.requires.fit.0 in
    omega (arith, drawn-count law c.loop-y.invariant.0.drawn, drawn-count law c.draw_row-touched.ensures)

pub loop-y-preserved : goal.loop-y-preserved
loop-y-preserved g c =
    let a = c.args in
    let here = c.in-Some.ensures.steps in
    let i = c.loop-y.invariant in
    let next : c.next.new.self.start ≡ c.in-Some.y + 1 = omega (arith, here) in (
      rw next (record {
        least = omega (arith, here, i.0.least);
        most = omega (arith, here, i.1);
        drawn = rows_next a.view (g.I.Ink.blends a.inks.now.both) a.s a.t a.rows.start c.in-Some.y (omega (arith, here, i.0.least))
            c.cut_at.ensures c.cut_at-in-loop-y.ensures (rw (← here.1.1) at i.0.drawn) c.draw_row-touched.ensures;
      }),
      here.0 ∙ i.1,
    )

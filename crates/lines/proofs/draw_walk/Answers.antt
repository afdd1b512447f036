-- Each step extends the walk by one column, until it has come to the end; before it has begun, nothing is drawn.
use Rattle.std.proofs.Common.{◌∙◌, ◌<◌, refl, arith}
use Rattle.std.proofs.lemmas.Bool.Decides.{nat_tests}
use Rattle.lines.proofs.Walk.{extended_none, extended_join, walk_begins, goes_on, none-drawn}
use Rattle.lines.proofs.draw_walk.Goals as goal

pub returns-then-is_empty : goal.returns-then-is_empty
returns-then-is_empty g c = none-drawn c.args.page.now (grind (arith, nat_tests))

pub loop-at-init : goal.loop-at-init
loop-at-init g c =
    let at = c.first-at.ensures in
    let some : c.args.columns.from < c.args.columns.end = grind (arith, nat_tests) in
    (refl, extended_none c.first-at.result c.args.page.now (walk_begins c.requires.drawable some at.0 at.1 at.2), omega (arith, at.1))

pub loop-at-smaller : goal.loop-at-smaller
loop-at-smaller g c =
    let v = c.loop-at.invariant in
    let on = goes_on c.requires.drawable c.first-at.ensures.1 v.0 v.1 c.loop-at-test.true in
    let step = (c.requires.walking _ _ on.0 on.1 c.loop-at-test.true).1 _ _ c.step-at.ensures in
    omega (arith, step.p_is, c.loop-at-test.true)

pub loop-at-preserved : goal.loop-at-preserved
loop-at-preserved g c =
    let v = c.loop-at.invariant in
    let on = goes_on c.requires.drawable c.first-at.ensures.1 v.0 v.1 c.loop-at-test.true in
    let step = (c.requires.walking _ _ on.0 on.1 c.loop-at-test.true).1 _ _ c.step-at.ensures in
    (c.step-at.auto.arg2 ∙ v.0, extended_join v.1 step.extended, omega (arith, step.p_is, c.loop-at-test.true))

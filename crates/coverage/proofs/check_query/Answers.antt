-- A pixel out of range has 7 whatever the shape has, and one in range leaves what the shape has.
use mathlib.Core.Bool.{cond, ◌||◌}
use mathlib.Core.Path.{◌≡◌}
use lib.Dec.{ltb}
use borrow.Author.Tests.{lt-ltb, le-ltb}
use Rattle.numbers.specs.inner.Offset.{offset_most}
use Rattle.limits.specs.Limits.{shape_refusal}
use Rattle.coverage.specs.Coverage.{query_refusal}
use Rattle.coverage.proofs.Query.{query_pixel}
use Rattle.coverage.proofs.check_query.Goals as goal
use Rattle.coverage.proofs.check_query.Goals.{then-p-gt-OFFSET_MOST-via-then-p-gt-OFFSET_MOST, then-p-gt-OFFSET_MOST-via-else-p-gt-OFFSET_MOST+then-p-gt-OFFSET_MOST-2}

pub returns-then-p-gt-OFFSET_MOST : goal.returns-then-p-gt-OFFSET_MOST
returns-then-p-gt-OFFSET_MOST c =
    let p = c.new-p.result in
    let tests : query_refusal c.args.shape c.args.x c.args.y ≡ cond (ltb offset_most p.x || ltb offset_most p.y) 7 (shape_refusal c.args.shape) =
    query_pixel c.args.shape p c.ranges.x c.ranges.y c.new-p.ensures in
    elim c.then-p-gt-OFFSET_MOST.branch [
      | then-p-gt-OFFSET_MOST-via-then-p-gt-OFFSET_MOST w ↦ simp (tests, lt-ltb _ _ w.if-p-gt-OFFSET_MOST.true)
      | then-p-gt-OFFSET_MOST-via-else-p-gt-OFFSET_MOST+then-p-gt-OFFSET_MOST-2 w ↦ simp (tests, le-ltb _ _ w.if-p-gt-OFFSET_MOST.false, lt-ltb _ _ w.if-p-gt-OFFSET_MOST-2.true)
    ]

pub returns : goal.returns
returns c =
    let p = c.new-p.result in
    let tests : query_refusal c.args.shape c.args.x c.args.y ≡ cond (ltb offset_most p.x || ltb offset_most p.y) 7 (shape_refusal c.args.shape) =
    query_pixel c.args.shape p c.ranges.x c.ranges.y c.new-p.ensures in
    simp (tests, le-ltb _ _ c.if-p-gt-OFFSET_MOST.false, le-ltb _ _ c.if-p-gt-OFFSET_MOST-2.false) c.check_shape.ensures

-- Level by level.
use Rattle.std.proofs.Common.{arith}
use Rattle.text.specs.Text.{after_level, next_column}
use Rattle.text.proofs.Written.{number_step, numbers-end}
use Rattle.text.proofs.Text.put_levels.Goals as goal

pub loop-level-preserved : goal.loop-level-preserved
loop-level-preserved c =
    let a = c.args in
    let l = c.loop-level in (
      omega (arith, c.next_column-x.ensures.1),
      number_step 3 (after_level a.w) (next_column a.w) l.x l.level-index _ _ a.levels.now (omega arith) l.invariant.1
          c.put_number.ensures
          c.after_level.ensures
          c.next_column-x.ensures.0,
    )

pub returns : goal.returns
returns c =
    let a = c.args in
    let l = c.loop-level in numbers-end 3 (after_level a.w) (next_column a.w) l.x l.level-index a.levels.now (omega arith) (omega arith) l.invariant.1

-- Count by count.
use Rattle.std.proofs.Common.{◌≡◌, ◌+◌, length, refl, arith, rules}
use Rattle.text.specs.Text.{after_count}
use Rattle.text.proofs.Written.{number_step, numbers-end}
use Rattle.text.proofs.Text.put_counts.Goals as goal

pub loop-player-preserved : goal.loop-player-preserved
loop-player-preserved c =
    let l = c.loop-player in
    number_step 20 after_count (λ p. p + 1) l.player l.player _ _ c.args.touched (omega arith) l.invariant c.put_number.ensures c.after_count.ensures refl

pub returns : goal.returns
returns c =
    let l = c.loop-player in
    let eight : length c.args.touched ≡ 8 = search rules in
    rw eight at (numbers-end 20 after_count (λ p. p + 1) l.player l.player c.args.touched (omega arith) (omega arith) l.invariant)

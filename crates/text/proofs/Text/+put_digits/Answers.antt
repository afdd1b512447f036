-- The digits of n / 10 in one place less, where there are any, and the last digit behind them.
use Rattle.std.proofs.Common.{arith}
use Rattle.text.proofs.Written.{put_none, no_digit, one_digit, more_digits}
use Rattle.text.proofs.Text.+put_digits.Goals as goal
use Rattle.text.proofs.Text.+put_digits.Goals.{then-n-ge10, else-n-ge10}

pub returns-then-places-eq0 : goal.returns-then-places-eq0
returns-then-places-eq0 t c = let a = c.args in rw (no_digit a.places a.n c.if-places-eq0.true) (put_none a.self.now a.places)

pub returns : goal.returns
returns t c =
    let a = c.args in
    elim c.if-n-ge10.branch [
      | then-n-ge10 w ↦ more_digits a.places a.n (omega arith) (omega arith) w.put_digits.ensures (rw w.self-is at c.put_byte.ensures) c.digit.ensures
      | else-n-ge10 w ↦ one_digit a.places a.n (omega arith) (omega arith) (rw w.self-is at c.put_byte.ensures) c.digit.ensures
    ]

-- The quotient, rounded up, is the first column that is far enough.
use Rattle.std.proofs.Math.Nat.{lt_of_mul-lt-mul_right}
use Rattle.std.proofs.Common.{◌≡◌, ℕ, zero, suc, ◌+◌, ◌*◌, ◌-◌, ◌≤◌, ◌<◌, arith}
use Rattle.std.specs.Int.{div_ceil}
use Rattle.std.proofs.lemmas.Grind.{div_ceil_times}
use Rattle.bands.specs.inner.Rows.{Reaching}
use Rattle.bands.proofs.column_reaching.Goals as goal

first : (l s rise a e : ℕ) → l + 2 * s * a < rise → rise ≤ l + 2 * s * e → Reaching l s rise a e (div_ceil (rise - l) (2 * s))
first l zero rise a e after before = absurd (omega arith)
first l (suc t) rise a e after before = let d = div_ceil_times (rise - l) (2 * suc t) (omega arith) in by (div_ceil (rise - l) (2 * suc t)) d.0 d.1
  where
    by : (q : ℕ) → rise - l ≤ q * (2 * suc t) → q * (2 * suc t) < rise - l + 2 * suc t → Reaching l (suc t) rise a e q
    by zero low high = absurd (omega arith)
    by (suc p) low high =
        let least : a < suc p = lt_of_mul-lt-mul_right (2 * suc t) (omega arith) in
        let most : p < e = lt_of_mul-lt-mul_right (2 * suc t) (omega arith) in
        let one_less : suc p - 1 ≡ p = omega arith in
        record { least = omega arith; most = most; reached = λ h. omega arith; below = λ h. rw one_less (omega arith) }

pub returns : goal.returns
returns c = let a = c.args in rw c.div_ceil.ensures (first a.l a.s a.rise a.from a.end c.if-rise-l.false c.if-l-s.false)

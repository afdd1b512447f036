-- Half a root is at least the middle just where the square of the odd number below twice the middle is at most m.
use Prim.Native.Nat.{◌+◌, ◌/◌}
use native.Mathlib.Omega.{arith}
use Rattle.chords.proofs.Chord.{narrowed_up, narrowed_down}
use Rattle.chords.proofs.Bracket.halved.Goals as goal

pub returns-then-odd-m : goal.returns-then-odd-m
returns-then-odd-m c =
    let a = c.args in
    narrowed_up a.self.low a.self.high ((a.self.low + a.self.high) / 2) a.m (omega arith) (omega arith) c.if-odd-m.true

pub returns-else-odd-m : goal.returns-else-odd-m
returns-else-odd-m c =
    let a = c.args in
    narrowed_down a.self.low a.self.high ((a.self.low + a.self.high) / 2) a.m (omega arith) (omega arith) c.if-odd-m.false

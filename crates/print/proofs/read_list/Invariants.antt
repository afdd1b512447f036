-- What was read stands at the front of the buffer, and the reader has lost it.
use Rattle.std.proofs.Common.{◌≡◌, ◌-◌, ◌≤◌, length, take}
use Rattle.std.specs.Io.KnownBytes.{Consumes}
use Rattle.print.proofs.read_list.Given as goal

abbrev pub invariant-loop-at : goal.invariant-loop-at
invariant-loop-at g l =
    (l.at ≤ 65537) × (length l.list ≡ 65537) × Consumes (g.R.Read.remaining l.initial.from) (g.R.Read.remaining l.from) (take l.at l.list)

abbrev pub decreases-loop-at : goal.decreases-loop-at
decreases-loop-at g l = 65537 - l.at

-- What is put, with the text of the counts that are left, is the whole text. 21 bytes are enough for a count.
use Rattle.std.proofs.Common.{◌*◌, drop}
use Rattle.text.specs.Text.{counts_text}
use Rattle.text.proofs.Written.{Putting}
use Rattle.text.proofs.Text.put_counts.Given as goal

abbrev pub invariant-loop-player : goal.invariant-loop-player
invariant-loop-player l =
    Putting l.initial.self l.self (counts_text 0 l.count-items) (counts_text l.player (drop l.player l.count-items)) (21 * l.player)

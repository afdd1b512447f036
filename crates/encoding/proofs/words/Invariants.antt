-- The first words stand behind the first byte, and zeros behind them.
use Rattle.std.proofs.Common.{◌≡◌, ◌∷◌, take}
use Rattle.format.specs.Format.{words}
use Rattle.format.specs.inner.Record.{padded}
use Rattle.encoding.proofs.words.Given as goal

abbrev pub invariant-loop-i : goal.invariant-loop-i
invariant-loop-i g l = l.bytes ≡ padded (l.first ∷ words (take l.i l.fn.numbers))

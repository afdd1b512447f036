-- Where the search starts does not matter, if it is not too low.
use mathlib.Core.Path.{sym, ◌∙◌}
use native.Mathlib.Omega.{arith}
use Rattle.chords.proofs.Height.{half_root_from}
use Rattle.chords.proofs.searched.Goals as goal

pub returns-then-m-odd : goal.returns-then-m-odd
returns-then-m-odd c =
    let a = c.args in
    c.half_root.ensures ∙ sym (half_root_from a.y a.m c.nearer-t.result (omega arith) c.if-m-odd.true)

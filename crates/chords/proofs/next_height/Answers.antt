-- A guess that passed the test is the height.
use mathlib.Core.Path.{sym, ◌∙◌}
use Prim.Native.Nat.{◌+◌, ◌*◌}
use borrow.Author.Tests.{leb-true, ltb-true}
use lib.Dec.{leb, ltb}
use Rattle.numbers.proofs.Order.{both_true}
use Rattle.chords.proofs.Height.{half_root_is}
use Rattle.chords.proofs.next_height.Goals as goal

pub returns-then-is_next : goal.returns-then-is_next
returns-then-is_next c =
    let a = c.args in
    let u = c.guess-u.result in
    let both = both_true (leb ((2 * u + 1) * (2 * u + 1)) a.m) (ltb a.m ((2 * u + 3) * (2 * u + 3))) (sym c.is_next.ensures ∙ c.if-is_next.true) in
    sym (half_root_is a.y a.m u c.requires.1 (leb-true _ _ both.0) (ltb-true _ _ both.1))

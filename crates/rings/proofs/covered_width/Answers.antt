-- Coverage never rises outwards, so that nothing is covered from a pixel on that passes the test.
use Rattle.std.proofs.Common.{◌∙◌, sym, arith}
use borrow.Author.Tests.{leb-true}
use Rattle.rings.proofs.Chords.{chords-falls, chords_clear, chords_far}
use Rattle.rings.proofs.covered_width.Goals as goal

pub returns-then-is_clear : goal.returns-then-is_clear
returns-then-is_clear c =
    let i = c.loop-a.a in
    let here = chords_clear c.requires.0 i c.args.b (leb-true _ _ (sym c.is_clear.ensures ∙ c.if-is_clear.true)) in
    (omega arith, λ a h. omega (arith, here, chords-falls c.requires.0 i a c.args.b h))

pub returns : goal.returns
returns c =
    (omega arith, λ a h. chords_far c.requires.0 a c.args.b (omega arith))

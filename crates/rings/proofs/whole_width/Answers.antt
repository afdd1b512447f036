-- Coverage never rises outwards, so that all is whole up to a pixel that passes the test.
use Rattle.std.proofs.Common.{◌-◌, ◌∙◌, sym, arith}
use borrow.Author.Tests.{leb-true}
use Rattle.chords.proofs.Chord.{chords_le}
use Rattle.rings.specs.inner.Heights.{at}
use Rattle.rings.proofs.Chords.{chords-falls, chords-whole}
use Rattle.rings.proofs.whole_width.Goals as goal

pub returns-then-is_whole : goal.returns-then-is_whole
returns-then-is_whole c =
    let i = c.loop-a.a - 1 in
    let here = chords-whole c.requires.0 i c.args.b (leb-true _ _ (sym c.is_whole.ensures ∙ c.if-is_whole.true)) in
    let Y = at c.args.hs.now in
    λ a h. omega (arith, here, chords-falls c.requires.0 a i c.args.b (omega arith), chords_le Y a c.args.b)

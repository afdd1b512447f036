-- The smaller of the two distances takes the heights, and the larger is what they are measured against.
use Rattle.std.proofs.Common.{arith}
use Rattle.chords.specs.Circle.{chord, chords}
use Rattle.chords.proofs.chords_of.Goals as goal

pub returns : goal.returns
unfolding chords chord
returns c = (
  rw (c.chord_of.ensures.0, c.chord_of-2.ensures.0, c.height_at.ensures, c.height_at-2.ensures, c.min-near.ensures, c.max-far.ensures),
  omega (arith, c.chord_of.ensures.1, c.chord_of-2.ensures.1),
)

-- Heights, discs and rings.
use Rattle.chords.proofs.Height.{height-between, height_beyond, height-falls, height-rises}
use Rattle.chords.proofs.Chord.{ring_whole, disc_none}
use Rattle.theorems.specs.Circles.{Circles}

pub circles : Circles
circles =
    record {
      height-between = height-between;
      height_beyond = height_beyond;
      height-falls = height-falls;
      height-rises = height-rises;
      ring_whole = ring_whole;
      disc_none = disc_none;
    }

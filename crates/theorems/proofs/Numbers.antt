-- The numbers of C.
use Rattle.arguments.proofs.Refused.{size-refused, basis-refused, clip-refused, line_refused, triangle_refused, disc_refused, ring_refused, negative_none}
use Rattle.theorems.specs.Numbers.{Numbers}

pub numbers : Numbers
numbers =
    record {
      size-refused = size-refused;
      basis-refused = basis-refused;
      clip-refused = clip-refused;
      line_refused = line_refused;
      triangle_refused = triangle_refused;
      disc_refused = disc_refused;
      ring_refused = ring_refused;
      negative_none = negative_none;
    }

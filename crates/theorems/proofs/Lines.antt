-- The two rules of a line.
use mathlib.Core.Bool.{true, false}
use Rattle.bands.proofs.Band.{band}
use Rattle.bands.proofs.Column.{part_nat, part-sum, part_none, same-touched, near, near-upper, near-lower}
use Rattle.theorems.specs.Lines.{Lines}

pub lines : Lines
lines =
    record {
      band = band;
      exact_natural = part_nat true;
      approximate_natural = part_nat false;
      exact-sum = λ l s i long short. part-sum l s i long short true;
      approximate_sum = λ l s i long short. part-sum l s i long short false;
      exact_none = λ l s i long short. part_none l s i long short true;
      approximate_none = λ l s i long short. part_none l s i long short false;
      same-touched = same-touched;
      near = near;
      near-upper = near-upper;
      near-lower = near-lower;
    }

-- The ceiling of a list: what its shapes count at most, each under the clip in force, added (R6.6).
use Rattle.std.specs.Prelude.{List, ℕ}
use Rattle.numbers.specs.Sum.{total}
use Rattle.ceilings.specs.Ceiling.{ceiling_under}
use Rattle.settings.specs.Drawing.{Drawing}

abbrev pub drawing_ceiling : Drawing → ℕ
drawing_ceiling d = ceiling_under d.settings.clip d.shape

abbrev pub ceiling : List Drawing → ℕ
ceiling = total drawing_ceiling

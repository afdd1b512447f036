-- What is promised of a coverage, whatever shape it is of (R4.4, R10.4): fractions of a pixel by the rule that a shape is drawn with
-- and by the exact one, and how far the two may be apart.
use Rattle.std.specs.Prelude.{◌↔◌, ◌≡◌, ◌≤◌, ◌<◌}
use Rattle.numbers.specs.Fraction.{Frac, Within}

pub record Sound (drawn exact off : Frac) : Type 0 where
  -- none is above the whole, and none is over 0
  pub drawn_le : drawn.num ≤ drawn.den
  pub drawn_pos : 0 < drawn.den
  pub exact_le : exact.num ≤ exact.den
  pub exact_pos : 0 < exact.den
  pub off_pos : 0 < off.den
  -- both are above 0 at the same pixels
  pub touched : (0 < exact.num) ↔ (0 < drawn.num)
  -- and no further apart than that
  pub near : Within drawn exact off
  -- both are whole at the same pixels
  pub covers : (exact.num ≡ exact.den) ↔ (drawn.num ≡ drawn.den)

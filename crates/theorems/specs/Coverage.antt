-- The coverage of a pixel by any lawful shape.
use Rattle.std.specs.Prelude.{◌≡◌, ◌<◌, ℤ}
use Rattle.numbers.specs.Fraction.{◌over◌}
use Rattle.numbers.specs.Sound.{Sound}
use Rattle.limits.specs.Limits.{shape_refusal}
use Rattle.shapes.specs.declared.Line.{Line}
use Rattle.shapes.specs.declared.Shape.{Shape}
use Rattle.shapes.specs.declared.Shape.TheVariants.{Line as line}
use Rattle.coverage.specs.Coverage.{rules_of, exact_n, exact_d, drawn_n, drawn_d}

pub record Coverage : Type 0 where
  -- none is above the whole; what is drawn is above 0, and whole, at the same pixels as the exact coverage, and as near to it as the
  -- rules of the shape say: s/(4l) for an approximate line, the same for all else (R4.4, R6.2, R10.4)
  pub sound : (s : Shape) (x y : ℤ) → shape_refusal s ≡ 0 → Sound (drawn_n s x y over drawn_d s) (exact_n s x y over exact_d s) (rules_of s).off
  -- no line covers a pixel whole, neither by its exact coverage (R10.4) nor by the one that a query answers (R10.5)
  pub never_whole : (n : Line) (x y : ℤ) → shape_refusal (line n) ≡ 0 → exact_n (line n) x y < exact_d (line n)
  pub drawn_never_whole : (n : Line) (x y : ℤ) → shape_refusal (line n) ≡ 0 → drawn_n (line n) x y < drawn_d (line n)

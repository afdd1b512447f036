-- An array of zeros holds the heights of radius 0.
use Rattle.std.proofs.Common.{refl, sym, ◌∙◌, arith}
use Rattle.chords.proofs.Height.{height_beyond}
use Rattle.circles.proofs.hole_heights.Goals as goal

pub returns-else-radius-gt0 : goal.returns-else-radius-gt0
returns-else-radius-gt0 c =
    record { each = λ k. c.requires.1.each k ∙ sym (height_beyond c.args.radius k (omega arith)); size = refl }

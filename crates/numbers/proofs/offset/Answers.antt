-- In range the sum with the origin is not negative and fits; out of range the answer is the mark.
use Rattle.std.proofs.Common.{◌≡◌, true, sym, ◌∙◌, T, subst}
use mir.Facts.{to_z-of_z}
use Rattle.numbers.specs.Coordinate.{in_range}
use Rattle.numbers.proofs.Coordinate.{wide_fits, raised-fits, offset_in, offset_out}
use Rattle.numbers.proofs.offset.Goals as goal

pub returns-then-in_range : goal.returns-then-in_range
returns-then-in_range c =
    let z = c.args.c in
    let inside : in_range z ≡ true = rw (to_z-of_z c.ranges.c) at (sym c.in_range.ensures ∙ c.if-in_range.true) in
    let t : T (in_range z) = subst T (sym inside) tt in
    rw (to_z-of_z c.ranges.c, to_z-of_z (wide_fits z t), to_z-of_z (raised-fits z t)) (offset_in z inside)

pub returns-else-in_range : goal.returns-else-in_range
returns-else-in_range c = offset_out c.args.c (rw (to_z-of_z c.ranges.c) at (sym c.in_range.ensures ∙ c.if-in_range.false))

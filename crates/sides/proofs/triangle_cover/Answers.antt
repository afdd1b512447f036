-- By offsets the corners and the pixel are as far apart as by coordinates.
use mathlib.Core.Path.{sym, ◌∙◌}
use native.Mathlib.Omega.{arith}
use Rattle.numbers.proofs.Coordinate.{in_range_lem}
use Rattle.limits.proofs.Limits.{point_kept}
use Rattle.limits.proofs.Triangles.{triangle_lawful}
use Rattle.sides.proofs.Placed.{cover_placed, whole-placed, near-placed}
use Rattle.sides.proofs.triangle_cover.Goals as goal

pub cover_at-requires : goal.cover_at-requires
cover_at-requires c =
    let a = c.args in
    let p = point_kept c.ranges.x c.ranges.y c.new.ensures in (
      rw c.from.ensures (near-placed a.triangle (triangle_lawful a.triangle c.requires.0)),
      rw p (omega (arith, (in_range_lem a.y c.requires.2).less)),
    )

pub returns : goal.returns
returns c =
    let a = c.args in
    let l = triangle_lawful a.triangle c.requires.0 in
    let p = point_kept c.ranges.x c.ranges.y c.new.ensures in
    let k = rw (c.from.ensures, p) at c.cover_at.ensures in
    let n = k.0 ∙ sym (cover_placed a.triangle l (in_range_lem a.x c.requires.1) (in_range_lem a.y c.requires.2)) in
    let d = k.1 ∙ sym (whole-placed a.triangle l) in
    λ i. record { n = n i; d = d i }

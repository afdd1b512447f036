-- The side goes to the right or to the left, and the other is 0.
use Rattle.std.proofs.Common.{refl, arith}
use Rattle.triangles.proofs.Standing.{found-fit, found-is, found_pos}
use Rattle.triangles.proofs.side.Side.new.Goals as goal

pub returns : goal.returns
returns c =
    let a = c.args.a in
    let b = c.args.b in
    let l = c.saturating_sub-left.ensures in
    let r = c.saturating_sub-right.ensures in
    let d = c.whole_of.ensures in (
      found-fit a.x a.y b.x b.y c.requires.0 c.requires.1 refl refl r l d c.inverse_of.ensures,
      found-is a.x a.y b.x b.y c.requires.0 c.requires.1 refl refl r l d.0,
      found_pos _ d.0 (omega arith),
      omega (arith, d.1),
    )

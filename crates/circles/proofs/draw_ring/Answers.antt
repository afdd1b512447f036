-- A ring is what lies between its two circles.
use Rattle.std.proofs.Common.{arith}
use Rattle.limits.specs.Limits.{radius_most}
use Rattle.limits.proofs.Limits.{LawfulRing, ring_lawful}
use Rattle.shapes.specs.declared.Shape.TheVariants.{Ring as asShape}
use Rattle.coverage.specs.Coverage.{rules_of}
use Rattle.coverage.specs.inner.OnPage.{shape_on}
use Rattle.page.proofs.Drawn.{drawn-same}
use Rattle.circles.proofs.Shape.{ring_on}
use Rattle.circles.proofs.draw_ring.Goals as goal

pub overflow_sub-between : goal.overflow_sub-between
overflow_sub-between g c = (ring_lawful c.args.ring c.requires.1).most

pub invariant_of-between : goal.invariant_of-between
invariant_of-between g c =
    let k : LawfulRing radius_most c.args.ring = ring_lawful c.args.ring c.requires.1 in
    record {
      within = omega arith;
      most = k.circle.most;
    }

pub draw_between-requires : goal.draw_between-requires
draw_between-requires g c =
    let k : LawfulRing radius_most c.args.ring = ring_lawful c.args.ring c.requires.1 in
    (c.requires.0, c.chord_ink.ensures.whole, rw c.centre-c.ensures (omega (arith, k.circle.x_in.less)), rw c.centre-c.ensures (omega (arith, k.circle.y_in.less)))

pub returns : goal.returns
unfolding rules_of
returns g c =
    drawn-same (shape_on (asShape c.args.ring)) c.requires.0 (ring_on c.args.ring c.requires.1 c.centre-c.ensures)
    (rw c.chord_ink.ensures.blends at c.draw_between.ensures)

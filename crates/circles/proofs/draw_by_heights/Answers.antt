-- The arrays hold the heights of the two circles.
use Rattle.std.proofs.Common.{◌≡◌}
use Rattle.chords.specs.Circle.{height_of}
use Rattle.rings.specs.inner.Heights.{at}
use Rattle.circles.proofs.Box.{held, nested_of}
use Rattle.circles.proofs.draw_by_heights.Goals as goal

pub invariant_of-draw_held-clause-nested : goal.invariant_of-draw_held-clause-nested
invariant_of-draw_held-clause-nested g c =
    nested_of c.args.ring _ _ (held c.heights.new.hs _ c.heights.ensures.each) (held c.hole_heights.new.hs _ c.hole_heights.ensures.each)

pub returns : goal.returns
returns g c =
    let outer_held : at c.heights.new.hs ≡ height_of c.args.ring.radius = held c.heights.new.hs _ c.heights.ensures.each in
    let inner_held : at c.hole_heights.new.hs ≡ height_of c.args.ring.hole = held c.hole_heights.new.hs _ c.hole_heights.ensures.each in
    rw (outer_held, inner_held) at c.draw_held.ensures

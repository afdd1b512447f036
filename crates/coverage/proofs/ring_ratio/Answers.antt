-- The inner circle has the lower heights, so its coverage is never the greater, and the difference is the ring's.
use mathlib.Core.Path.{◌≡◌}
use Prim.Native.Nat.{◌+◌, ◌-◌, ◌≤◌}
use native.Mathlib.Omega.{arith}
use Rattle.numbers.specs.inner.Offset.{offset_most}
use Rattle.numbers.proofs.Coordinate.{in_range_lem}
use Rattle.shapes.specs.inner.Offsets.{point_of}
use Rattle.shapes.specs.declared.Shape.TheVariants.{Ring as ring}
use Rattle.limits.proofs.Limits.{ring_lawful, point_kept}
use Rattle.chords.specs.Circle.{height_of}
use Rattle.coverage.specs.Coverage.{rules_of, drawn_n}
use Rattle.chords.proofs.Height.{height-rises}
use Rattle.chords.proofs.Chord.{chords_rise, apart_le}
use Rattle.coverage.proofs.Discs.{ring_drawn}
use Rattle.coverage.proofs.ring_ratio.Goals as goal

pub chords_of-outer-requires : goal.chords_of-outer-requires
chords_of-outer-requires c =
    let near : (c.apart_of-a.result ≤ offset_most + 1) × (c.apart_of-b.result ≤ offset_most + 1) = apart_le _ _ _ _ c.centre-c.ensures c.new-p.ensures c.apart_of-a.ensures c.apart_of-b.ensures in
    let o = near in
    ((ring_lawful c.args.ring c.requires.0).circle.most, o.0, o.1)

pub overflow_sub-ring : goal.overflow_sub-ring
overflow_sub-ring c =
    (ring_lawful c.args.ring c.requires.0).most

pub chords_of-inner-requires : goal.chords_of-inner-requires
chords_of-inner-requires c =
    let near : (c.apart_of-a.result ≤ offset_most + 1) × (c.apart_of-b.result ≤ offset_most + 1) = apart_le _ _ _ _ c.centre-c.ensures c.new-p.ensures c.apart_of-a.ensures c.apart_of-b.ensures in
    let o = near in
    (omega (arith, (ring_lawful c.args.ring c.requires.0).circle.most), o.0, o.1)

pub overflow_sub-result : goal.overflow_sub-result
overflow_sub-result c =
    let g = c.args.ring in
    rw (c.chords_of-outer.ensures.0, c.chords_of-inner.ensures.0)
    (chords_rise (height_of (g.radius - g.width)) (height_of g.radius) c.apart_of-a.result c.apart_of-b.result
    (λ k. height-rises (g.radius - g.width) g.radius k (omega arith)))

pub returns : goal.returns
unfolding rules_of
returns c =
    let pixel : let a = c.args in c.new-p.result ≡ point_of a.x a.y = point_kept c.ranges.x c.ranges.y c.new-p.ensures in
    let e : c.chords_of-outer.result - c.chords_of-inner.result ≡ drawn_n (ring c.args.ring) c.args.x c.args.y =
    rw (c.chords_of-outer.ensures.0, c.chords_of-inner.ensures.0, c.apart_of-a.ensures, c.apart_of-b.ensures, c.centre-c.ensures, pixel)
    (ring_drawn (in_range_lem c.args.x c.requires.1) (in_range_lem c.args.y c.requires.2) c.args.ring (ring_lawful c.args.ring c.requires.0)) in
    λ i. record { n = e i; d = 512 }

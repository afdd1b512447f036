-- By offsets a pixel is as far from the centre as by coordinates, and the coverage is that of the two distances.
use mathlib.Core.Path.{◌≡◌}
use Rattle.numbers.proofs.Coordinate.{in_range_lem}
use Rattle.shapes.specs.inner.Offsets.{point_of}
use Rattle.shapes.specs.declared.Shape.TheVariants.{Disc as disc}
use Rattle.limits.proofs.Limits.{disc_lawful, point_kept}
use Rattle.coverage.specs.Coverage.{rules_of, drawn_n}
use Rattle.coverage.proofs.Discs.{disc_drawn}
use Rattle.chords.proofs.Chord.{apart_le}
use Rattle.coverage.proofs.disc_ratio.Goals as goal

pub chords_of-n-requires : goal.chords_of-n-requires
chords_of-n-requires c =
    let o = apart_le _ _ _ _ c.centre-c.ensures c.new-p.ensures c.apart_of-a.ensures c.apart_of-b.ensures in
    ((disc_lawful c.args.disc c.requires.0).most, o.0, o.1)

pub returns : goal.returns
unfolding rules_of
returns c =
    let pixel : let a = c.args in c.new-p.result ≡ point_of a.x a.y = point_kept c.ranges.x c.ranges.y c.new-p.ensures in
    let e : c.chords_of-n.result ≡ drawn_n (disc c.args.disc) c.args.x c.args.y =
    rw (c.chords_of-n.ensures.0, c.apart_of-a.ensures, c.apart_of-b.ensures, c.centre-c.ensures, pixel)
    (disc_drawn (in_range_lem c.args.x c.requires.1) (in_range_lem c.args.y c.requires.2) c.args.disc (disc_lawful c.args.disc c.requires.0)) in
    λ i. record { n = e i; d = 512 }

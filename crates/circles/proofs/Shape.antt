-- What lies between two circles, as the coverage of a disc or a ring on a page.
use Rattle.std.proofs.Common.{◌≡◌, ℕ, ◌+◌, ◌-◌, ◌<◌, pos, arith}
use Rattle.numbers.specs.inner.Offset.{origin}
use Rattle.numbers.proofs.Coordinate.{in_range_lem, pixel_in, pixel_offset}
use Rattle.limits.specs.Limits.{shape_refusal}
use Rattle.shapes.specs.inner.Offsets.{point_of}
use Rattle.shapes.specs.declared.Point.{Point}
use Rattle.shapes.specs.declared.Disc.{Disc}
use Rattle.shapes.specs.declared.Ring.{Ring}
use Rattle.shapes.specs.declared.Shape.TheVariants.{Disc as disc, Ring as ring}
use Rattle.limits.proofs.Limits.{disc_lawful, ring_lawful}
use Rattle.chords.specs.Circle.{height_of, chords}
use Rattle.chords.specs.inner.Circle.{apart}
use Rattle.coverage.specs.inner.OnPage.{shape_on}
use Rattle.coverage.proofs.Discs.{disc_drawn, ring_drawn}
use Rattle.rings.specs.inner.Heights.{between}
use Rattle.rings.proofs.Chords.{chords-none}
use Rattle.circles.proofs.Box.{heights_of}

-- a ring is what lies between its circles
pub ring_on : {c : Point} (g : Ring) → shape_refusal (ring g) ≡ 0 → c ≡ point_of g.x g.y → (x y : ℕ) → x < 1024 → y < 1024
    → between (height_of g.radius) (height_of (g.radius - g.width)) (apart c.x (x + origin)) (apart c.y (y + origin)) ≡ shape_on (ring g) x y
unfolding between
ring_on g z e x y p q =
    rw (e, ← pixel_offset x (omega arith), ← pixel_offset y (omega arith))
    (ring_drawn (in_range_lem (pos x) (pixel_in x (omega arith))) (in_range_lem (pos y) (pixel_in y (omega arith))) g (ring_lawful g z))

-- and a disc one whose hole has radius 0
pub disc_on : {c : Point} (d : Disc) → shape_refusal (disc d) ≡ 0 → c ≡ point_of d.x d.y → (x y : ℕ) → x < 1024 → y < 1024
    → between (height_of d.radius) (height_of 0) (apart c.x (x + origin)) (apart c.y (y + origin)) ≡ shape_on (disc d) x y
unfolding between
disc_on d z e x y p q =
    rw (none _ _, e, ← pixel_offset x (omega arith), ← pixel_offset y (omega arith))
    (disc_drawn (in_range_lem (pos x) (pixel_in x (omega arith))) (in_range_lem (pos y) (pixel_in y (omega arith))) d (disc_lawful d z))
  where
    none : (a b : ℕ) → chords (height_of d.radius) a b - chords (height_of 0) a b ≡ chords (height_of d.radius) a b
    none a b = omega (arith, chords-none (heights_of 0) a b)

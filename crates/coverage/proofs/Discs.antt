-- What a query answers of discs and rings, by the offsets of the centre and of the pixel.
use mathlib.Core.Path.{◌≡◌, sym, ap₂}
use Prim.Native.Nat.{ℕ, ◌-◌}
use lib.IntN.{ℤ}
use Rattle.numbers.specs.inner.Offset.{offset_of}
use Rattle.numbers.proofs.Coordinate.{InRange}
use Rattle.shapes.specs.declared.Disc.{Disc}
use Rattle.shapes.specs.declared.Ring.{Ring}
use Rattle.shapes.specs.declared.Shape.TheVariants.{Disc as disc, Ring as ring}
use Rattle.limits.proofs.Limits.{LawfulCircle, LawfulRing}
use Rattle.chords.specs.Circle.{height_of, chords, ring_cover}
use Rattle.chords.specs.inner.Circle.{apart}
use Rattle.chords.proofs.Chord.{disc_offset}
use Rattle.coverage.specs.Coverage.{rules_of, drawn_n}

module _ {x y : ℤ} (px : InRange x) (py : InRange y) where
  pub disc_drawn : {m : ℕ} (d : Disc) → LawfulCircle m d.x d.y d.radius
      → chords (height_of d.radius) (apart (offset_of d.x) (offset_of x)) (apart (offset_of d.y) (offset_of y)) ≡ drawn_n (disc d) x y
  unfolding rules_of
  disc_drawn d w = sym (disc_offset w.x_in w.y_in px py d.radius)

  pub ring_drawn : {m : ℕ} (g : Ring) → LawfulRing m g
      → chords (height_of g.radius) (apart (offset_of g.x) (offset_of x)) (apart (offset_of g.y) (offset_of y))
      - chords (height_of (g.radius - g.width)) (apart (offset_of g.x) (offset_of x)) (apart (offset_of g.y) (offset_of y))
      ≡ drawn_n (ring g) x y
  unfolding rules_of ring_cover
  ring_drawn g w =
      let at = disc_offset w.circle.x_in w.circle.y_in px py in
      sym (ap₂ ◌-◌ (at g.radius) (at (g.radius - g.width)))

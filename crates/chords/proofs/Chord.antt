-- Laws of the chord rule.
use mathlib.Core.Path.{◌≡◌, ap₂}
use mathlib.Core.Logic.{⊎_elim}
use Prim.Native.Nat.{ℕ, ◌+◌, ◌*◌, ◌-◌, ◌≤◌, ◌<◌, min, max}
use native.Mathlib.Omega.{arith}
use lib.IntN.{ℤ, ◌-ℤ◌}
use Rattle.numbers.specs.inner.Offset.{offset_most, offset_of}
use Rattle.numbers.proofs.Order.{lt_or_le, square_le}
use Rattle.numbers.proofs.Integer.{Diff, above, below}
use Rattle.numbers.proofs.Coordinate.{InRange, offset_diff, offset_le}
use Rattle.shapes.specs.inner.Offsets.{point_of}
use Rattle.shapes.specs.declared.Point.{Point}
use Rattle.chords.specs.Circle.{half_root, height_of, folded, chord, chords, disc_cover, ring_cover}
use Rattle.chords.specs.inner.Circle.{apart, Around, Narrowed}
use Rattle.chords.proofs.Height.{half_root_le, half_root_low, half_root_most, height-rises, height_beyond}

-- ---- one pixel

-- a height that is at least another gives at least its chord
chord-rises : (Y Z : ℕ → ℕ) (n k : ℕ) → Y k ≤ Z k → chord Y n k ≤ chord Z n k
unfolding chord
chord-rises Y Z n k h = omega arith

pub chords_rise : (Y Z : ℕ → ℕ) (a b : ℕ) → ((k : ℕ) → Y k ≤ Z k) → chords Y a b ≤ chords Z a b
unfolding chords
chords_rise Y Z a b h =
    omega (arith, chord-rises Y Z (max a b) (min a b) (h (min a b)), chord-rises Y Z (max a b) (min a b + 1) (h (min a b + 1)))

pub chords_le : (Y : ℕ → ℕ) (a b : ℕ) → chords Y a b ≤ 512
unfolding chords chord
chords_le Y a b = omega arith

-- ---- discs and rings

pub folded_diff : {z : ℤ} {x c : ℕ} → Diff z x c → folded z ≡ apart c x
unfolding folded
folded_diff (above p) = omega arith
folded_diff (below p) = omega arith

module _ {cx cy x y : ℤ} (pcx : InRange cx) (pcy : InRange cy) (px : InRange x) (py : InRange y) where
  -- by the offsets of the centre and of the pixel
  pub disc_offset : (R : ℕ) → disc_cover R cx cy x y ≡ chords (height_of R) (apart (offset_of cx) (offset_of x)) (apart (offset_of cy) (offset_of y))
  unfolding disc_cover
  disc_offset R = ap₂ (chords (height_of R)) (folded_diff (offset_diff px pcx)) (folded_diff (offset_diff py pcy))

-- no pixel has more than the whole
pub disc_le : (R : ℕ) (cx cy x y : ℤ) → disc_cover R cx cy x y ≤ 512
unfolding disc_cover
disc_le R cx cy x y = chords_le (height_of R) (folded (x -ℤ cx)) (folded (y -ℤ cy))

-- a disc of radius 0 has no heights, and covers nothing
pub disc_none : (cx cy x y : ℤ) → disc_cover 0 cx cy x y ≡ 0
unfolding disc_cover chords chord
disc_none cx cy x y =
    let none = height_beyond 0 in
    omega (arith, none (min (folded (x -ℤ cx)) (folded (y -ℤ cy))) (omega arith), none (min (folded (x -ℤ cx)) (folded (y -ℤ cy)) + 1) (omega arith))

-- a smaller disc covers no more, so that no ring is negative
pub disc_rises : (R S : ℕ) (cx cy x y : ℤ) → R ≤ S → disc_cover R cx cy x y ≤ disc_cover S cx cy x y
unfolding disc_cover
disc_rises R S cx cy x y h = chords_rise (height_of R) (height_of S) (folded (x -ℤ cx)) (folded (y -ℤ cy)) (λ k. height-rises R S k h)

pub ring_whole : (R w : ℕ) (cx cy x y : ℤ) → ring_cover R w cx cy x y + disc_cover (R - w) cx cy x y ≡ disc_cover R cx cy x y
unfolding ring_cover
ring_whole R w cx cy x y = omega (arith, disc_rises (R - w) R cx cy x y (omega arith))

pub ring_le : (R w : ℕ) (cx cy x y : ℤ) → ring_cover R w cx cy x y ≤ 512
ring_le R w cx cy x y = omega (arith, ring_whole R w cx cy x y, disc_le R cx cy x y)

-- no offset is further from another than the greatest and one
pub apart_le : (cx cy x y : ℤ) {c p : Point} {a b : ℕ} → c ≡ point_of cx cy → p ≡ point_of x y → a ≡ apart c.x p.x → b ≡ apart c.y p.y
    → (a ≤ offset_most + 1) × (b ≤ offset_most + 1)
apart_le cx cy x y e f g h =
    (rw (g, e, f) (near (offset_of cx) (offset_of x) (offset_le cx) (offset_le x)), rw (h, e, f) (near (offset_of cy) (offset_of y) (offset_le cy) (offset_le y)))
  where
    near : (u v : ℕ) → u ≤ offset_most + 1 → v ≤ offset_most + 1 → apart u v ≤ offset_most + 1
    near u v h k = omega arith

-- ---- a bracket around half a root

module _ (low high middle m : ℕ) (h : low < middle) (k : middle < high) where
  pub narrowed_up : (2 * middle - 1) * (2 * middle - 1) ≤ m → Narrowed low high m middle high
  narrowed_up e =
      record {
        around = λ b a. record { least = half_root_most b m middle (omega (arith, a.most)) e; less = a.less; most = a.most };
        smaller = omega arith;
        ordered = k;
      }

  pub narrowed_down : m < (2 * middle - 1) * (2 * middle - 1) → Narrowed low high m low middle
  narrowed_down e =
      record {
        around = λ b a. record { least = a.least; less = under b; most = omega (arith, a.most) };
        smaller = omega arith;
        ordered = h;
      }
    where
      smaller_root : (t : ℕ) → (2 * t - 1) * (2 * t - 1) ≤ m → t < middle
      smaller_root t g = ⊎_elim (λ l. l) (λ l. absurd (omega (arith, square_le {a = 2 * middle - 1} {b = 2 * t - 1} (omega arith)))) (lt_or_le t middle)

      under : (b : ℕ) → half_root b m < middle
      under b = ⊎_elim (λ z. omega arith) (λ g. smaller_root (half_root b m) g) (half_root_low b m)

pub around-start : (b m : ℕ) → Around b m 0 (b + 1)
around-start b m = record { least = omega arith; less = omega (arith, half_root_le b m); most = omega arith }

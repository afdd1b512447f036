-- The coverage of a ring, the part of a clip that it meets, and the bands and stretches of a row.
use Rattle.std.specs.Prelude.{◌≡◌, ℕ, ◌+◌, ◌-◌, ◌≤◌, ◌<◌}
use Rattle.numbers.specs.inner.Offset.{origin}
use Rattle.chords.specs.Circle.{height_of}
use Rattle.chords.specs.inner.Circle.{apart}
use Rattle.page.specs.inner.Paint.{clamped}
use Rattle.page.specs.declared.View.{View}
use Rattle.rings.specs.declared.Circles.{Circles}
use Rattle.rings.specs.declared.Ring.{Ring}
use Rattle.rings.specs.inner.Circles.{cover}
use Rattle.rings.specs.inner.Heights.{between}
use Rattle.rings.specs.inner.Placed.{around, cover_on}

-- the coverage of pixel (x, y)
abbrev pub covered_on : Ring → ℕ → ℕ → ℕ
covered_on ring = around ring (between (height_of ring.radius) (height_of ring.hole))

-- the columns of a clip nearer than d to the centre begin at left_of and end before right_of
abbrev pub left_of : View → Ring → ℕ → ℕ
left_of view ring d = clamped view.x0 view.x1 (ring.cx - d)

abbrev pub right_of : View → Ring → ℕ → ℕ
right_of view ring d = clamped view.x0 view.x1 (ring.cx + d)

-- the part of a clip that the box of a ring meets
abbrev pub boxed : View → Ring → View
boxed view ring =
    record {
      w = view.w;
      h = view.h;
      x0 = left_of view ring ring.radius;
      y0 = clamped view.y0 view.y1 (ring.cy - ring.radius);
      x1 = right_of view ring ring.radius;
      y1 = clamped view.y0 view.y1 (ring.cy + ring.radius);
    }

-- columns p to s of row y, of which q to r are whole
pub record Band (circles : Circles) (view : View) (y p q r s : ℕ) : Type 0 where
  pub row : (view.y0 ≤ y) × (y < view.y1)
  pub order : (view.x0 ≤ p) × (p ≤ q) × (q ≤ r) × (r ≤ s) × (s ≤ view.x1)
  pub whole : (x : ℕ) → q ≤ x → x < r → cover_on circles x y ≡ 512

-- the coverage of byte i of a stretch whose first pixel is in column x of the row at distance b
abbrev pub in_stretch : Circles → ℕ → ℕ → ℕ → ℕ
in_stretch circles x b i = cover circles (apart circles.ring.cx (x + i + origin)) b

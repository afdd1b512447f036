-- A ring on a page: its coverage by columns and rows.
use Rattle.std.specs.Prelude.{List, ℕ, ◌+◌, ◌≤◌, ◌<◌}
use Rattle.numbers.specs.inner.Offset.{origin, offset_most}
use Rattle.page.specs.inner.Paint.{clipped, Lawful, Drawn}
use Rattle.page.specs.declared.View.{View}
use Rattle.chords.specs.inner.Circle.{apart}
use Rattle.rings.specs.declared.Ring.{Ring}
use Rattle.rings.specs.declared.Circles.{Circles}
use Rattle.rings.specs.inner.Circles.{cover}

-- the coverage of pixel (x, y), of a coverage by both distances from the centre
abbrev pub around : Ring → (ℕ → ℕ → ℕ) → ℕ → ℕ → ℕ
around ring n x y = n (apart ring.cx (x + origin)) (apart ring.cy (y + origin))

abbrev pub cover_on : Circles → ℕ → ℕ → ℕ
cover_on circles = around circles.ring (cover circles)

-- every pixel of the clip is nearer to the centre than the radius
pub record Reached (view : View) (ring : Ring) : Type 0 where
  pub columns : (x : ℕ) → view.x0 ≤ x → x < view.x1 → apart ring.cx (x + origin) < ring.radius
  pub rows : (y : ℕ) → view.y0 ≤ y → y < view.y1 → apart ring.cy (y + origin) < ring.radius

-- where a ring is drawn: on a page of size bytes, in a clip within the ring's box
pub record Placed (view : View) (size : ℕ) (ring : Ring) : Type 0 where
  pub lawful : Lawful view size
  pub near : Reached view ring
  pub across : ring.cx ≤ offset_most
  pub down : ring.cy ≤ offset_most

-- what of the ring lies in columns x0 to x1 and rows y0 to y1 is drawn by an ink on l, which gives m, and touches t pixels
abbrev pub RingDrawn : (ℕ → ℕ → ℕ) → View → Circles → ℕ → ℕ → ℕ → ℕ → List ℕ → List ℕ → ℕ → Type 0
RingDrawn ink view circles x0 y0 x1 y1 l m t = Drawn view.w view.h ink (clipped x0 y0 x1 y1 (cover_on circles)) l m t

-- The box of a ring: a clip that is cut down to it draws the same.
use mathlib.Core.Path.{fun_ext}
use Rattle.std.proofs.Common.{◌≡◌, ℕ, ◌+◌, ◌≤◌, ◌⊎◌, inl, inr, List}
use Rattle.numbers.specs.inner.Offset.{origin}
use Rattle.page.specs.inner.Paint.{in_view, Lawful, Drawn}
use Rattle.page.specs.declared.View.{View}
use Rattle.page.proofs.Clip.{Inside, Outside, left_of_lem, right_of, above, below, clip_shrink, clip_zero}
use Rattle.page.proofs.Drawn.{drawn-none, drawn_ext}
use Rattle.chords.specs.Circle.{height_of}
use Rattle.chords.proofs.Height.{height-most, height-falls, height-rises}
use Rattle.rings.specs.inner.Heights.{at, between, Heights, Nested}
use Rattle.circles.specs.inner.Row.{boxed, covered_on}
use Rattle.rings.specs.declared.Ring.{Ring}
use Rattle.rings.proofs.Chords.{between_far}
use Rattle.page.proofs.Clamp.{clamped_low, clamped_high, before-clamped, from_clamped}
use Rattle.circles.proofs.Apart.{apart-left, apart-right}

-- ---- the heights of circles

pub heights_of : (R : ℕ) → Heights (height_of R) R
heights_of R = record { falls = height-falls R; most = height-most R }

-- an array that holds them
pub held : (hs : List ℕ) (R : ℕ) → ((k : ℕ) → at hs k ≡ height_of R k) → at hs ≡ height_of R
held hs R h = fun_ext h

-- they are those of a circle within another
pub nested_of : (ring : Ring) (outer inner : List ℕ) → at outer ≡ height_of ring.radius → at inner ≡ height_of ring.hole
    → Nested (at outer) (at inner) ring.radius ring.hole
nested_of ring outer inner e f =
    rw (e, f)
    (record {
      outer = heights_of ring.radius;
      inner = heights_of ring.hole;
      least = ring.within;
      most = ring.most;
      within = λ j. height-rises ring.hole ring.radius j ring.within;
    })

-- ---- the box

module _ (view : View) (ring : Ring) {size : ℕ} (law : Lawful view size) where
  abbrev box : View
  box = boxed view ring

  boxed-same : (x y : ℕ) → in_view box (covered_on ring) x y ≡ in_view view (covered_on ring) x y
  boxed-same =
      clip_shrink view.x0 view.y0 view.x1 view.y1 box.x0 box.y0 box.x1 box.y1 (covered_on ring)
      (clamped_low _ _ _ law.x-order) (clamped_low _ _ _ law.y-order) (clamped_high _ _ _) (clamped_high _ _ _) none
    where
      far : (a b : ℕ) → (ring.radius ≤ a) ⊎ (ring.radius ≤ b) → between (height_of ring.radius) (height_of ring.hole) a b ≡ 0
      far = between_far (heights_of ring.radius) (height_of ring.hole)

      none : (x y : ℕ) → Inside view.x0 view.y0 view.x1 view.y1 x y → Outside box.x0 box.y0 box.x1 box.y1 x y → covered_on ring x y ≡ 0
      none x y i (left_of_lem h) = far _ _ (inl (apart-left ring.cx ring.radius (x + origin) (before-clamped _ _ _ x i.left h)))
      none x y i (right_of h) = far _ _ (inl (apart-right ring.cx ring.radius (x + origin) (from_clamped _ _ _ x i.right h)))
      none x y i (above h) = far _ _ (inr (apart-left ring.cy ring.radius (y + origin) (before-clamped _ _ _ y i.top h)))
      none x y i (below h) = far _ _ (inr (apart-right ring.cy ring.radius (y + origin) (from_clamped _ _ _ y i.bottom h)))

  pub boxed-drawn : {ink : ℕ → ℕ → ℕ} {l m : List ℕ} {t : ℕ}
      → Drawn view.w view.h ink (in_view box (covered_on ring)) l m t
      → Drawn view.w view.h ink (in_view view (covered_on ring)) l m t
  boxed-drawn = drawn_ext (in_view view (covered_on ring)) boxed-same

  -- where the clip does not meet the box, nothing is drawn
  pub boxed_empty : (ink : ℕ → ℕ → ℕ) (l : List ℕ)
      → ((x y : ℕ) → Inside box.x0 box.y0 box.x1 box.y1 x y → ⊥)
      → Drawn view.w view.h ink (in_view view (covered_on ring)) l l 0
  boxed_empty ink l none = boxed-drawn (drawn-none _ _ ink _ l (clip_zero _ _ _ _ _ (λ x y i. absurd (none x y i))))

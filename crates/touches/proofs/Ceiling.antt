-- No shape touches more pixels than its ceiling, nor more than the clip has (R6.6).
use mathlib.Core.Path.{◌≡◌, refl}
use mathlib.Core.Bool.{Bool, true, false, cond, ◌&&◌}
use mathlib.Core.Logic.{inl, inr}
use Prim.Native.Nat.{ℕ, ◌*◌, ◌-◌, ◌≤◌}
use native.Mathlib.Omega.{arith}
use lib.Dec.{ltb}
use lib.IntN.{ℤ, pos, ◌-ℤ◌}
use Rattle.numbers.specs.Sum.{sum_to}
use Rattle.numbers.proofs.Order.{cond_le}
use Rattle.numbers.proofs.Sum.{sum_zero, sum_swap, sum-few}
use Rattle.limits.specs.Limits.{shape_refusal}
use Rattle.shapes.specs.Span.{longer, steep, smallest, width, height}
use Rattle.ceilings.specs.Ceiling.{shape_ceiling, clip_pixels, ceiling_under}
use Rattle.shapes.specs.declared.Clip.{Clip}
use Rattle.shapes.specs.declared.Line.{Line}
use Rattle.shapes.specs.declared.Disc.{Disc}
use Rattle.shapes.specs.declared.Ring.{Ring}
use Rattle.shapes.specs.declared.Triangle.{Triangle}
use Rattle.shapes.specs.declared.Shape.{Shape}
use Rattle.shapes.specs.declared.Shape.TheVariants.{Line as line, Disc as disc, Ring as ring, Triangle as triangle}
use Rattle.limits.proofs.Limits.{LawfulLine, line_lawful}
use Rattle.coverage.specs.Coverage.{exact_n}
use Rattle.bands.specs.Frame.{framed}
use Rattle.coverage.proofs.Outside.{OffBox, first_row, line_outside, disc_outside, ring_outside, triangle_outside}
use Rattle.page.specs.inner.Paint.{clipped}
use Rattle.page.proofs.Clip.{Outside, left_of_lem, right_of, above, below, clip_out}
use Rattle.touches.specs.Touch.{keeps, touched, touch_count}

-- terms up to 1 that are 0 outside so many columns from x0 on, and outside so many rows of each, from a row of its own on
band : (w h : ℕ) (x0 : ℤ) (y0 : ℕ → ℤ) (columns rows : ℕ) (f : ℕ → ℕ → ℕ) → ((x y : ℕ) → f x y ≤ 1) → ((x y : ℕ) → OffBox x0 (y0 x) columns rows x y → f x y ≡ 0)
    → sum_to w (λ x. sum_to h (λ y. f x y)) ≤ columns * rows
band w h x0 y0 columns rows f one none =
    sum-few w x0 columns rows _ (λ x. omega (arith, sum-few h (y0 x) rows 1 (f x) (one x) (λ y o. none x y (inr o)))) (λ x o. sum_zero h _ (λ y _. none x y (inl o)))

module _ (w h : ℕ) (c : Clip) (s : Shape) where
  -- what a pixel adds to the count
  abbrev cell : ℕ → ℕ → ℕ
  cell x y = cond (touched c s x y) 1 0

  cell_le : (x y : ℕ) → cell x y ≤ 1
  cell_le x y = cond_le (touched c s x y) (omega arith) (omega arith)

  uncovered : (x y : ℕ) → exact_n s (pos x) (pos y) ≡ 0 → cell x y ≡ 0
  unfolding touched
  uncovered x y e = rw e (go (keeps c x y))
    where
      go : (k : Bool) → ◌≡◌ {A = ℕ} (cond (k && false) 1 0) 0
      go true = refl
      go false = refl

  unkept : (x y : ℕ) → Outside c.x0 c.y0 c.x1 c.y1 x y → cell x y ≡ 0
  unfolding touched keeps clipped
  unkept x y o = go (keeps c x y) (ltb 0 (exact_n s (pos x) (pos y))) (clip_out c.x0 c.y0 c.x1 c.y1 (λ x y. 1) x y o)
    where
      go : (k t : Bool) → ◌≡◌ {A = ℕ} (cond k 1 0) 0 → ◌≡◌ {A = ℕ} (cond (k && t) 1 0) 0
      go true t e = absurd (omega arith)
      go false t e = refl

  -- a band that runs along x, and one that runs along y
  by_columns : (x0 : ℤ) (y0 : ℕ → ℤ) (columns rows : ℕ) → ((x y : ℕ) → OffBox x0 (y0 x) columns rows x y → cell x y ≡ 0) → touch_count w h c s ≤ columns * rows
  unfolding touch_count
  by_columns x0 y0 columns rows none = rw (sum_swap h w cell) (band w h x0 y0 columns rows cell cell_le none)

  by_rows : (y0 : ℤ) (x0 : ℕ → ℤ) (rows columns : ℕ) → ((x y : ℕ) → OffBox y0 (x0 y) rows columns y x → cell x y ≡ 0) → touch_count w h c s ≤ rows * columns
  unfolding touch_count
  by_rows y0 x0 rows columns none = band h w y0 x0 rows columns (λ y x. cell x y) (λ y x. cell_le x y) (λ y x. none x y)

  -- a shape that covers nothing outside a box
  boxed : (x0 y0 : ℤ) (columns rows : ℕ) → ((x y : ℕ) → OffBox x0 y0 columns rows x y → exact_n s (pos x) (pos y) ≡ 0) → touch_count w h c s ≤ columns * rows
  boxed x0 y0 columns rows none = by_columns x0 (λ x. y0) columns rows (λ x y o. uncovered x y (none x y o))

  -- no more than the pixels of the clip
  pub clip-ceiling : touch_count w h c s ≤ clip_pixels c
  unfolding clip_pixels
  clip-ceiling = by_columns (pos c.x0) (λ x. pos c.y0) (c.x1 - c.x0) (c.y1 - c.y0) (λ x y o. unkept x y (out x y o))
    where
      out : (x y : ℕ) → OffBox (pos c.x0) (pos c.y0) (c.x1 - c.x0) (c.y1 - c.y0) x y → Outside c.x0 c.y0 c.x1 c.y1 x y
      out x y (inl (inl h)) = left_of_lem (omega arith)
      out x y (inl (inr h)) = right_of (omega arith)
      out x y (inr (inl h)) = above (omega arith)
      out x y (inr (inr h)) = below (omega arith)

module _ (w h : ℕ) (c : Clip) where
  -- three pixels in each of a line's columns, which are rows of the page where y is the longer
  pub line_ceiling_lem : (n : Line) → LawfulLine n → touch_count w h c (line n) ≤ 3 * longer n
  line_ceiling_lem n law = go (steep n) refl
    where
      go : (t : Bool) → steep n ≡ t → touch_count w h c (line n) ≤ 3 * longer n
      go true e =
          omega (
            arith,
            by_rows w h c (line n) (framed n).x0 (first_row n) (longer n) 3 (λ x y o. uncovered w h c (line n) x y (line_outside n x y law (rw e o))),
          )
      go false e =
          omega (
            arith,
            by_columns w h c (line n) (framed n).x0 (first_row n) (longer n) 3 (λ x y o. uncovered w h c (line n) x y (line_outside n x y law (rw e o))),
          )

  pub disc_ceiling : (d : Disc) → touch_count w h c (disc d) ≤ 4 * (d.radius * d.radius)
  disc_ceiling d =
      let r = d.radius in
      omega (arith, boxed w h c (disc d) (d.x -ℤ pos r) (d.y -ℤ pos r) (2 * r) (2 * r) (disc_outside d))

  pub ring_ceiling : (g : Ring) → touch_count w h c (ring g) ≤ 4 * (g.radius * g.radius)
  ring_ceiling g =
      let r = g.radius in
      omega (arith, boxed w h c (ring g) (g.x -ℤ pos r) (g.y -ℤ pos r) (2 * r) (2 * r) (ring_outside g))

  pub triangle_ceiling_lem : (t : Triangle) → touch_count w h c (triangle t) ≤ width t * height t
  triangle_ceiling_lem t =
      boxed w h c (triangle t) (smallest t.x0 t.x1 t.x2) (smallest t.y0 t.y1 t.y2) (width t) (height t) (triangle_outside t)

  pub shape-ceiling : (s : Shape) → shape_refusal s ≡ 0 → touch_count w h c s ≤ shape_ceiling s
  unfolding shape_ceiling
  shape-ceiling (line n) z = line_ceiling_lem n (line_lawful n z)
  shape-ceiling (disc d) z = disc_ceiling d
  shape-ceiling (ring g) z = ring_ceiling g
  shape-ceiling (triangle t) z = triangle_ceiling_lem t

  -- no more than the ceiling under the clip
  pub touches-ceiling : (s : Shape) → shape_refusal s ≡ 0 → touch_count w h c s ≤ ceiling_under c s
  unfolding ceiling_under
  touches-ceiling s z = omega (arith, shape-ceiling s z, clip-ceiling w h c s)

-- Laws of strips: the columns of a line's frame under a clip.
use mathlib.Core.Bool.{Bool, true, false, cond}
use mathlib.Core.Path.{◌≡◌, refl, sym, subst, ◌∙◌}
use mathlib.Core.Logic.{◌⊎◌, inl, inr, ⊎_elim}
use Prim.Native.Nat.{ℕ, ◌+◌, ◌-◌, ◌≤◌, ◌<◌}
use native.Mathlib.Omega.{arith}
use lib.IntN.{pos, sub_ℕ}
use Rattle.numbers.specs.inner.Offset.{origin, offset_of}
use Rattle.numbers.proofs.Order.{lt_or_le}
use Rattle.numbers.proofs.Integer.{Diff}
use Rattle.numbers.proofs.Coordinate.{InRange, in_range_lem, pixel_in, pixel_offset}
use Rattle.shapes.specs.declared.Line.{Line}
use Rattle.bands.specs.Line.{row_of, rest_of}
use Rattle.bands.specs.Frame.{column_of}
use Rattle.shapes.specs.declared.Shape.TheVariants.{Line as line}
use Rattle.coverage.specs.inner.OnPage.{shape_on}
use Rattle.bands.specs.inner.Rows.{rows_of, at_row}
use Rattle.bands.specs.inner.Frame.{Framed, row_origin}
use Rattle.bands.specs.declared.Frame.{Frame}
use Rattle.bands.specs.declared.Rows.{Rows}
use Rattle.bands.proofs.Framing.{column_diff}
use Rattle.coverage.proofs.Pixel.{drawn-left, drawn-right, drawn-inside}
use Rattle.page.specs.inner.Paint.{clipped, in_view}
use Rattle.page.specs.declared.View.{View}
use Rattle.page.proofs.Clip.{in_or_out, clip_in, clip_out, clip-columns, clip-rows, Join}
use Rattle.columns.specs.inner.Layout.{along_of, across_of, along_from, along_end, across_from, across_end, strip, row_on}

-- a pixel in the columns p to e, under the clip
pub record InStrip (c : View) (f : Frame) (p e x y : ℕ) : Type 0 where
  pub least : p ≤ along_of f x y
  pub less : along_of f x y < e
  pub low : across_from c f ≤ across_of f x y
  pub high : across_of f x y < across_end c f

pub strip_small : {c : View} {f : Frame} {p e x y : ℕ} → InStrip c f p e x y → e ≤ along_end c f → (x < c.x1) × (y < c.y1)
strip_small {c} {f} {p} {e} {x} {y} i h = by f.steep (omega (arith, i.less)) i.high
  where
    by : (t : Bool) → cond t y x < cond t c.y1 c.x1 → cond t x y < cond t c.x1 c.y1 → (x < c.x1) × (y < c.y1)
    by true a b = (b, a)
    by false a b = (a, b)

-- ---- strips of any coverage
module _ (c : View) (f : Frame) (n : ℕ → ℕ → ℕ) where
  -- columns p to q and q to e are columns p to e
  pub strip_join : (p q e : ℕ) → p ≤ q → q ≤ e → Join (strip c f p q n) (strip c f q e n) (strip c f p e n)
  unfolding strip
  strip_join p q e h k = go f.steep
    where
      go : (t : Bool)
          → Join (cond t (clipped c.x0 p c.x1 q n) (clipped p c.y0 q c.y1 n))
          (cond t (clipped c.x0 q c.x1 e n) (clipped q c.y0 e c.y1 n))
          (cond t (clipped c.x0 p c.x1 e n) (clipped p c.y0 e c.y1 n))
      go true = clip-rows c.x0 p c.x1 e q n h k
      go false = clip-columns p c.y0 e c.y1 q n h k

  -- a strip has the coverage of the pixels in it, and 0 elsewhere
  pub strip_in : (p e x y : ℕ) → InStrip c f p e x y → strip c f p e n x y ≡ n x y
  unfolding strip
  strip_in p e x y i = go f.steep i.least i.less i.low i.high
    where
      go : (t : Bool) → p ≤ cond t y x → cond t y x < e → cond t c.x0 c.y0 ≤ cond t x y → cond t x y < cond t c.x1 c.y1
          → cond t (clipped c.x0 p c.x1 e n) (clipped p c.y0 e c.y1 n) x y ≡ n x y
      go true a b l h = clip_in c.x0 p c.x1 e n x y (record { left = l; right = h; top = a; bottom = b })
      go false a b l h = clip_in p c.y0 e c.y1 n x y (record { left = a; right = b; top = l; bottom = h })

  pub in_or_none : (p e x y : ℕ) → InStrip c f p e x y ⊎ (strip c f p e n x y ≡ 0)
  unfolding strip
  in_or_none p e x y = ⊎_elim (λ i. inl (record { least = i.0; less = i.1; low = i.2; high = i.3 })) (λ z. inr z) (go f.steep)
    where
      go : (t : Bool) → ((p ≤ cond t y x) × (cond t y x < e) × (cond t c.x0 c.y0 ≤ cond t x y) × (cond t x y < cond t c.x1 c.y1))
          ⊎ (cond t (clipped c.x0 p c.x1 e n) (clipped p c.y0 e c.y1 n) x y ≡ 0)
      go true = ⊎_elim (λ i. inl (i.top, i.bottom, i.left, i.right)) (λ o. inr (clip_out c.x0 p c.x1 e n x y o)) (in_or_out c.x0 p c.x1 e x y)
      go false = ⊎_elim (λ i. inl (i.left, i.right, i.top, i.bottom)) (λ o. inr (clip_out p c.y0 e c.y1 n x y o)) (in_or_out p c.y0 e c.y1 x y)

  pub strip-none : (p e : ℕ) → e ≤ p → (x y : ℕ) → strip c f p e n x y ≡ 0
  strip-none p e h x y = ⊎_elim (λ i. absurd (omega (arith, i.least, i.less))) (λ z. z) (in_or_none p e x y)

  -- the clip is the strip of all its columns
  strip_view : (x y : ℕ) → strip c f (along_from c f) (along_end c f) n x y ≡ in_view c n x y
  unfolding strip
  strip_view x y = by f.steep
    where
      by : (t : Bool) → let from = cond t c.y0 c.x0 in let end = cond t c.y1 c.x1 in
          cond t (clipped c.x0 from c.x1 end n) (clipped from c.y0 end c.y1 n) x y ≡ in_view c n x y
      by true = refl
      by false = refl

  -- so that a pixel in any strip of it is in the clip
  pub in_view_lem : (p e x y : ℕ) → along_from c f ≤ p → e ≤ along_end c f → InStrip c f p e x y → in_view c n x y ≡ n x y
  in_view_lem p e x y h k i =
      sym (strip_view x y) ∙ strip_in _ _ x y (record { least = omega (arith, i.least); less = omega (arith, i.less); low = i.low; high = i.high })

  -- and a coverage that is 0 under the clip is 0 in view
  pub view_none : ((x y : ℕ) → InStrip c f (along_from c f) (along_end c f) x y → n x y ≡ 0) → (x y : ℕ) → in_view c n x y ≡ 0
  view_none zero x y = sym (strip_view x y) ∙ ⊎_elim (λ i. strip_in _ _ x y i ∙ zero x y i) (λ z. z) (in_or_none (along_from c f) (along_end c f) x y)

  -- and so of those outside which the coverage is 0
  pub strip-whole : (p e : ℕ) → along_from c f ≤ p → e ≤ along_end c f
      → ((x y : ℕ) → InStrip c f (along_from c f) (along_end c f) x y → (along_of f x y < p) ⊎ (e ≤ along_of f x y) → n x y ≡ 0)
      → (x y : ℕ) → strip c f p e n x y ≡ in_view c n x y
  strip-whole p e h k none x y = ⊎_elim inside outside (in_or_none (along_from c f) (along_end c f) x y) ∙ strip_view x y
    where
      inside : InStrip c f (along_from c f) (along_end c f) x y → strip c f p e n x y ≡ strip c f (along_from c f) (along_end c f) n x y
      inside i = ⊎_elim (strip_in p e x y) (λ z. z ∙ sym (beyond z (lt_or_le (along_of f x y) p) (lt_or_le (along_of f x y) e))) (in_or_none p e x y) ∙ sym (strip_in _ _ x y i)
        where
          beyond : strip c f p e n x y ≡ 0 → (along_of f x y < p) ⊎ (p ≤ along_of f x y) → (along_of f x y < e) ⊎ (e ≤ along_of f x y) → n x y ≡ 0
          beyond z (inl a) b = none x y i (inl a)
          beyond z (inr a) (inr b) = none x y i (inr b)
          beyond z (inr a) (inl b) = sym (strip_in p e x y (record { least = a; less = b; low = i.low; high = i.high })) ∙ z

      outside : strip c f (along_from c f) (along_end c f) n x y ≡ 0 → strip c f p e n x y ≡ strip c f (along_from c f) (along_end c f) n x y
      outside o =
          ⊎_elim (λ i. strip_in p e x y i ∙ sym (strip_in _ _ x y (record { least = omega (arith, i.least); less = omega (arith, i.less); low = i.low; high = i.high })))
          (λ z. z ∙ sym o) (in_or_none p e x y)

-- ---- a line's coverage

either_offset : (t : Bool) {a b : ℕ} → a ≤ 4095 → b ≤ 4095 → cond t (offset_of (pos a)) (offset_of (pos b)) ≡ cond t a b + origin
either_offset true {a} h k = pixel_offset a h
either_offset false {b = b} h k = pixel_offset b k

module _ {n : Line} {f : Frame} (g : Framed n f) (x y : ℕ) (hx : x ≤ 4095) (hy : y ≤ 4095) where
  px : InRange (pos x)
  px = in_range_lem (pos x) (pixel_in x hx)

  py : InRange (pos y)
  py = in_range_lem (pos y) (pixel_in y hy)

  abbrev a : ℕ
  a = along_of f x y

  along_offset : cond f.steep (offset_of (pos y)) (offset_of (pos x)) ≡ a + origin
  along_offset = either_offset f.steep hy hx

  across_offset : cond f.steep (offset_of (pos x)) (offset_of (pos y)) ≡ across_of f x y + origin
  across_offset = either_offset f.steep hx hy

  -- its column is counted from the first end
  pub column-along : Diff (column_of n (pos x) (pos y)) (a + origin) f.x
  column-along = subst (λ (k : ℕ). Diff (column_of n (pos x) (pos y)) k f.x) along_offset (column_diff g px py)

  -- 0 left and right of its columns
  pub line_left : a + origin < f.x → shape_on (line n) x y ≡ 0
  line_left h = sym (drawn-left g px py (rw along_offset h))

  pub line_right : f.x + f.l ≤ a + origin → shape_on (line n) x y ≡ 0
  line_right h = sym (drawn-right g px py (rw along_offset h))

  -- in its columns, what the closed rows have
  abbrev i : ℕ
  i = a + origin - f.x

  abbrev rows : Rows
  rows = rows_of n.exact f.l f.s (rest_of f.l f.s i)

  pub line_inside : f.x ≤ a + origin → a + origin < f.x + f.l
      → shape_on (line n) x y
      ≡ at_row rows (sub_ℕ (row_on f x y) (row_origin + row_of f.l f.s i))
  line_inside h k = sym (rw (along_offset, across_offset) at (drawn-inside g px py (rw along_offset h) (rw along_offset k)))

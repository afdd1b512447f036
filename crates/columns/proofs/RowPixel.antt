-- One row of a column on the page: where it lies, and what drawing it does.
use mathlib.Core.Bool.{Bool, true, false, cond}
use mathlib.Core.Path.{◌≡◌, refl, ap, ◌∙◌}
use mathlib.Core.Logic.{◌⊎◌, inl, inr, ⊎_elim}
use mathlib.Core.List.{List}
use Prim.Native.Nat.{ℕ, ◌+◌, ◌-◌, ◌*◌, ◌≤◌, ◌<◌}
use native.Mathlib.Omega.{arith}
use lib.Dec.{leb, ltb, eqb}
use lib.ListN.{length}
use borrow.Author.Tests.{eq-eqb, ne_eqb, le-leb, lt-ltb, leb-true, ltb-true}
use Rattle.bands.specs.inner.Frame.{row_origin, row_by}
use Rattle.numbers.specs.inner.Offset.{origin, offset_most}
use Rattle.numbers.proofs.Order.{eq_or_ne, both_true}
use Rattle.bands.specs.declared.Frame.{Frame}
use Rattle.page.specs.inner.Paint.{Lawful, Drawn}
use Rattle.page.specs.declared.View.{View}
use Rattle.page.proofs.Paint.{row-end}
use Rattle.page.proofs.Drawn.{drawn-none, drawn_one}
use Rattle.columns.specs.inner.Layout.{along_of, across_of, along_from, along_end, across_from, across_end, strip, row_on, byte_at, Laid, shown, spotted, counted, across_by, edge_by}
use Rattle.columns.specs.declared.layout.Layout.{Layout}
use Rattle.columns.proofs.Strip.{InStrip, strip_in, strip_small, in_or_none}

-- pixel (x, y) is that of column p and row g
pub record Pixel (c : View) (f : Frame) (lay : Layout) (p g x y : ℕ) : Type 0 where
  pub x-less : x < c.w
  pub y-less : y < c.h
  pub along-is : along_of f x y ≡ p
  pub row_is : row_on f x y ≡ g
  pub byte-is : byte_at f lay p g ≡ y * c.w + x + lay.origin
  pub kept : InStrip c f p (p + 1) x y
  pub alone : (n : ℕ → ℕ → ℕ) (x' y' : ℕ) → row_on f x' y' ≡ g → ((x' ≡ x) × (y' ≡ y) → ⊥) → strip c f p (p + 1) n x' y' ≡ 0

-- the page's pixel across a column at row g of a frame with its first end at offset y
abbrev pub across_at : Bool → ℕ → ℕ → ℕ
across_at falls y g = cond falls (y + (row_origin - origin - 1) - g) (g + y - (row_origin + origin))

-- b is that pixel, within r0 to r1
record Across (falls : Bool) (y g r0 r1 b : ℕ) : Type 0 where
  least : r0 ≤ b
  less : b < r1
  row_is : row_by falls y (b + origin) ≡ g
  byte-is : across_by falls y g ≡ b + (row_origin + origin)
  alone : (b' : ℕ) → b' < r1 → row_by falls y (b' + origin) ≡ g → b' ≡ b

across-is : (falls : Bool) (y g r0 r1 low high : ℕ) → y ≤ offset_most → r1 ≤ 1024 → r0 ≤ r1
    → low ≡ edge_by falls y r1 r0
    → high ≡ edge_by falls y r0 r1
    → low ≤ g
    → g < high
    → Across falls y g r0 r1 (across_at falls y g)
across-is true y g r0 r1 low high hy hr h el eh lo hi =
    record { least = omega arith; less = omega arith; row_is = omega arith; byte-is = omega arith; alone = λ b k e. omega arith }
across-is false y g r0 r1 low high hy hr h el eh lo hi =
    record { least = omega arith; less = omega arith; row_is = omega arith; byte-is = omega arith; alone = λ b k e. omega arith }

-- a pixel of the clip has its row among those that are shown
row-shown : (falls : Bool) (y r0 r1 low high b : ℕ) → y ≤ offset_most → r1 ≤ 1024
    → low ≡ edge_by falls y r1 r0
    → high ≡ edge_by falls y r0 r1
    → r0 ≤ b
    → b < r1
    → (low ≤ row_by falls y (b + origin)) × (row_by falls y (b + origin) < high)
row-shown true y r0 r1 low high b hy hr el eh h k = (omega arith, omega arith)
row-shown false y r0 r1 low high b hy hr el eh h k = (omega arith, omega arith)

-- the two directions of a frame
module _ (f : Frame) where
  turned : (p b : ℕ) → (along_of f (cond f.steep b p) (cond f.steep p b) ≡ p) × (across_of f (cond f.steep b p) (cond f.steep p b) ≡ b)
  turned p b = by f.steep
    where
      by : (t : Bool) → (cond t (cond t p b) (cond t b p) ≡ p) × (cond t (cond t b p) (cond t p b) ≡ b)
      by true = (refl, refl)
      by false = (refl, refl)

  same_pixel : {p b x y : ℕ} → along_of f x y ≡ p → across_of f x y ≡ b → (x ≡ cond f.steep b p) × (y ≡ cond f.steep p b)
  same_pixel {p} {b} {x} {y} = by f.steep
    where
      by : (t : Bool) → cond t y x ≡ p → cond t x y ≡ b → (x ≡ cond t b p) × (y ≡ cond t p b)
      by true e g = (g, e)
      by false e g = (e, g)

-- the byte of pixel b of column p, with the layout's origin
byte_of : (t : Bool) (w p b : ℕ)
    → (p + origin) * cond t w 1 + (b + (row_origin + origin)) * cond t 1 w ≡ cond t p b * w + cond t b p + (origin * cond t w 1 + (row_origin + origin) * cond t 1 w)
byte_of true w p b = omega arith
byte_of false w p b = omega arith

module _ (c : View) (f : Frame) (lay : Layout) (size : ℕ) (w : Lawful c size) (d : Laid c f lay) (hy : f.y ≤ offset_most) where
  across_order : (across_from c f ≤ across_end c f) × (across_end c f ≤ 1024)
  across_order = by f.steep
    where
      by : (t : Bool) → (cond t c.x0 c.y0 ≤ cond t c.x1 c.y1) × (cond t c.x1 c.y1 ≤ 1024)
      by true = (w.x-order, omega (arith, w.x-most, w.w-most))
      by false = (w.y-order, omega (arith, w.y-most, w.h-most))

  -- the pixel of column p and row g
  abbrev pub pixel_x : ℕ → ℕ → ℕ
  pixel_x p g = cond f.steep (across_at f.falls f.y g) p

  abbrev pub pixel_y : ℕ → ℕ → ℕ
  pixel_y p g = cond f.steep p (across_at f.falls f.y g)

  pub pixel : (p g : ℕ) → along_from c f ≤ p → p < along_end c f → shown lay g ≡ true → Pixel c f lay p g (pixel_x p g) (pixel_y p g)
  pixel p g h k e =
      let both = both_true (leb lay.low g) (ltb g lay.high) e in
      let o = across_order in
      let least = leb-true lay.low g both.0 in
      let less = ltb-true g lay.high both.1 in
      let a = across-is f.falls f.y g (across_from c f) (across_end c f) lay.low lay.high hy o.1 o.0 d.low-is d.high_is least less in
      let t = turned f p (across_at f.falls f.y g) in
      let i : InStrip c f p (p + 1) (pixel_x p g) (pixel_y p g) =
      record { least = omega (arith, t.0); less = omega (arith, t.0); low = omega (arith, t.1, a.least); high = omega (arith, t.1, a.less) } in
      let s = strip_small i (omega arith) in
      record {
        x-less = omega (arith, s.0, w.x-most);
        y-less = omega (arith, s.1, w.y-most);
        along-is = t.0;
        row_is = rw t.1 a.row_is;
        byte-is = rw (d.along-is, d.across-is, d.origin-is, a.byte-is) (rw (d.along-is, d.across-is) (byte_of f.steep c.w p (across_at f.falls f.y g)));
        kept = i;
        alone =
            λ n x y e ne.
            ⊎_elim (λ j. absurd (ne (same_pixel f (omega (arith, j.least, j.less)) (a.alone (across_of f x y) j.high e)))) (λ z. z) (in_or_none c f n p (p + 1) x y);
      }

  -- a pixel under the clip has its row among those that are shown
  pub row_kept : {p e x y : ℕ} → InStrip c f p e x y → (lay.low ≤ row_on f x y) × (row_on f x y < lay.high)
  row_kept {x = x} {y = y} i =
      row-shown f.falls f.y (across_from c f) (across_end c f) lay.low lay.high (across_of f x y) hy across_order.1 d.low-is d.high_is i.low i.high

  hidden : (p e : ℕ) (n : ℕ → ℕ → ℕ) (x y : ℕ) → ((lay.low ≤ row_on f x y) × (row_on f x y < lay.high) → ⊥) → strip c f p e n x y ≡ 0
  hidden p e n x y out = ⊎_elim (λ i. absurd (out (row_kept i))) (λ z. z) (in_or_none c f n p e x y)

-- ---- one row of column p, drawn
module _ (c : View) (f : Frame) (lay : Layout) (size p : ℕ) (w : Lawful c size) (d : Laid c f lay) (hy : f.y ≤ offset_most)
    (from : along_from c f ≤ p) (end : p < along_end c f) (n : ℕ → ℕ → ℕ) where
  -- the column's coverage, and that of its row g alone
  abbrev column : ℕ → ℕ → ℕ
  column = strip c f p (p + 1) n

  abbrev pub only : ℕ → ℕ → ℕ → ℕ
  only g x y = cond (eqb (row_on f x y) g) (column x y) 0

  shown_not : (g x y : ℕ) → shown lay g ≡ false → only g x y ≡ 0
  shown_not g x y e = go (eq_or_ne (row_on f x y) g)
    where
      go : (row_on f x y ≡ g) ⊎ (row_on f x y ≡ g → ⊥) → only g x y ≡ 0
      go (inl q) =
          ap (λ (t : Bool). cond t (column x y) 0) (eq-eqb (row_on f x y) g q)
          ∙ hidden c f lay size w d hy p (p + 1) n x y
          (λ b. let z : ◌≡◌ {A = ℕ} 0 1 = cc (le-leb lay.low g (omega (arith, b.0)), lt-ltb g lay.high (omega (arith, b.1))) in omega arith)
      go (inr q) = ap (λ (t : Bool). cond t (column x y) 0) (ne_eqb (row_on f x y) g q)

  pub spot_drawn : (ink : ℕ → ℕ → ℕ) (g m k : ℕ) (l : List ℕ) → c.h * c.w ≤ length l → k ≡ byte_at f lay p g
      → ((x y : ℕ) → Pixel c f lay p g x y → n x y ≡ m)
      → Drawn c.w c.h ink (only g) l (spotted (shown lay g) ink m (k - lay.origin) l) (counted (shown lay g) m)
  spot_drawn ink g m k l room ek is = go (shown lay g) refl
    where
      go : (t : Bool) → shown lay g ≡ t → Drawn c.w c.h ink (only g) l (spotted t ink m (k - lay.origin) l) (counted t m)
      go false e = drawn-none c.w c.h ink (only g) l (λ x y. shown_not g x y e)
      go true e =
          let q = pixel c f lay size w d hy p g from end e in
          let x : ℕ = cond f.steep (across_at f.falls f.y g) p in
          let y : ℕ = cond f.steep p (across_at f.falls f.y g) in
          let here : only g x y ≡ m = ap (λ (t : Bool). cond t (column x y) 0) (eq-eqb (row_on f x y) g q.row_is) ∙ strip_in c f n p (p + 1) x y q.kept ∙ is x y q in
          let place : k - lay.origin ≡ y * c.w + x = omega (arith, q.byte-is) in
          rw (place, ← here)
          (drawn_one c.w c.h ink x y (only g) l q.x-less q.y-less room
          (λ x' y' ne. elsewhere q x' y' ne (eq_or_ne (row_on f x' y') g)))
        where
          elsewhere : {x y : ℕ} → Pixel c f lay p g x y → (x' y' : ℕ) → ((x' ≡ x) × (y' ≡ y) → ⊥)
              → (row_on f x' y' ≡ g) ⊎ (row_on f x' y' ≡ g → ⊥) → only g x' y' ≡ 0
          elsewhere q x' y' ne (inl r) = ap (λ (t : Bool). cond t (column x' y') 0) (eq-eqb (row_on f x' y') g r) ∙ q.alone n x' y' r ne
          elsewhere q x' y' ne (inr r) = ap (λ (t : Bool). cond t (column x' y') 0) (ne_eqb (row_on f x' y') g r)

-- a row that is shown has its byte on the page
pub byte_on_page : (c : View) (f : Frame) (lay : Layout) (size p : ℕ) → Lawful c size → Laid c f lay → f.y ≤ offset_most → along_from c f ≤ p → p < along_end c f
    → (g : ℕ) → shown lay g ≡ true → (lay.origin ≤ byte_at f lay p g) × (byte_at f lay p g - lay.origin < size)
byte_on_page c f lay size p w d hy from end g e =
    let q = pixel c f lay size w d hy p g from end e in
    (omega (arith, q.byte-is), omega (arith, q.byte-is, q.x-less, w.room, row-end _ c.h c.w q.y-less))

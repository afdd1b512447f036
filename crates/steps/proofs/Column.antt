-- One column of a line, drawn row by row.
use mathlib.Core.Bool.{Bool, true, false, cond}
use mathlib.Core.Path.{◌≡◌, refl, sym, ap, ◌∙◌}
use mathlib.Core.Logic.{◌⊎◌, inl, inr, ⊎_elim}
use mathlib.Core.List.{List}
use Prim.Native.Nat.{ℕ, ◌+◌, ◌-◌, ◌*◌, ◌≤◌, ◌<◌}
use native.Mathlib.Omega.{arith}
use lib.Dec.{leb, eqb}
use lib.IntN.{sub_ℕ}
use lib.ListN.{length}
use borrow.Author.Tests.{eq-eqb, ne_eqb, le-leb, lt-leb}
use Rattle.numbers.specs.inner.Offset.{origin}
use Rattle.numbers.proofs.Order.{lt_or_le, eq_or_ne}
use Rattle.shapes.specs.declared.Line.{Line}
use Rattle.bands.specs.Line.{row_of, rest_of}
use Rattle.shapes.specs.declared.Shape.TheVariants.{Line as line}
use Rattle.coverage.specs.inner.OnPage.{shape_on}
use Rattle.bands.specs.inner.Rows.{rows_of, at_row}
use Rattle.bands.specs.inner.Frame.{Framed, row_origin}
use Rattle.bands.specs.declared.Frame.{Frame}
use Rattle.bands.specs.declared.Rows.{Rows}
use Rattle.bands.proofs.Closed.{row_le, row_below, row-lower, row-middle, row-upper, row-above}
use Rattle.page.specs.inner.Paint.{Lawful, Drawn}
use Rattle.page.specs.declared.View.{View}
use Rattle.page.proofs.Clip.{Either}
use Rattle.page.proofs.Drawn.{drawn_join, drawn-length}
use Rattle.columns.specs.inner.Layout.{along_of, along_from, along_end, strip, row_on, byte_at, Laid, shown, spotted, counted, columned, column_count, raised, lowered, across_by}
use Rattle.columns.specs.declared.layout.Layout.{Layout}
use Rattle.columns.proofs.Strip.{InStrip, strip_in, strip_small, in_or_none, line_inside}
use Rattle.columns.proofs.RowPixel.{Pixel, only, spot_drawn}

-- ---- a coverage v of row r, cut at row g: rows from g up, then the row below

upper_two : (r g v : ℕ) → (g + 1 < r → v ≡ 0) → Either (cond (eqb r (g + 1)) v 0) (cond (eqb r g) v 0) (cond (leb g r) v 0)
upper_two r g v out = go (eq_or_ne r (g + 1)) (eq_or_ne r g) (lt_or_le r g)
  where
    go : (r ≡ g + 1) ⊎ (r ≡ g + 1 → ⊥) → (r ≡ g) ⊎ (r ≡ g → ⊥) → (r < g) ⊎ (g ≤ r) → Either (cond (eqb r (g + 1)) v 0) (cond (eqb r g) v 0) (cond (leb g r) v 0)
    go (inl a) b c = inr (rw (ne_eqb r g (λ z. omega arith)), rw (eq-eqb r (g + 1) a, le-leb g r (omega arith)))
    go (inr a) (inl b) c = inl (rw (ne_eqb r (g + 1) a), rw (eq-eqb r g b, le-leb g r (omega arith)))
    go (inr a) (inr b) (inl c) = inl (rw (ne_eqb r (g + 1) a), rw (ne_eqb r g b, lt-leb g r c))
    go (inr a) (inr b) (inr c) = inl (rw (ne_eqb r (g + 1) a), rw (ne_eqb r g b, le-leb g r c, out (omega arith)))

lower_one : (r g v : ℕ) → 0 < g → (r + 1 < g → v ≡ 0) → Either (cond (leb g r) v 0) (cond (eqb r (g - 1)) v 0) v
lower_one r g v pos out = go (eq_or_ne r (g - 1)) (lt_or_le r g)
  where
    go : (r ≡ g - 1) ⊎ (r ≡ g - 1 → ⊥) → (r < g) ⊎ (g ≤ r) → Either (cond (leb g r) v 0) (cond (eqb r (g - 1)) v 0) v
    go (inl a) c = inl (rw (lt-leb g r (omega arith)), rw (eq-eqb r (g - 1) a))
    go (inr a) (inl c) = inl (rw (lt-leb g r c), rw (ne_eqb r (g - 1) a) (sym (out (omega arith))))
    go (inr a) (inr c) = inr (rw (ne_eqb r (g - 1) a), rw (le-leb g r c))

-- ---- the bytes of the rows above and below
module _ (f : Frame) (lay : Layout) (falls-is : lay.falls ≡ f.falls) (p g : ℕ) (some : 0 < g) (most : g + 1 < 2 * row_origin) where
  pub raised_byte : raised lay (byte_at f lay p g) ≡ byte_at f lay p (g + 1)
  raised_byte = rw falls-is (go f.falls)
    where
      go : (t : Bool)
          → cond t ((p + origin) * lay.along + across_by t f.y g * lay.across - lay.across)
          ((p + origin) * lay.along + across_by t f.y g * lay.across + lay.across)
          ≡ (p + origin) * lay.along + across_by t f.y (g + 1) * lay.across
      go true = let e : f.y + (2 * row_origin - 1) - g ≡ f.y + (2 * row_origin - 1) - (g + 1) + 1 = omega arith in rw e (omega arith)
      go false = omega arith

  pub lowered-byte : lowered lay (byte_at f lay p g) ≡ byte_at f lay p (g - 1)
  lowered-byte = rw falls-is (go f.falls)
    where
      e : g ≡ g - 1 + 1
      e = omega arith

      go : (t : Bool)
          → cond t ((p + origin) * lay.along + across_by t f.y g * lay.across + lay.across)
          ((p + origin) * lay.along + across_by t f.y g * lay.across - lay.across)
          ≡ (p + origin) * lay.along + across_by t f.y (g - 1) * lay.across
      go true = let e : f.y + (2 * row_origin - 1) - (g - 1) ≡ f.y + (2 * row_origin - 1) - g + 1 = omega arith in rw e (omega arith)
      go false = let e : f.y + g ≡ f.y + (g - 1) + 1 = omega arith in rw e (omega arith)

-- ---- column p
module _ (c : View) (n : Line) (f : Frame) (lay : Layout) (size p : ℕ) (w : Lawful c size) (g : Framed n f) (d : Laid c f lay)
    (from : along_from c f ≤ p) (end : p < along_end c f) (first : f.x ≤ p + origin) (last : p + origin < f.x + f.l) where
  abbrev i : ℕ
  i = p + origin - f.x

  abbrev q : ℕ
  q = row_of f.l f.s i

  abbrev rows : Rows
  rows = rows_of n.exact f.l f.s (rest_of f.l f.s i)

  abbrev G : ℕ
  G = row_origin + q

  -- a pixel of the column has what the closed rows say
  value : (x y : ℕ) → along_of f x y ≡ p → x ≤ 4095 → y ≤ 4095 → shape_on (line n) x y ≡ at_row rows (sub_ℕ (row_on f x y) G)
  value x y e hx hy = rw e at (line_inside g x y hx hy (rw e first) (rw e last))

  abbrev column : ℕ → ℕ → ℕ
  column = strip c f p (p + 1) (shape_on (line n))

  at-row : (r : ℕ) (v : ℕ) → v ≡ at_row rows (sub_ℕ r G) → (x y : ℕ) → Pixel c f lay p r x y → shape_on (line n) x y ≡ v
  at-row r v e x y u =
      value x y u.along-is (omega (arith, u.x-less, w.w-most)) (omega (arith, u.y-less, w.h-most))
      ∙ ap (λ (k : ℕ). at_row rows (sub_ℕ k G)) u.row_is ∙ sym e

  -- rows further from row q have nothing
  far : (x y : ℕ) → 0 ≡ at_row rows (sub_ℕ (row_on f x y) G) → column x y ≡ 0
  far x y e = ⊎_elim inside (λ z. z) (in_or_none c f (shape_on (line n)) p (p + 1) x y)
    where
      inside : InStrip c f p (p + 1) x y → column x y ≡ 0
      inside i =
          let s = strip_small i (omega arith) in
          strip_in c f (shape_on (line n)) p (p + 1) x y i
          ∙ value x y (omega (arith, i.least, i.less)) (omega (arith, w.x-most, w.w-most)) (omega (arith, w.y-most, w.h-most)) ∙ sym e

  pub column-drawn : (ink : ℕ → ℕ → ℕ) (k : ℕ) (l : List ℕ) → c.h * c.w ≤ length l → k ≡ byte_at f lay p G
      → Drawn c.w c.h ink column l
      (columned lay ink rows k G l) (column_count lay rows G)
  column-drawn ink k l room e =
      let small : q ≤ f.l = row_le f.l f.s i g.short (omega arith) in
      let upper = ap (raised lay) e ∙ raised_byte f lay d.falls-is p G (omega arith) (omega (arith, g.right)) in
      let lower = ap (lowered lay) e ∙ lowered-byte f lay d.falls-is p G (omega arith) (omega (arith, g.right)) in
      let up = spot (G + 1) rows.upper (raised lay k) l room upper (row-upper rows (G + 1) G refl) in
      let l₁ : List ℕ = spotted (shown lay (G + 1)) ink rows.upper (raised lay k - lay.origin) l in
      let l₂ : List ℕ = spotted (shown lay G) ink rows.middle (k - lay.origin) l₁ in
      let mid = spot G rows.middle k l₁ (omega (arith, drawn-length up)) e (row-middle rows G G refl) in
      let both = drawn_join from_up (λ x y. upper_two (row_on f x y) G (column x y) (λ h. far x y (row-above rows (row_on f x y) G (omega arith)))) up mid in
      let low = spot (G - 1) rows.lower (lowered lay k) l₂ (omega (arith, drawn-length both)) lower (row-lower rows (G - 1) G (omega arith)) in
      drawn_join column (λ x y. lower_one (row_on f x y) G (column x y) (omega arith) (λ h. far x y (row_below rows (row_on f x y) G (omega arith)))) both low
    where
      from_up : ℕ → ℕ → ℕ
      from_up x y = cond (leb G (row_on f x y)) (column x y) 0

      spot : (r v k : ℕ) (l : List ℕ) → c.h * c.w ≤ length l → k ≡ byte_at f lay p r → v ≡ at_row rows (sub_ℕ r G)
          → Drawn c.w c.h ink (only c f lay size p w d g.high from end (shape_on (line n)) r) l (spotted (shown lay r) ink v (k - lay.origin) l) (counted (shown lay r) v)
      spot r v k l room e is = spot_drawn c f lay size p w d g.high from end (shape_on (line n)) ink r v k l room e (at-row r v is)

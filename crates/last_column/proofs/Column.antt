-- The touched columns of a line, which a walk takes, are those of the definition.
use Rattle.std.specs.Prelude.{Some, None}
use mathlib.Core.Bool.{Bool, true, false, true≢false, cond, ◌&&◌}
use mathlib.Core.Path.{◌≡◌, refl, sym}
use mathlib.Core.Logic.{◌⊎◌, inl, inr, ⊎_elim}
use Prim.Native.Nat.{ℕ, zero, suc, ◌+◌, ◌-◌, ◌*◌, ◌≤◌, ◌<◌}
use native.Mathlib.Omega.{arith}
use lib.IntN.{ℤ, pos}
use borrow.Author.Tests.{eq-eqb, eqb-true, lt-ltb, le-ltb}
use Rattle.numbers.specs.inner.Offset.{origin}
use Rattle.numbers.proofs.Integer.{Diff, above, below}
use Rattle.numbers.proofs.Order.{lt_or_le}
use Rattle.numbers.proofs.Sum.{sum_zero, sum-some}
use Rattle.limits.specs.Limits.{size_refusal, clip_refusal, shape_refusal}
use Rattle.limits.proofs.Limits.{tried_clear}
use Rattle.shapes.specs.declared.Clip.{Clip}
use Rattle.shapes.specs.declared.Line.{Line}
use Rattle.shapes.specs.declared.Shape.TheVariants.{Line as line}
use Rattle.bands.specs.Frame.{column_of}
use Rattle.bands.specs.inner.Frame.{Framed}
use Rattle.coverage.specs.inner.OnPage.{shape_on}
use Rattle.bands.specs.declared.Frame.{Frame}
use Rattle.page.specs.inner.Paint.{Lawful}
use Rattle.columns.specs.inner.Layout.{along_of}
use Rattle.columns.specs.inner.Columns.{Columns}
use Rattle.columns.proofs.Strip.{InStrip, in_or_none, strip_small, column-along}
use Rattle.touches.specs.Touch.{touched}
use Rattle.last_column.specs.Column.{is_column, column_touches, last_of, last_column, column_refusal}
use Rattle.touches.specs.inner.View.{view_of}
use Rattle.draw.proofs.Refusals.{view_lawful}
use Rattle.touches.proofs.Touches.{touched_view}

-- no page is lent: one of just W-as-H bytes would do
pub column-lawful : (w h : ℕ) (c : Clip) (n : Line) → column_refusal w h c n ≡ 0 → Lawful (view_of w h c) (h * w) × (shape_refusal (line n) ≡ 0)
unfolding column_refusal
column-lawful w h c n z =
    let page = tried_clear (size_refusal w h) _ z in
    let kept = tried_clear (clip_refusal w h c) _ page.1 in
    (view_lawful w h (h * w) c page.0 (omega arith) kept.0, (tried_clear (shape_refusal (line n)) 0 kept.1).0)

-- ---- the last column that has touches
module _ (t : ℕ → ℕ) where
  pub last_none : (l : ℕ) → ((k : ℕ) → k < l → t k ≡ 0) → last_of l t ≡ None
  unfolding last_of
  last_none zero h = refl
  last_none (suc l) h = rw (le-ltb 0 (t l) (omega (arith, h l (omega arith)))) (last_none l (λ k b. h k (omega arith)))

  pub last_some : (l i : ℕ) → i < l → 0 < t i → ((k : ℕ) → i < k → k < l → t k ≡ 0) → last_of l t ≡ Some i
  unfolding last_of
  last_some zero i b p h = absurd (omega arith)
  last_some (suc l) i b p h = go (lt_or_le i l) (λ k. last_some l i k p (λ j a z. h j a (omega arith)))
    where
      go : (i < l) ⊎ (l ≤ i) → (i < l → last_of l t ≡ Some i) → last_of (suc l) t ≡ Some i
      go (inl k) before = rw (le-ltb 0 (t l) (omega (arith, h l k (omega arith)))) (before k)
      go (inr k) before = let e : i ≡ l = omega arith in rw (sym e, lt-ltb 0 (t i) p) refl

-- ---- a column by its number
at-column : {z : ℤ} {a b : ℕ} (k : ℕ) → Diff z a b → a ≡ b + k → is_column k z ≡ true
unfolding is_column
at-column k (above {n = n} p) e = eq-eqb n k (omega arith)
at-column k (below p) e = absurd (omega arith)

column-at : {z : ℤ} {a b : ℕ} (k : ℕ) → Diff z a b → is_column k z ≡ true → a ≡ b + k
unfolding is_column
column-at k (above {n = n} p) e = omega (arith, eqb-true n k e)
column-at k (below p) e = absurd (true≢false (sym e))

module _ (w h : ℕ) (c : Clip) (n : Line) (f : Frame) (size p e : ℕ) (lawful : Lawful (view_of w h c) size) (z : shape_refusal (line n) ≡ 0) (g : Framed n f)
    (r : Columns (view_of w h c) n f p e) where
  -- a pixel that is touched lies in one of the columns
  within : (x y : ℕ) → touched c (line n) x y ≡ true → InStrip (view_of w h c) f p e x y
  within x y t =
      ⊎_elim (λ i. i) (λ k. absurd (omega (arith, r.whole x y, (touched_view w h c (line n) z x y).0 t))) (in_or_none (view_of w h c) f (shape_on (line n)) p e x y)

  -- and in the column that it has in the frame
  column-is : (x y : ℕ) → InStrip (view_of w h c) f p e x y → Diff (column_of n (pos x) (pos y)) (along_of f x y + origin) f.x
  column-is x y i =
      let b = r.between (omega (arith, i.least, i.less)) in
      let s = strip_small i b.end.right in
      column-along g x y (omega (arith, lawful.x-most, lawful.w-most)) (omega (arith, lawful.y-most, lawful.h-most))

  has_touches : (k : ℕ) → p ≤ k → k < e → 0 < column_touches w h c n (k + origin - f.x)
  unfolding column_touches
  has_touches k h₁ h₂ =
      let t = r.each k h₁ h₂ in
      let b = r.between (omega arith) in
      let test = (touched_view w h c (line n) z t.x t.y).1 t.covered in
      let i = within t.x t.y test in
      let s = strip_small i b.end.right in
      let at = at-column (k + origin - f.x) (column-is t.x t.y i) (omega (arith, t.along-is, b.first)) in
      sum-some h t.y _ (omega (arith, lawful.y-most)) (sum-some w t.x _ (omega (arith, lawful.x-most)) (rw (test, at) (omega arith)))

  no_touches : (k : ℕ) → (p < e → e + origin ≤ k + f.x) → column_touches w h c n k ≡ 0
  unfolding column_touches
  no_touches k past = sum_zero h _ (λ y _. sum_zero w _ (λ x _. none x y (touched c (line n) x y) (is_column k (column_of n (pos x) (pos y))) refl refl))
    where
      none : (x y : ℕ) (t u : Bool) → touched c (line n) x y ≡ t → is_column k (column_of n (pos x) (pos y)) ≡ u → ◌≡◌ {A = ℕ} (cond (t && u) 1 0) 0
      none x y true true e₁ e₂ = let i = within x y e₁ in absurd (omega (arith, i.least, i.less, column-at k (column-is x y i) e₂, past (omega (arith, i.least, i.less))))
      none x y true false e₁ e₂ = refl
      none x y false u e₁ e₂ = refl

  pub none_last : e ≤ p → None ≡ last_column w h c n
  unfolding last_column
  none_last none = sym (last_none (column_touches w h c n) _ (λ k _. no_touches k (λ z. absurd (omega arith))))

  pub is_last : p < e → Some (e + (origin - 1) - f.x) ≡ last_column w h c n
  unfolding last_column
  is_last some =
      let b = r.between some in
      let same : e - 1 + origin - f.x ≡ e + (origin - 1) - f.x = omega arith in
      sym
      (last_some (column_touches w h c n) _ (e + (origin - 1) - f.x) (omega (arith, b.first, b.end.last, g.l_is)) (rw same at (has_touches (e - 1) (omega arith) (omega arith)))
      (λ k h₁ _. no_touches k (λ _. omega arith)))

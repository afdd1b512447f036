-- Bounds of what a walk works with: the rows of a column, the layout of a page, the rows of its clip, the columns of a line.
use mathlib.Core.Bool.{Bool, true, false, cond}
use Prim.Native.Nat.{ℕ, zero, suc, ◌*◌, ◌^◌, ◌≤◌, ◌<◌}
use native.Mathlib.Nat.{mul-le-mul}
use native.Mathlib.Omega.{arith}
use Rattle.numbers.specs.inner.Offset.{offset_most}
use Rattle.bands.specs.Line.{exact_whole, approx_whole}
use Rattle.bands.specs.inner.Frame.{row_origin, Framed}
use Rattle.shapes.specs.declared.Line.{Line}
use Rattle.bands.specs.inner.Rows.{whole_of}
use Rattle.bands.specs.declared.Frame.{Frame}
use Rattle.bands.specs.declared.Rows.{Rows}
use Rattle.numbers.proofs.Order.{cond_le}
use Rattle.bands.proofs.Closed.{whole-some}
use Rattle.bands.proofs.Column.{Filled}
use Rattle.blending.specs.inner.Quotient.{Coverage}
use Rattle.page.specs.inner.Paint.{Lawful}
use Rattle.page.specs.declared.View.{View}
use Rattle.columns.specs.inner.Layout.{along_end, Between, edge_by, Laid}
use Rattle.columns.specs.inner.Columns.{RowsFit, PartFits}
use Rattle.columns.specs.declared.layout.Layout.{Layout}

-- ---- the rows of a column are coverages

whole-most : (t : Bool) (l s : ℕ) → l ≤ offset_most → s ≤ l → whole_of t l s ≤ 2 ^ 30
unfolding exact_whole approx_whole
whole-most true l zero h k = omega arith
whole-most true l (suc s) h k = omega (arith, mul-le-mul {n₁ = l} {m₁ = suc s} {n₂ = offset_most} {m₂ = offset_most} h (omega arith))
whole-most false l s h k = omega arith

pub whole-fits : (t : Bool) (l s : ℕ) → 0 < l → s ≤ l → l ≤ offset_most → (0 < whole_of t l s) × (whole_of t l s ≤ 2 ^ 30)
whole-fits t l s p h k = (whole-some t l s p, whole-most t l s k h)

pub record Covers (c : Rows) (d : ℕ) : Type 0 where
  pub upper : Coverage c.upper d
  pub middle : Coverage c.middle d
  pub lower : Coverage c.lower d

pub rows_cover : {t d : ℕ} {c : Rows} → Filled t d c → (0 < d) × (d ≤ 2 ^ 30) → Covers c d
rows_cover {t} {d} {c} e w = record { upper = cover c.upper (omega (arith, e.sum)); middle = cover c.middle (omega (arith, e.sum)); lower = cover c.lower (omega (arith, e.sum)) }
  where
    cover : (n : ℕ) → n ≤ d → Coverage n d
    cover n h = record { some = w.0; part = h; most = w.1 }

-- ---- the layout is small
pub layout_le : (c : View) (f : Frame) (lay : Layout) (size : ℕ) → Lawful c size → Laid c f lay → (lay.along ≤ 1024) × (lay.across ≤ 1024)
layout_le c f lay size w d =
    (rw d.along-is (cond_le f.steep w.w-most (omega arith)), rw d.across-is (cond_le f.steep (omega arith) w.w-most))

pub along-most : (c : View) (f : Frame) (size p : ℕ) → Lawful c size → p ≤ along_end c f → p ≤ 1024
along-most c f size p w h =
    let end : along_end c f ≤ 1024 = cond_le f.steep (omega (arith, w.y-most, w.h-most)) (omega (arith, w.x-most, w.w-most)) in
    omega arith

-- ---- the clip's rows are few, and the row origin is far above them
pub rows_fit : (c : View) (f : Frame) (lay : Layout) (size : ℕ) → Lawful c size → Laid c f lay → f.y ≤ offset_most → RowsFit lay
rows_fit c f lay size w d hy = let o = go f.falls f.steep in record { low = rw d.low-is o.0; high = rw d.high_is o.1 }
  where
    go : (t u : Bool) → (edge_by t f.y (cond u c.x1 c.y1) (cond u c.x0 c.y0) < 2 * row_origin)
        × (edge_by t f.y (cond u c.x0 c.y0) (cond u c.x1 c.y1) ≤ 2 * row_origin)
    go true u = (omega arith, omega arith)
    go false true = (omega (arith, w.x-order, w.x-most, w.w-most), omega (arith, w.x-most, w.w-most))
    go false false = (omega (arith, w.y-order, w.y-most, w.h-most), omega (arith, w.y-most, w.h-most))

-- ---- columns that the clip and the line have
pub part-fits : {c : View} {n : Line} {f : Frame} {p e : ℕ} → Framed n f → Between c f p e → PartFits f p e
part-fits f b =
    record { first = b.first; order = omega (arith, b.some); last = b.end.last; long = f.long; short = f.short; right = f.right }

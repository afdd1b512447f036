-- The frame of a line by the offsets of its ends, and a pixel's column and row in it.
use mathlib.Core.Path.{◌≡◌, refl, sym, ◌∙◌, ap, subst}
use mathlib.Core.Bool.{Bool, true, false, not, cond}
use mathlib.Core.Logic.{⊎_elim}
use Prim.Native.Nat.{ℕ, ◌+◌, ◌-◌, ◌≤◌, ◌<◌}
use native.Mathlib.Omega.{arith}
use borrow.Author.Tests.{lt-ltb, le-ltb, le-leb, lt-leb}
use lib.Dec.{ltb, leb}
use lib.IntN.{ℤ}
use lib.Signed.{le_z}
use Rattle.numbers.specs.inner.Order.{dist}
use Rattle.numbers.specs.inner.Offset.{offset_most, offset_of}
use Rattle.numbers.proofs.Order.{lt_or_le}
use Rattle.numbers.proofs.Integer.{Diff, diff_pos, diff_neg, diff_minus, diff_shift}
use Rattle.numbers.proofs.Coordinate.{InRange, in_range_lem, offset_diff, le_offset}
use Rattle.shapes.specs.declared.Line.{Line}
use Rattle.shapes.specs.declared.Ends.{Ends as OffsetEnds}
use Rattle.shapes.specs.inner.Offsets.{ends_of}
use Rattle.limits.proofs.Limits.{LawfulLine}
use Rattle.limits.proofs.Span.{span_x_lem, span_y_lem, some_span, span_le}
use Rattle.shapes.specs.Span.{longer, shorter, steep}
use Rattle.bands.specs.Frame.{Ends, exchanged, rising, framed, falls, mirrored, column_of, straight_row, frame_row}
use Rattle.bands.specs.inner.Frame.{exchanged_by, in_order, Rising, Framed}
use Rattle.bands.specs.declared.Frame.{Frame}

-- a test that is turned round
below : (a b : ℕ) → ltb b a ≡ not (leb a b)
below a b = ⊎_elim (λ h. rw (lt-ltb b a h, lt-leb a b h)) (λ h. rw (le-ltb b a h, le-leb a b h)) (lt_or_le b a)

either : (t : Bool) (P : ℤ → Type 0) {a b : ℤ} → P a → P b → P (cond t a b)
either true P p q = p
either false P p q = q

cond_offset : (t : Bool) (a b : ℤ) → offset_of (cond t a b) ≡ cond t (offset_of a) (offset_of b)
cond_offset true a b = refl
cond_offset false a b = refl

-- ---- the ends of the frame

-- ends whose coordinates are in range
record EndsIn (e : Ends) : Type 0 where
  x0_in : InRange e.x0
  y0_in : InRange e.y0
  x1_in : InRange e.x1
  y1_in : InRange e.y1

abbrev offsets : Ends → OffsetEnds
offsets e = record { x0 = offset_of e.x0; y0 = offset_of e.y0; x1 = offset_of e.x1; y1 = offset_of e.y1 }

rising_in : {e : Ends} → EndsIn e → EndsIn (rising e)
unfolding rising
rising_in {e} i = by (le_z e.x0 e.x1)
  where
    by : (t : Bool) → EndsIn (cond t e (record { x0 = e.x1; y0 = e.y1; x1 = e.x0; y1 = e.y0 }))
    by true = i
    by false = record { x0_in = i.x1_in; y0_in = i.y1_in; x1_in = i.x0_in; y1_in = i.y0_in }

-- in range, coordinates are in the order of their offsets
rising_offsets : {e : Ends} → EndsIn e → offsets (rising e) ≡ in_order (offsets e)
unfolding rising
rising_offsets {e} i = rw (le_offset i.x0_in i.x1_in) (by (leb (offset_of e.x0) (offset_of e.x1)))
  where
    by : (t : Bool) → offsets (cond t e (record { x0 = e.x1; y0 = e.y1; x1 = e.x0; y1 = e.y0 }))
        ≡ cond t (offsets e) (offsets (record { x0 = e.x1; y0 = e.y1; x1 = e.x0; y1 = e.y0 }))
    by true = refl
    by false = refl

-- the order keeps both spans
record InOrder (e o : OffsetEnds) : Type 0 where
  order : o.x0 ≤ o.x1
  span_x_lem : dist e.x0 e.x1 ≡ o.x1 - o.x0
  span_y_lem : dist e.y0 e.y1 ≡ dist o.y0 o.y1

in_order_lem : (e : OffsetEnds) → InOrder e (in_order e)
in_order_lem e =
    ⊎_elim (λ h. rw (lt-leb e.x0 e.x1 h) (record { order = omega arith; span_x_lem = omega arith; span_y_lem = omega arith }))
    (λ h. rw (le-leb e.x0 e.x1 h) (record { order = h; span_x_lem = omega arith; span_y_lem = refl }))
    (lt_or_le e.x1 e.x0)

pub order-rises : (e : OffsetEnds) → (in_order e).x0 ≤ (in_order e).x1
order-rises e = (in_order_lem e).order

module _ (n : Line) (w : LawfulLine n) where
  abbrev across : ℕ
  across = dist (offset_of n.x0) (offset_of n.x1)

  abbrev along : ℕ
  along = dist (offset_of n.y0) (offset_of n.y1)

  -- exchanged where y is the longer, x spans the longer
  abbrev ends : OffsetEnds
  ends = exchanged_by (ltb across along) (ends_of n)

  steep-is : steep n ≡ ltb across along
  unfolding steep
  steep-is = rw (span_x_lem n w, span_y_lem n w)

  exchanged_spans : (longer n ≡ dist ends.x0 ends.x1) × (shorter n ≡ dist ends.y0 ends.y1)
  unfolding longer shorter
  exchanged_spans =
      ⊎_elim (λ h. rw (lt-ltb across along h) (omega (arith, span_x_lem n w, span_y_lem n w), omega (arith, span_x_lem n w, span_y_lem n w)))
      (λ h. rw (le-ltb across along h) (omega (arith, span_x_lem n w, span_y_lem n w), omega (arith, span_x_lem n w, span_y_lem n w)))
      (lt_or_le across along)

  abbrev flat : Ends
  flat = record { x0 = n.x0; y0 = n.y0; x1 = n.x1; y1 = n.y1 }

  abbrev turned : Ends
  turned = record { x0 = n.y0; y0 = n.x0; x1 = n.y1; y1 = n.x1 }

  exchanged-is : (offsets (exchanged n) ≡ ends) × EndsIn (exchanged n)
  unfolding exchanged
  exchanged-is = rw steep-is (by (ltb across along))
    where
      by : (t : Bool) → (offsets (cond t turned flat) ≡ exchanged_by t (ends_of n)) × EndsIn (cond t turned flat)
      by true = (refl, record { x0_in = w.y0_in; y0_in = w.x0_in; x1_in = w.y1_in; y1_in = w.x1_in })
      by false = (refl, record { x0_in = w.x0_in; y0_in = w.y0_in; x1_in = w.x1_in; y1_in = w.y1_in })

  framed_in : EndsIn (framed n)
  unfolding framed
  framed_in = rising_in exchanged-is.1

  framed_is : offsets (framed n) ≡ in_order ends
  unfolding framed
  framed_is = rising_offsets exchanged-is.1 ∙ ap in_order exchanged-is.0

  -- so the code's frame is the line's
  pub frame_is : {f : Frame} → Rising (ltb across along) (in_order ends) f → Framed n f
  unfolding falls
  frame_is {f} h =
      let o = in_order_lem ends in
      let i = framed_in in
      let k : Rising (ltb across along) (offsets (framed n)) f = subst (λ (e : OffsetEnds). Rising (ltb across along) e f) (sym framed_is) h in
      let l : f.l ≡ longer n = h.l_is ∙ sym o.span_x_lem ∙ sym exchanged_spans.0 in
      let s : f.s ≡ shorter n = h.s_is ∙ sym o.span_y_lem ∙ sym exchanged_spans.1 in
      let right = subst (λ (e : OffsetEnds). e.x1 < offset_most + 1) framed_is i.x1_in.less in
      record {
        l_is = l;
        s_is = s;
        steep-is = h.steep-is ∙ sym steep-is;
        falls-is = k.falls-is ∙ below (offset_of (framed n).y0) (offset_of (framed n).y1) ∙ ap not (sym (le_offset i.y0_in i.y1_in));
        x-is = k.x-is;
        y-is = k.y-is;
        x_in = i.x0_in.test;
        y_in = i.y0_in.test;
        long = rw l (some_span n w);
        short = rw (l, s) (span_le n);
        right = omega (arith, right, h.l_is, h.x-is, o.order);
        high = omega (arith, k.y-is, i.y0_in.less);
      }

-- ---- a pixel in range
module _ {n : Line} {f : Frame} (g : Framed n f) {x y : ℤ} (px : InRange x) (py : InRange y) where
  first-x : InRange (framed n).x0
  first-x = in_range_lem (framed n).x0 g.x_in

  first-y : InRange (framed n).y0
  first-y = in_range_lem (framed n).y0 g.y_in

  along_in : InRange (cond (steep n) y x)
  along_in = either (steep n) (λ (z : ℤ). InRange z) py px

  across_in : InRange (cond (steep n) x y)
  across_in = either (steep n) (λ (z : ℤ). InRange z) px py

  -- its column is the offset along the longer span less that of the first end
  pub column_diff : Diff (column_of n x y) (cond f.steep (offset_of y) (offset_of x)) f.x
  unfolding column_of
  column_diff = rw (g.steep-is, g.x-is) (subst (λ (k : ℕ). Diff (column_of n x y) k (offset_of (framed n).x0)) (cond_offset (steep n) y x) (offset_diff along_in first-x))

  straight_diff : Diff (straight_row n x y) (cond f.steep (offset_of x) (offset_of y)) f.y
  unfolding straight_row
  straight_diff = rw (g.steep-is, g.y-is) (subst (λ (k : ℕ). Diff (straight_row n x y) k (offset_of (framed n).y0)) (cond_offset (steep n) x y) (offset_diff across_in first-y))

  -- and so its row, mirrored where the line falls
  pub row-rising : f.falls ≡ false → Diff (frame_row n x y) (cond f.steep (offset_of x) (offset_of y)) f.y
  unfolding frame_row
  row-rising e = rw (sym g.falls-is ∙ e) straight_diff

  pub row_falling : f.falls ≡ true → Diff (frame_row n x y) f.y (cond f.steep (offset_of x) (offset_of y) + 1)
  unfolding frame_row mirrored
  row_falling e =
      rw (sym g.falls-is ∙ e)
      (diff_shift f.y (cond f.steep (offset_of x) (offset_of y) + 1) (diff_minus (diff_neg straight_diff) (diff_pos 1)) (omega arith))

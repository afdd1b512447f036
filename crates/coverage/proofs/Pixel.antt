-- The coverage of a pixel by a line, from the frame and the rows of its column.
use mathlib.Core.Path.{◌≡◌, refl, sym, ◌∙◌, ap}
use mathlib.Core.Bool.{Bool, true, false, cond}
use Prim.Native.Nat.{ℕ, ◌+◌, ◌-◌, ◌≤◌, ◌<◌}
use native.Mathlib.Omega.{arith}
use borrow.Author.Tests.{lt-ltb, le-ltb}
use lib.IntN.{ℤ, pos, nat_abs, sub_ℕ, ◌-ℤ◌}
use Rattle.numbers.specs.inner.Offset.{offset_most, offset_of}
use Rattle.numbers.proofs.Order.{cond_le}
use Rattle.numbers.proofs.Integer.{Diff, above, below, diff_sub, diff_pos, diff_minus, diff_shift, diff_unique}
use Rattle.numbers.proofs.Coordinate.{InRange, in_range_lem}
use Rattle.shapes.specs.declared.Line.{Line}
use Rattle.bands.specs.Line.{row_of, rest_of}
use Rattle.bands.specs.inner.Rows.{rule_of, whole_of, rows_of, at_row}
use Rattle.shapes.specs.Span.{longer, shorter}
use Rattle.bands.specs.Frame.{column_of, frame_row}
use Rattle.bands.specs.inner.Frame.{row_origin, row_by, row_at, Framed}
use Rattle.coverage.specs.Coverage.{in_columns, line_cover, line_rules, rules_of, drawn_n, drawn_d}
use Rattle.shapes.specs.declared.Shape.TheVariants.{Line as line}
use Rattle.bands.specs.declared.Frame.{Frame}
use Rattle.std.proofs.Common.{◌⊎◌, is_le, is_lt, nat_cmp, inl, inr}
use Rattle.std.proofs.lemmas.Bool.Decides.{nat_tests}
use mir.Syntax.{w16}
use mir.Val.{SFits, to_z, of_z}
use Rattle.numbers.specs.Coordinate.{in_range}
use Rattle.shapes.specs.declared.Point.{Point}
use Rattle.shapes.specs.inner.Offsets.{point_of}
use Rattle.limits.proofs.Limits.{point_kept}
use Rattle.bands.proofs.Column.{part-is}
use Rattle.bands.proofs.Framing.{column_diff, row-rising, row_falling}

-- ---- columns
in_columns_lem : (l : ℕ) (rule : ℕ → ℤ) {z : ℤ} {a b : ℕ} → Diff z a b → b ≤ a → a < b + l → in_columns l rule z ≡ rule (a - b)
unfolding in_columns
in_columns_lem l rule (above {n = n} {a = a} {b = b} p) h k = let e : n ≡ a - b = omega arith in rw (lt-ltb n l (omega arith)) (ap rule e)
in_columns_lem l rule (below p) h k = absurd (omega arith)

pub out_left : (l : ℕ) (rule : ℕ → ℤ) {z : ℤ} {a b : ℕ} → Diff z a b → a < b → in_columns l rule z ≡ pos 0
unfolding in_columns
out_left l rule (above p) h = absurd (omega arith)
out_left l rule (below p) h = refl

pub out_right : (l : ℕ) (rule : ℕ → ℤ) {z : ℤ} {a b : ℕ} → Diff z a b → b + l ≤ a → in_columns l rule z ≡ pos 0
unfolding in_columns
out_right l rule (above {n = n} p) h = rw (le-ltb n l (omega arith))
out_right l rule (below p) h = absurd (omega arith)

-- ---- a pixel in range, given by its offsets along and across the longer span
module _ {n : Line} {f : Frame} (g : Framed n f) where
  pub whole-drawn : whole_of n.exact f.l f.s ≡ drawn_d (line n)
  unfolding rules_of line_rules
  whole-drawn = rw (g.l_is, g.s_is) (by n.exact)
    where
      by : (t : Bool) → whole_of t (longer n) (shorter n) ≡ (line_rules t n).drawn.whole
      by true = refl
      by false = refl

  module _ {x y : ℤ} (px : InRange x) (py : InRange y) where
    abbrev along : ℕ
    along = cond f.steep (offset_of y) (offset_of x)

    abbrev across : ℕ
    across = cond f.steep (offset_of x) (offset_of y)

    pub across_le : across ≤ offset_most
    across_le = cond_le f.steep (omega (arith, px.less)) (omega (arith, py.less))

    -- the rule that the line is drawn with, in column i
    abbrev ruled : ℕ → ℤ
    ruled i = rule_of n.exact (longer n) (shorter n) i (frame_row n x y)

    drawn : nat_abs (in_columns (longer n) ruled (column_of n x y)) ≡ drawn_n (line n) x y
    unfolding rules_of line_rules line_cover
    drawn = by n.exact
      where
        by : (t : Bool) → line_cover (rule_of t) n x y ≡ (line_rules t n).drawn.part x y
        by true = refl
        by false = refl

    pub drawn-left : along < f.x → 0 ≡ drawn_n (line n) x y
    drawn-left h = sym (ap nat_abs (out_left (longer n) ruled (column_diff g px py) h)) ∙ drawn

    pub drawn-right : f.x + f.l ≤ along → 0 ≡ drawn_n (line n) x y
    drawn-right h = sym (ap nat_abs (out_right (longer n) ruled (column_diff g px py) (omega (arith, g.l_is)))) ∙ drawn

    row_diff : Diff (frame_row n x y) (row_at f across) row_origin
    row_diff = go f.falls refl
      where
        go : (t : Bool) → f.falls ≡ t → Diff (frame_row n x y) (row_by t f.y across) row_origin
        go true e = diff_shift (row_by true f.y across) row_origin (row_falling g px py e) (omega (arith, across_le))
        go false e = diff_shift (row_by false f.y across) row_origin (row-rising g px py e) (omega (arith, g.high))

    -- in its columns a line has what the closed rows have
    pub drawn-inside : f.x ≤ along → along < f.x + f.l
        → at_row (rows_of n.exact f.l f.s (rest_of f.l f.s (along - f.x))) (sub_ℕ (row_at f across) (row_origin + row_of f.l f.s (along - f.x))) ≡ drawn_n (line n) x y
    drawn-inside h k =
        let i : ℕ = along - f.x in
        let q : ℕ = row_of f.l f.s i in
        let e : sub_ℕ (row_at f across) (row_origin + q) ≡ frame_row n x y -ℤ pos q = diff_unique (diff_sub (row_at f across) (row_origin + q)) (diff_minus row_diff (diff_pos q)) (omega arith) in
        ap (at_row (rows_of n.exact f.l f.s (rest_of f.l f.s i))) e
        ∙ sym (part-is n.exact f.l f.s i (frame_row n x y) g.long g.short)
        ∙ rw (g.l_is, g.s_is) refl
        ∙ sym (ap nat_abs (in_columns_lem (longer n) ruled (column_diff g px py) h (omega (arith, g.l_is))))
        ∙ drawn

-- ---- a pixel as the code holds it
pub record Seen (x y : ℤ) (f : Frame) (a : Point) : Type 0 where
  pub x_in : InRange x
  pub y_in : InRange y
  pub along : a.x ≡ cond f.steep (offset_of y) (offset_of x)
  pub across : a.y ≡ cond f.steep (offset_of x) (offset_of y)

pub seen : {n : Line} {f : Frame} {x y : ℤ} {p a : Point} → Framed n f → SFits w16 x → SFits w16 y → in_range x ≡ true → in_range y ≡ true
    → p ≡ point_of (to_z w16 (of_z w16 x)) (to_z w16 (of_z w16 y)) → (a.x ≡ cond f.steep p.y p.x) × (a.y ≡ cond f.steep p.x p.y) → Seen x y f a
seen g fx fy hx hy e t =
    let k = rw (point_kept fx fy e) at t in
    record { x_in = in_range_lem _ hx; y_in = in_range_lem _ hy; along = k.0; across = k.1 }

module _ {n : Line} {f : Frame} {x y : ℤ} {a : Point} (g : Framed n f) (s : Seen x y f a) where
  pub row_near : a.y ≤ offset_most
  row_near = rw s.across (across_le g s.x_in s.y_in)

  pub seen-outside : (is_le (nat_cmp f.x a.x) ≡ false) ⊎ (is_lt (nat_cmp a.x (f.x + f.l)) ≡ false) → 0 ≡ drawn_n (line n) x y
  seen-outside (inl h) = let k : a.x < f.x = grind (arith, nat_tests) in drawn-left g s.x_in s.y_in (rw s.along at k)
  seen-outside (inr h) = let k : f.x + f.l ≤ a.x = grind (arith, nat_tests) in drawn-right g s.x_in s.y_in (rw s.along at k)

  pub seen-inside : (is_le (nat_cmp f.x a.x) ≡ true) × (is_lt (nat_cmp a.x (f.x + f.l)) ≡ true) → (f.x ≤ a.x) × (a.x < f.x + f.l)
  seen-inside h = (grind (arith, nat_tests), grind (arith, nat_tests))

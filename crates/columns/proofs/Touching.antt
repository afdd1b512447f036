-- The columns of a line that touch a pixel under a clip: those of which the clip has a touched row.
use mathlib.Core.Bool.{true}
use mathlib.Core.Path.{◌≡◌, sym, ap, ◌∙◌}
use mathlib.Core.Logic.{◌⊎◌, inl, inr, ⊎_elim}
use Prim.Native.Nat.{ℕ, ◌+◌, ◌-◌, ◌*◌, ◌/◌, ◌≤◌, ◌<◌}
use native.Mathlib.Nat.{mul-le-mul, mul-le-mul_left, div-mul-le_self, lt-mul-div-succ, lt_of_mul-lt-mul_left}
use native.Mathlib.Omega.{arith}
use lib.IntN.{sub_ℕ}
use lib.Dec.{ltb}
use borrow.Author.Tests.{le-leb, lt-ltb, ltb-true}
use Rattle.numbers.specs.inner.Offset.{origin}
use Rattle.numbers.proofs.Order.{lt_or_le, both_true}
use Rattle.shapes.specs.declared.Line.{Line}
use Rattle.shapes.specs.declared.Shape.TheVariants.{Line as line}
use Rattle.bands.specs.Line.{row_of, rest_of}
use Rattle.bands.specs.inner.Rows.{rows_of, at_row}
use Rattle.coverage.specs.inner.OnPage.{shape_on}
use Rattle.bands.specs.inner.Frame.{Framed, row_origin}
use Rattle.bands.specs.declared.Frame.{Frame}
use Rattle.bands.proofs.Touched.{row-touched, row_untouched}
use Rattle.page.specs.inner.Paint.{Lawful}
use Rattle.page.specs.declared.View.{View}
use Rattle.columns.specs.inner.Layout.{along_of, along_from, along_end, row_on, Laid, shown}
use Rattle.columns.specs.inner.Columns.{Touching, Columns, Common, has_rows, Meets, Misses, TouchedPart, edge_over}
use Rattle.columns.specs.declared.layout.Layout.{Layout}
use Rattle.columns.proofs.Strip.{InStrip, in_view_lem, view_none, strip-none, strip_small, strip-whole, line_left, line_right, line_inside}
use Rattle.columns.proofs.RowPixel.{Pixel, pixel, row_kept}

-- a row of the clip that a band with its upper edge u high, s above that at the right side, touches
record Row (l s low high u : ℕ) : Type 0 where
  row : ℕ
  least : low ≤ row
  less : row < high
  above : 2 * l * row < u + 2 * s
  below : u < 2 * l * (row + 2)

-- the lowest, or else the one below the edge
some-row : (l s low high u : ℕ) → 0 < l → low < high → 2 * l * low < u + 2 * s → u < 2 * l * (high + 1) → Row l s low high u
some-row l s low high u long some enter leave = go (lt_or_le u (2 * l * (low + 2)))
  where
    go : (u < 2 * l * (low + 2)) ⊎ (2 * l * (low + 2) ≤ u) → Row l s low high u
    go (inl h) = record { row = low; least = omega arith; less = some; above = enter; below = h }
    go (inr h) =
        let q : ℕ = u / (2 * l) in
        let at_most = div-mul-le_self u (2 * l) in
        let past = lt-mul-div-succ u {b = 2 * l} (omega arith) in
        let least : low + 2 < q + 1 = lt_of_mul-lt-mul_left (2 * l) (omega arith) in
        let most : q < high + 1 = lt_of_mul-lt-mul_left (2 * l) (omega arith) in
        let e : q ≡ q - 1 + 1 = omega arith in
        let split : 2 * l * q ≡ 2 * l * (q - 1) + 2 * l = ap (λ (k : ℕ). 2 * l * k) e ∙ omega arith in
        record { row = q - 1; least = omega arith; less = omega arith; above = omega arith; below = omega arith }

-- ---- a clip that has rows −1 to s
module _ (lay : Layout) (f : Frame) where
  has_rows_lem : has_rows lay f ≡ true → (lay.low < row_origin) × (row_origin + f.s < lay.high)
  has_rows_lem t =
      let both = both_true (ltb lay.low row_origin) (ltb (row_origin + f.s) lay.high) t in
      (ltb-true lay.low row_origin both.0, ltb-true (row_origin + f.s) lay.high both.1)

  meets_all : (p : ℕ) → 0 < f.l → f.x ≤ p + origin → p + origin < f.x + f.l → has_rows lay f ≡ true → Meets f lay p
  meets_all p long first last t =
      let rows = has_rows_lem t in (
        omega (arith, mul-le-mul_left (2 * f.l) rows.0),
        omega (arith, mul-le-mul_left (2 * f.l) rows.1, mul-le-mul {n₁ = f.s} {m₁ = p + origin - f.x} {n₂ = f.s} {m₂ = f.l} (omega arith) (omega arith)),
      )

-- ---- a line on a page
module _ (c : View) (n : Line) (f : Frame) (size : ℕ) (w : Lawful c size) (g : Framed n f) where
  -- a pixel under the clip is left or right of the line, or in one of the columns that both have
  in_common : {p e x y : ℕ} → Common c f p e → InStrip c f (along_from c f) (along_end c f) x y
      → (p ≤ along_of f x y → along_of f x y < e → f.x ≤ along_of f x y + origin → along_of f x y + origin < f.x + f.l → shape_on (line n) x y ≡ 0)
      → shape_on (line n) x y ≡ 0
  in_common {x = x} {y = y} common i inside =
      let s = strip_small i (omega arith) in
      go (omega (arith, w.x-most, w.w-most)) (omega (arith, w.y-most, w.h-most)) (lt_or_le (along_of f x y + origin) f.x)
      (lt_or_le (along_of f x y + origin) (f.x + f.l))
    where
      go : x ≤ 4095 → y ≤ 4095 → (along_of f x y + origin < f.x) ⊎ (f.x ≤ along_of f x y + origin)
          → (along_of f x y + origin < f.x + f.l) ⊎ (f.x + f.l ≤ along_of f x y + origin)
          → shape_on (line n) x y ≡ 0
      go hx hy (inl h) k = line_left g x y hx hy h
      go hx hy (inr h) (inr k) = line_right g x y hx hy k
      go hx hy (inr h) (inl k) = let u = common.all (along_of f x y) i.least i.less h k in inside u.0 u.1 h k

  none : {a b : ℕ} → b ≤ a → ((x y : ℕ) → InStrip c f (along_from c f) (along_end c f) x y → shape_on (line n) x y ≡ 0) → Columns c n f a b
  none {a} {b} h zero =
      record {
        between = λ k. absurd (omega arith);
        whole = λ x y. strip-none c f (shape_on (line n)) a b h x y ∙ sym (view_none c f (shape_on (line n)) zero x y);
        each = λ k h₁ h₂. absurd (omega arith);
      }

  -- no column is touched where the clip and the line have none in common
  pub none_common : {p e : ℕ} → Common c f p e → e ≤ p → Columns c n f p e
  none_common common h = none h (λ x y i. in_common common i (λ h₁ h₂ _ _. absurd (omega arith)))

  module _ (lay : Layout) (d : Laid c f lay) where
    -- nor where the clip has no row
    pub none-shown : {a b : ℕ} → lay.high ≤ lay.low → b ≤ a → Columns c n f a b
    none-shown h k = none k (λ x y i. absurd (let r = row_kept c f lay size w d g.high i in omega (arith, r.0, r.1)))

    -- a pixel under the clip in the line's columns has what the closed rows have
    value : {p e x y : ℕ} → InStrip c f p e x y → e ≤ along_end c f → f.x ≤ along_of f x y + origin → along_of f x y + origin < f.x + f.l
        → let i = along_of f x y + origin - f.x in
        shape_on (line n) x y ≡ at_row (rows_of n.exact f.l f.s (rest_of f.l f.s i)) (sub_ℕ (row_on f x y) (row_origin + row_of f.l f.s i))
    value {x = x} {y = y} i end first last =
        let s = strip_small i end in
        line_inside g x y (omega (arith, w.x-most, w.w-most)) (omega (arith, w.y-most, w.h-most)) first last

    touching : lay.low < lay.high → (p : ℕ) → along_from c f ≤ p → p < along_end c f → f.x ≤ p + origin → p + origin < f.x + f.l → Meets f lay p → Touching c n f p
    touching some p left right first last m =
        let r = some-row f.l f.s lay.low lay.high (edge_over f p) g.long some m.0 m.1 in
        let shows : shown lay r.row ≡ true = rw (le-leb lay.low r.row r.least, lt-ltb r.row lay.high r.less) in
        at r (pixel c f lay size w d g.high p r.row left right shows)
      where
        at : {x y : ℕ} (r : Row f.l f.s lay.low lay.high (edge_over f p)) → Pixel c f lay p r.row x y → Touching c n f p
        at {x} {y} r q =
            let e = rw (q.row_is, q.along-is) at (value q.kept (omega arith) (omega (arith, q.along-is)) (omega (arith, q.along-is))) in
            record {
              x = x;
              y = y;
              along-is = q.along-is;
              covered =
                  rw (in_view_lem c f (shape_on (line n)) p (p + 1) x y left (omega arith) q.kept, e)
                  (row-touched n.exact f.l f.s (p + origin - f.x) r.row g.long g.short r.above r.below);
            }

    missed : {x y : ℕ} → InStrip c f (along_from c f) (along_end c f) x y → f.x ≤ along_of f x y + origin → along_of f x y + origin < f.x + f.l
        → Misses f lay (along_of f x y) → shape_on (line n) x y ≡ 0
    missed {x} {y} i first last m =
        let k = row_kept c f lay size w d g.high i in
        value i (omega arith) first last
        ∙ sym
        (row_untouched n.exact f.l f.s (along_of f x y + origin - f.x) (row_on f x y) g.long g.short
        (⊎_elim (λ h. inl (omega (arith, mul-le-mul_left (2 * f.l) k.0))) (λ h. inr (omega (arith, mul-le-mul_left (2 * f.l) k.1))) m))

    -- the touched columns are a part of those that the clip and the line have in common
    pub touched-columns : {p e a b : ℕ} → lay.low < lay.high → p < e → Common c f p e → TouchedPart f lay p e a b → Columns c n f a b
    touched-columns {a = a} {b = b} some order common part =
        let q = common.between order in
        let left : along_from c f ≤ a = omega (arith, q.left, part.least) in
        let right : b ≤ along_end c f = omega (arith, q.end.right, part.most) in
        let first : f.x ≤ a + origin = omega (arith, q.first, part.least) in
        let last : b + origin ≤ f.x + f.l = omega (arith, q.end.last, part.most) in
        record {
          between = λ h. record { some = h; left = left; first = first; end = record { right = right; last = last } };
          whole =
              strip-whole c f (shape_on (line n)) a b left right
              (λ x y i o. in_common common i (λ h₁ h₂ h₃ h₄. missed i h₃ h₄ (part.outside (along_of f x y) h₁ h₂ o)));
          each = λ k h₁ h₂. touching some k (omega arith) (omega arith) (omega arith) (omega arith) (part.within k h₁ h₂);
        }

    -- where the clip has every row that the line can have, they are all of those in common
    pub all-touched : {p e : ℕ} → has_rows lay f ≡ true → Common c f p e → Columns c n f p e
    all-touched {p} {e} t common = ⊎_elim some (none_common common) (lt_or_le p e)
      where
        rows : (lay.low < row_origin) × (row_origin + f.s < lay.high)
        rows = has_rows_lem lay f t

        some : p < e → Columns c n f p e
        some h =
            let q = common.between h in
            touched-columns (omega (arith, rows.0, rows.1)) h common
            (record {
              least = omega arith;
              order = omega arith;
              most = omega arith;
              within = λ k h₁ h₂. meets_all lay f k g.long (omega (arith, q.first)) (omega (arith, q.end.last)) t;
              outside = λ k h₁ h₂ o. absurd (⊎_elim (λ z. omega arith) (λ z. omega arith) o);
            })

-- Where a side stands in a row: what the code finds of it.
use mathlib.Core.Path.{◌≡◌, refl, sym, ◌∙◌, ap}
use mathlib.Core.Logic.{⊎_elim}
use Prim.Native.Nat.{ℕ, ◌+◌, ◌-◌, ◌*◌, ◌^◌, ◌/◌, ◌≤◌, ◌<◌}
use native.Mathlib.Nat.{mul-le-mul, mul-le-mul_left, mul-le-mul_right, le_of_mul-le-mul_left, div-mul-le_self, lt-div-mul-add}
use native.Mathlib.Omega.{arith}
use lib.IntN.{pos}
use Rattle.numbers.specs.inner.Inverse.{Inverse}
use Rattle.numbers.specs.inner.Order.{dist}
use Rattle.numbers.proofs.Inverse.{near_quotient_lem}
use Rattle.numbers.proofs.Order.{lt_or_le}
use Rattle.edges.specs.Edge.{by_zero, under_d}
use Rattle.edges.specs.inner.Strip.{under_at, span_most, height_most, whole_most}
use Rattle.edges.proofs.Edge.{at_full, at_none, at_back}
use Rattle.edges.proofs.Under.{whole_pos}
use Rattle.edges.proofs.Found.{whole_wide}
use Rattle.sides.specs.inner.Offsets.{at, row_n, row_d, Near}
use Rattle.sides.proofs.Found.{found-whole, found_share}
use Rattle.triangles.specs.inner.Side.{low_on, high_on, SideFit, SideIs, CutOf}
use Rattle.triangles.specs.declared.side.Side.{Side}

-- ---- columns by an inverse
module _ (p h m : ℕ) (some : 0 < h) (wide : h ≤ span_most) (most : p ≤ 2 * height_most) (i : Inverse (2 ^ 32) h m) where
  pub column_fits : p * m < 2 ^ 64
  column_fits =
      let e : m ≤ m * h = omega (arith, mul-le-mul_left m some) in
      omega (arith, mul-le-mul most e, i.most)

  pub column-is : p * m / 2 ^ 32 ≡ p / h
  column-is =
      let e : m * h - 2 ^ 32 ≤ h = omega (arith, i.most) in
      near_quotient_lem (2 ^ 32) p h m some (omega (arith, i.least)) (omega (arith, mul-le-mul most e, wide))

-- ---- a side, by how far it goes to the right and to the left
-- it stays at 0 or above, and below the greatest height
module _ (xa ya xb yb : ℕ) (n : Near xa ya xb yb) (rises : ya < yb) {h foot : ℕ} (eh : h ≡ yb - ya) (ef : foot ≡ h * xa) where
  abbrev right : ℕ
  right = xb - xa

  abbrev left : ℕ
  left = xa - xb

  pub foot_left : left ≤ foot
  foot_left =
      let a : 1 ≤ h = omega arith in
      omega (arith, mul-le-mul_right xa a)

  pub stays_in : (i : ℕ) → i < h → (i * left ≤ foot - left) × (foot - left + i * right + right + left ≤ height_most)
  stays_in i lt =
      let a : (i + 1) * left ≤ h * left = mul-le-mul_right left (omega arith) in
      let b : left ≤ xa = omega arith in
      let d : i ≤ span_most = omega (arith, n.high) in
      let e : right ≤ span_most = omega (arith, n.wide) in
      let f : h ≤ span_most = omega (arith, n.high) in
      (omega (arith, mul-le-mul_left h b), omega (arith, mul-le-mul d e, mul-le-mul f n.x_in, n.wide, foot_left))

  slope-is : right + left ≡ dist xa xb
  slope-is = omega arith

  -- what it has on its left, by where it stands
  pub share_is : (x y : ℕ) → ya ≤ y → y < yb
      → row_n (at xa ya) (at xb yb) (pos x) (pos y) ≡ under_at h (foot - left + (y - ya) * right - (y - ya) * left) (foot - left + (y - ya) * right - (y - ya) * left + right + left) x
  share_is x y p q = found_share ya xa yb xb y x i m (omega arith) (omega arith) ∙ ⊎_elim leftwards rightwards (lt_or_le xb xa)
    where
      i : ℕ
      i = y - ya

      m : ℕ
      m = yb - y - 1

      high : h ≡ i + 1 + m
      high = omega arith

      rightwards : xa ≤ xb
          → under_at (i + 1 + m) ((m + 1) * xa + i * xb) (m * xa + (i + 1) * xb) x
          ≡ under_at h (foot - left + i * right - i * left) (foot - left + i * right - i * left + right + left) x
      rightwards r =
          let z : left ≡ 0 = omega arith in
          let k : ℕ = right in
          let e : xb ≡ xa + k = omega arith in
          let low : (m + 1) * xa + i * xb ≡ foot - left + i * right - i * left = rw z (omega (arith, ef, ap (λ (n : ℕ). n * xa) high, ap (λ (n : ℕ). i * n) e)) in
          let top : m * xa + (i + 1) * xb ≡ foot - left + i * right - i * left + right + left = rw z (omega (arith, ef, ap (λ (n : ℕ). n * xa) high, ap (λ (n : ℕ). i * n) e)) in
          rw (← high, low, top)

      leftwards : xb < xa
          → under_at (i + 1 + m) ((m + 1) * xa + i * xb) (m * xa + (i + 1) * xb) x
          ≡ under_at h (foot - left + i * right - i * left) (foot - left + i * right - i * left + right + left) x
      leftwards r =
          let z : right ≡ 0 = omega arith in
          let k : ℕ = left in
          let e : xa ≡ xb + k = omega arith in
          let low : m * xa + (i + 1) * xb ≡ foot - left + i * right - i * left = rw z (omega (arith, ef, ap (λ (n : ℕ). n * xa) high, ap (λ (n : ℕ). n * h) e, ap (λ (n : ℕ). i * n) e, ap (λ (n : ℕ). m * n) e)) in
          let top : (m + 1) * xa + i * xb ≡ foot - left + i * right - i * left + right + left = rw z (omega (arith, ef, ap (λ (n : ℕ). n * xa) high, ap (λ (n : ℕ). n * h) e, ap (λ (n : ℕ). i * n) e, ap (λ (n : ℕ). m * n) e)) in
          at_back (i + 1 + m) ((m + 1) * xa + i * xb) (m * xa + (i + 1) * xb) x ∙ rw (← high, low, top)

  pub whole_is : {d : ℕ} → d ≡ by_zero h 1 (under_d h (right + left)) → (row_d (at xa ya) (at xb yb) ≡ d) × (d ≡ under_d h (right + left))
  whole_is {d} e =
      let k : dist ya yb ≡ h = omega arith in
      let s : dist xa xb ≡ right + left = omega arith in
      (rw (found-whole ya xa yb xb, k, s) (sym e), e ∙ whole_wide h (right + left) (omega arith))

-- ---- the columns that a side leaves in part: low over h, and high over h, rounded up
module _ (h low high : ℕ) (some : 0 < h) (rises : low ≤ high) where
  pub whole_before : {d : ℕ} → d ≡ under_d h (dist low high) → (z : ℕ) → z < low / h → under_at h low high z ≡ d
  whole_before e z p =
      let q : (z + 1) * h ≤ low / h * h = mul-le-mul_right h (omega arith) in
      let r = div-mul-le_self low h in
      at_full h low high z (omega arith) (omega arith) ∙ sym e

  pub none-past : (z : ℕ) → (high + h - 1) / h ≤ z → under_at h low high z ≡ 0
  none-past z p =
      let q : (high + h - 1) / h * h ≤ z * h = mul-le-mul_right h p in
      let r = lt-div-mul-add {a = high + h - 1} {b = h} some in
      at_none h low high z (omega arith) (omega arith)

  pub column-order : low / h ≤ (high + h - 1) / h
  column-order =
      let a = div-mul-le_self low h in
      let b = lt-div-mul-add {a = high + h - 1} {b = h} some in
      le_of_mul-le-mul_left {k = h} (omega arith) some

-- ---- as `Side::new` makes it
pub found_pos : {h d : ℕ} (k : ℕ) → d ≡ by_zero h 1 (under_d h k) → 0 < h → 0 < d
found_pos {h} {d} k e p = omega (arith, e ∙ whole_wide h k p, whole_pos h k p)

module _ (xa ya xb yb : ℕ) (n : Near xa ya xb yb) (rises : ya < yb) {h foot r l d i : ℕ} (eh : h ≡ yb - ya) (ef : foot ≡ h * xa) (er : r ≡ xb - xa) (el : l ≡ xa - xb) where
  pub found-fit : (d ≡ by_zero h 1 (under_d h (r + l))) × (d ≤ whole_most) → Inverse (2 ^ 32) h i
      → SideFit (record { y = ya; h = h; right = r; left = l; start = foot - l; inverse = i; d = d })
  found-fit ed ei =
      record {
        some = omega arith;
        wide = omega (arith, n.high);
        slope = omega (arith, n.wide);
        stays = λ k p. rw (er, el) (stays_in xa ya xb yb n rises eh ef k p);
        whole = ed.0 ∙ whole_wide h (r + l) (omega arith);
        whole-most = ed.1;
        inverted = ei;
      }

  pub found-is : d ≡ by_zero h 1 (under_d h (r + l)) → SideIs xa ya xb yb (record { y = ya; h = h; right = r; left = l; start = foot - l; inverse = i; d = d })
  found-is ed =
      record {
        first = refl;
        last = omega arith;
        left = λ x y p q. rw (er, el) (share_is xa ya xb yb n rises eh ef x y p q);
        over = (whole_is xa ya xb yb n rises eh ef (rw (er, el) at ed)).0;
      }

-- ---- as `cut_at` makes it
pub record Stands (s : Side) (y low high : ℕ) : Type 0 where
  pub low-is : low ≡ low_on s y
  pub high_is : high ≡ high_on s y
  pub most : high ≤ height_most

pub stands : (s : Side) (y : ℕ) {a b : ℕ} → SideFit s → s.y ≤ y → y < s.y + s.h → a ≡ (y - s.y) * s.right → b ≡ (y - s.y) * s.left
    → (b ≤ s.start + a) × (s.start + a ≤ height_most) × Stands s y (s.start + a - b) (s.start + a - b + s.right + s.left)
stands s y f p q e g =
    let r = f.stays (y - s.y) (omega arith) in
    (omega (arith, r.0), omega (arith, r.1), record { low-is = rw (e, g); high_is = rw (e, g); most = omega (arith, r.1) })

pub found_cut : (s : Side) (y : ℕ) {low high column end : ℕ} → SideFit s → Stands s y low high → column ≡ low / s.h → end ≡ (high + s.h - 1) / s.h
    → CutOf s y (record { h = s.h; low = low; high = high; column = column; end = end; d = s.d })
found_cut s y {low} {high} f t e g =
    let rise : high ≡ low + (s.right + s.left) = omega (arith, t.high_is, t.low-is) in
    let far : dist low high ≡ s.right + s.left = omega arith in
    let whole : s.d ≡ under_d s.h (dist low high) = f.whole ∙ ap (under_d s.h) (sym far) in
    record {
      fit =
          record {
            some = f.some;
            wide = f.wide;
            high-most = t.most;
            rises = omega arith;
            slope = omega (arith, f.slope);
            whole = whole;
            whole-most = f.whole-most;
            before = λ z p. whole_before s.h low high f.some (omega arith) whole z (rw e at p);
            past = λ z p. none-past s.h low high f.some (omega arith) z (rw g at p);
            order = rw (e, g) (column-order s.h low high f.some (omega arith));
          };
      left = λ x. rw (t.low-is, t.high_is);
      over = refl;
    }

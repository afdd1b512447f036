-- The closed rows are the rows of the two rules.
use mathlib.Core.Path.{◌≡◌, refl, sym, ◌∙◌, ap}
use mathlib.Core.Logic.{◌⊎◌, inl, inr, ⊎_elim}
use mathlib.Core.Bool.{Bool, true, false, cond}
use Prim.Native.Nat.{ℕ, zero, suc, ◌+◌, ◌*◌, ◌-◌, ◌≤◌, ◌<◌, max}
use native.Mathlib.Nat.{mul-pos, mul-le-mul, div-add-mod, mod-lt, div-eq_of_lt, mod-eq_of_lt}
use native.Mathlib.Omega.{arith}
use lib.Dec.{T}
use lib.IntN.{ℤ, pos, negsuc, sub_ℕ, ◌+ℤ◌, ◌-ℤ◌, +ℤ_comm, -ℤ-+ℤ_cancel, +ℤ_idr}
use lib.Signed.{le_z}
use Rattle.numbers.proofs.Order.{lt_or_le}
use Rattle.numbers.proofs.Integer.{Diff, is-above, is_below, diff_of, diff_pos, diff_sub, diff_add, diff_minus, diff_shift, diff_unique, diff_le, le_diff}
use Rattle.bands.specs.Line.{F, level_row, exact_row, exact_whole, approx_whole, row_of, rest_of, three_rows, excess, flat_rows, crossed_rows, approx_row}
use Rattle.bands.specs.inner.Rows.{rule_of, whole_of, cut_excess, rise_of, corner_of, corner_at, rows_of, at_row}
use Rattle.bands.specs.declared.Rows.{Rows}
use Rattle.bands.proofs.Slant.{row_is}
use Rattle.bands.proofs.Bounds.{square_le_rest, lowest, lower_pos, middle_pos}

-- what the rest of a column is below
pub rest_lt : (l s i : ℕ) → 0 < l → rest_of l s i < 2 * l
unfolding rest_of
rest_lt l s i p = mod-lt (l + 2 * s * i) (omega arith)

-- l + 2·s·i = 2·l·q + r
pub column-is : (l s i : ℕ) → l + 2 * s * i ≡ 2 * l * row_of l s i + rest_of l s i
unfolding row_of rest_of
column-is l s i = sym (div-add-mod (l + 2 * s * i) (2 * l))

-- no column's row is above l
pub row_le : (l s i : ℕ) → s ≤ l → i < l → row_of l s i ≤ l
row_le l s i h k = go (lt_or_le l (row_of l s i))
  where
    go : (l < row_of l s i) ⊎ (row_of l s i ≤ l) → row_of l s i ≤ l
    go (inl m) =
        absurd (omega (arith, column-is l s i, mul-le-mul {n₁ = l} {m₁ = suc l} {n₂ = l} (omega arith) m, mul-le-mul {n₁ = s} {m₁ = suc i} h k))
    go (inr m) = m

-- ---- exact, s above 0

module _ (l s i q r : ℕ) (hs : suc s ≤ l) (hr : r < 2 * l) (col : l + 2 * suc s * i ≡ 2 * l * q + r) where
  abbrev row : ℤ → ℤ
  row j = F l (suc s) i j -ℤ F l (suc s) i (j +ℤ pos 1)

  -- row q + k is k − 0 or 0 − k above row q
  at : (k : ℤ) {m d : ℕ} → Diff k m d → Diff (pos q +ℤ k) (q + m) d
  at k {m} {d} e = diff_shift (q + m) d (diff_add (diff_pos q) e) (omega arith)

  abbrev t : ℕ
  t = cut_excess l (suc s) r

  abbrev rows : Rows
  rows = rows_of true l (suc s) r

  slanted : (k : ℤ) → row (pos q +ℤ k) ≡ pos (at_row rows k)
  unfolding at_row rise_of exact_whole
  slanted (pos zero) =
      row_is l (suc s) i r 0 (r + 2 * suc s) r t 0 0 0 rows.middle (at (pos zero) (diff_pos 0)) (omega arith) (omega arith)
      (omega (arith, square_le_rest l (suc s) r hs hr, middle_pos l (suc s) r hs hr (omega arith)))
  slanted (pos (suc zero)) =
      row_is l (suc s) i r (2 * l) t 0 0 0 0 0 rows.upper (at (pos 1) (diff_pos 1)) (omega arith) (omega arith) (omega arith)
  slanted (pos (suc (suc c))) =
      row_is l (suc s) i r (2 * l * suc (suc c)) 0 0 0 0 0 0 0 (at (pos (suc (suc c))) (diff_pos (suc (suc c)))) (omega arith) (omega arith) (omega arith)
  slanted (negsuc zero) =
      row_is l (suc s) i (r + 2 * l) 0 (r + 2 * l + 2 * suc s) (r + 2 * l) (r + 2 * suc s) r t 0 rows.lower
      (at (negsuc 0) (diff_of (negsuc 0))) (omega arith) (omega arith)
      (omega (arith, lower_pos l (suc s) r hs hr (omega arith)))
  slanted (negsuc (suc c)) =
      let w : ℕ = r + 2 * l * c in
      row_is l (suc s) i (w + 4 * l) 0 (w + 4 * l + 2 * suc s) (w + 4 * l) (w + 2 * l + 2 * suc s) (w + 2 * l) (w + 2 * suc s) w 0
      (at (negsuc (suc c)) (diff_of (negsuc (suc c)))) (omega arith) (omega arith) (omega arith)

-- a row is q and the row less q
from_row : (q : ℕ) (j : ℤ) → pos q +ℤ (j -ℤ pos q) ≡ j
from_row q j = +ℤ_comm (pos q) (j -ℤ pos q) ∙ -ℤ-+ℤ_cancel j (pos q)

-- ---- exact, s = 0: q is 0 and r is l
pub level-column : (l i : ℕ) → 0 < l → (row_of l 0 i ≡ 0) × (rest_of l 0 i ≡ l)
unfolding row_of rest_of
level-column l i p = (div-eq_of_lt (omega arith), mod-eq_of_lt {n = l + 2 * 0 * i} {m = 2 * l} (omega arith) ∙ omega arith)

level : (l r : ℕ) → r < 2 * l → (j : ℤ) → level_row j ≡ pos (at_row (rows_of true l 0 r) j)
unfolding level_row at_row rise_of exact_whole
level l r h j = let z : cut_excess l 0 r ≡ 0 = omega arith in go (ap (corner_of true) z) j
  where
    go : corner_at true l 0 r ≡ 0 → (j : ℤ) → level_row j ≡ pos (at_row (rows_of true l 0 r) j)
    go z (pos zero) = ap pos (omega (arith, z))
    go z (pos (suc zero)) = ap pos (sym z)
    go z (pos (suc (suc j))) = refl
    go z (negsuc zero) = ap pos (omega (arith, z))
    go z (negsuc (suc j)) = refl

exact_closed : (l s i : ℕ) (j : ℤ) → 0 < l → s ≤ l → exact_row l s i j ≡ pos (at_row (rows_of true l s (rest_of l s i)) (j -ℤ pos (row_of l s i)))
unfolding exact_row
exact_closed l zero i j p h =
    level l (rest_of l 0 i) (rest_lt l 0 i p) j
    ∙ ap (λ (k : ℤ). pos (at_row (rows_of true l 0 (rest_of l 0 i)) k)) (sym (ap (λ (q : ℕ). j -ℤ pos q) (level-column l i p).0 ∙ +ℤ_idr j))
exact_closed l (suc s) i j p h =
    let q : ℕ = row_of l (suc s) i in
    ap (λ (z : ℤ). F l (suc s) i z -ℤ F l (suc s) i (z +ℤ pos 1)) (sym (from_row q j))
    ∙ slanted l s i q (rest_of l (suc s) i) h (rest_lt l (suc s) i p) (column-is l (suc s) i) (j -ℤ pos q)

-- ---- approximate, by the sign of t
three_is : (c : Rows) {u m w : ℤ} → u ≡ pos c.upper → m ≡ pos c.middle → w ≡ pos c.lower → (k : ℤ) → three_rows u m w k ≡ pos (at_row c k)
unfolding three_rows at_row
three_is c e f g (pos zero) = f
three_is c e f g (pos (suc zero)) = e
three_is c e f g (pos (suc (suc k))) = refl
three_is c e f g (negsuc zero) = g
three_is c e f g (negsuc (suc k)) = refl

module _ (l s r : ℕ) (hs : s ≤ l) (hr : r < 2 * l) where
  excess_diff : Diff (excess l s r) (r + 2 * s) (2 * l)
  unfolding excess
  excess_diff = diff_shift (r + 2 * s) (2 * l) (diff_minus (diff_pos (r + 2 * s)) (diff_pos (2 * l))) (omega arith)

  lowest_diff : Diff (pos (4 * l) -ℤ pos (2 * r) -ℤ pos (2 * s)) (4 * l) (2 * r + 2 * s)
  lowest_diff = diff_shift (4 * l) (2 * r + 2 * s) (diff_minus (diff_minus (diff_pos (4 * l)) (diff_pos (2 * r))) (diff_pos (2 * s))) (omega arith)

  abbrev approxes : Rows
  approxes = rows_of false l s r

  flat : r + 2 * s ≤ 2 * l → (k : ℤ) → flat_rows l s r k ≡ pos (at_row approxes k)
  unfolding flat_rows rise_of approx_whole
  flat h = three_is approxes (ap pos (omega arith)) (ap pos (omega arith)) (diff_unique lowest_diff (diff_pos approxes.lower) (omega arith))

  crossed : 2 * l < r + 2 * s → (k : ℤ) → crossed_rows l s r k ≡ pos (at_row approxes k)
  unfolding crossed_rows rise_of approx_whole
  crossed h =
      three_is approxes
      (diff_unique excess_diff (diff_pos (cut_excess l s r)) (omega arith))
      (diff_unique (diff_minus (diff_pos (4 * l)) (diff_pos (2 * s))) (diff_pos approxes.middle) (omega arith))
      (diff_unique (diff_add lowest_diff excess_diff) (diff_pos approxes.lower) (omega arith))

  by_excess : (k : ℤ) → cond (le_z (excess l s r) (pos 0)) (flat_rows l s r) (crossed_rows l s r) k ≡ pos (at_row approxes k)
  by_excess k = go (le_z (excess l s r) (pos 0)) (λ t. omega (arith, diff_le excess_diff (diff_pos 0) t)) (λ h. le_diff excess_diff (diff_pos 0) (omega arith))
    where
      go : (b : Bool) → (T b → r + 2 * s ≤ 2 * l) → (r + 2 * s ≤ 2 * l → T b) → cond b (flat_rows l s r) (crossed_rows l s r) k ≡ pos (at_row approxes k)
      go true f g = flat (f tt) k
      go false f g = crossed (⊎_elim (λ h. h) (λ h. absurd (g h)) (lt_or_le (2 * l) (r + 2 * s))) k

-- ---- any row, under either rule
pub closed : (exact : Bool) (l s i : ℕ) (j : ℤ) → 0 < l → s ≤ l
    → rule_of exact l s i j ≡ pos (at_row (rows_of exact l s (rest_of l s i)) (j -ℤ pos (row_of l s i)))
unfolding approx_row
closed true l s i j p h = exact_closed l s i j p h
closed false l s i j p h = by_excess l s (rest_of l s i) h (rest_lt l s i p) (j -ℤ pos (row_of l s i))

-- ---- as the code computes them
pub whole-greater : (l s : ℕ) → s ≤ l → exact_whole l s ≡ max (8 * l * s) 2
unfolding exact_whole
whole-greater l zero h = omega arith
whole-greater l (suc s) h = omega (arith, mul-le-mul {n₁ = 1} {m₁ = 1} {n₂ = l} {m₂ = suc s} (omega arith) (omega arith))

whole_slanted : (l s : ℕ) → 0 < s → exact_whole l s ≡ 8 * (l * s)
unfolding exact_whole
whole_slanted l zero h = absurd (omega arith)
whole_slanted l (suc s) h = omega arith

pub whole-some : (exact : Bool) (l s : ℕ) → 0 < l → 0 < whole_of exact l s
unfolding exact_whole approx_whole
whole-some true l zero h = omega arith
whole-some true l (suc s) h = mul-pos {m = 8 * l} {n = suc s} (omega arith) (omega arith)
whole-some false l s h = omega arith

rows_same : {a b c a' b' c' : ℕ} → a ≡ a' → b ≡ b' → c ≡ c'
    → ◌≡◌ {A = Rows} (record { upper = a; middle = b; lower = c }) (record { upper = a'; middle = b'; lower = c' })
rows_same e f g = λ i. record { upper = e i; middle = f i; lower = g i }

pub rise_level : (s r : ℕ) → s ≡ 0 → rise_of true s r ≡ 1
unfolding rise_of
rise_level zero r e = refl
rise_level (suc s) r e = absurd (omega arith)

pub rise_slanted : (s r : ℕ) → 0 < s → rise_of true s r ≡ 4 * (s * (r + s))
unfolding rise_of
rise_slanted zero r h = absurd (omega arith)
rise_slanted (suc s) r h = refl

-- the middle row is not empty: exact 2·t² ≤ 4·s·r < 4·s·(r + s), approximate t < r + s; nor is the lower one
pub middle-some : (exact : Bool) (l s r : ℕ) → s ≤ l → r < 2 * l → 0 < r + s → 2 * corner_at exact l s r < rise_of exact s r
unfolding rise_of
middle-some true l zero r h k z = let e : cut_excess l 0 r ≡ 0 = omega arith in rw e (omega arith)
middle-some true l (suc s) r h k z = middle_pos l (suc s) r h k (omega arith)
middle-some false l s r h k z = omega arith

pub lower-some : (exact : Bool) (l s r : ℕ) → s ≤ l → r < 2 * l → rise_of exact s r < whole_of exact l s + corner_at exact l s r
unfolding rise_of exact_whole approx_whole
lower-some true l zero r h k = omega arith
lower-some true l (suc s) r h k = omega (arith, lower_pos l (suc s) r h k (omega arith))
lower-some false l s r h k = omega arith

module _ (exact : Bool) (l s r : ℕ) (short : s ≤ l) (rest : r < 2 * l) where
  -- two rows where t is at most 0: there is no corner
  module _ (flat : r + 2 * s ≤ 2 * l) where
    no_corner : corner_at exact l s r ≡ 0
    no_corner = let e : cut_excess l s r ≡ 0 = omega arith in ap (corner_of exact) e ∙ none exact
      where
        none : (t : Bool) → corner_of t 0 ≡ 0
        none true = refl
        none false = refl

    pub rise_le : rise_of exact s r ≤ whole_of exact l s
    rise_le = omega (arith, no_corner, lower-some exact l s r short rest)

    pub flat_is : record { upper = 0; middle = rise_of exact s r; lower = whole_of exact l s - rise_of exact s r } ≡ rows_of exact l s r
    flat_is = rows_same (sym no_corner) (omega (arith, no_corner)) (omega (arith, no_corner))

  -- three rows, or two, where t is not negative: the lower row is a corner too
  module _ (crossed : 2 * l ≤ r + 2 * s) where
    two_corners : whole_of exact l s + corner_at exact l s r ≡ rise_of exact s r + corner_of exact (2 * l - r)
    unfolding rise_of approx_whole
    two_corners = by exact
      where
        by : (t : Bool) → whole_of t l s + corner_at t l s r ≡ rise_of t s r + corner_of t (2 * l - r)
        by true = rw (whole_slanted l s (omega arith), rise_slanted s r (omega arith)) (lowest l s r short rest crossed)
        by false = omega arith

    pub corners_le : corner_at exact l s r + corner_of exact (2 * l - r) ≤ whole_of exact l s
    corners_le = omega (arith, two_corners, middle-some exact l s r short rest (omega arith))

    pub crossed_is : record {
      upper = corner_at exact l s r;
      middle = whole_of exact l s - corner_at exact l s r - corner_of exact (2 * l - r);
      lower = corner_of exact (2 * l - r);
    } ≡ rows_of exact l s r
    crossed_is = rows_same refl (omega (arith, two_corners)) (omega (arith, two_corners))

-- row g − b above row q, by g + 1 − b
module _ (c : Rows) (g b : ℕ) where
  pub row_from : {k : ℤ} → Diff k g b → at_row c k ≡ at_row c (sub_ℕ g b)
  row_from e = ap (at_row c) (diff_unique e (diff_sub g b) (omega arith))

  pub row_below : g + 1 < b → 0 ≡ at_row c (sub_ℕ g b)
  unfolding at_row
  row_below h = row_from (is_below {n = suc (b - (g + 2))} (omega arith))

  pub row-lower : g + 1 ≡ b → c.lower ≡ at_row c (sub_ℕ g b)
  unfolding at_row
  row-lower h = row_from (is_below {n = 0} (omega arith))

  pub row-middle : g ≡ b → c.middle ≡ at_row c (sub_ℕ g b)
  unfolding at_row
  row-middle h = row_from (is-above {n = 0} (omega arith))

  pub row-upper : g ≡ b + 1 → c.upper ≡ at_row c (sub_ℕ g b)
  unfolding at_row
  row-upper h = row_from (is-above {n = 1} (omega arith))

  pub row-above : b + 2 ≤ g → 0 ≡ at_row c (sub_ℕ g b)
  unfolding at_row
  row-above h = row_from (is-above {n = suc (suc (g - (b + 2)))} (omega arith))

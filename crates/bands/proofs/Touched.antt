-- Which rows of a column are touched, by the band's edges: the upper one is l + 2·s·i high at the left side of column i, the lower one a
-- row below it. Rows and edges are counted from the row origin.
use mathlib.Core.Bool.{Bool}
use mathlib.Core.Path.{◌≡◌, sym, ap, ◌∙◌}
use mathlib.Core.Logic.{◌⊎◌, inl, inr, ⊎_elim}
use Prim.Native.Nat.{ℕ, ◌+◌, ◌*◌, ◌≤◌, ◌<◌}
use native.Mathlib.Nat.{mul-le-mul_left, lt_of_mul-lt-mul_left, eq-zero-or-pos, le-div_iff_mul-le, div-lt_iff_lt-mul}
use native.Mathlib.Omega.{arith}
use lib.IntN.{sub_ℕ}
use Rattle.numbers.proofs.Order.{lt_or_le}
use Rattle.bands.specs.Line.{row_of, rest_of}
use Rattle.bands.specs.inner.Rows.{whole_of, cut_excess, rows_of, at_row, edge_at}
use Rattle.bands.specs.inner.Frame.{row_origin}
use Rattle.bands.specs.declared.Rows.{Rows}
use Rattle.bands.proofs.Closed.{column-is, rest_lt, level-column, row_below, row-lower, row-middle, row-upper, row-above}
use Rattle.bands.proofs.Column.{Filled, filled}

-- ---- row q begins where the edge comes to 2·l·q
module _ (l s q i : ℕ) (long : 0 < l) where
  pub row-least : 2 * l * q ≤ edge_at l s i → q ≤ row_of l s i
  unfolding row_of
  row-least h = (le-div_iff_mul-le {k = 2 * l} (omega arith)).1 (omega arith)

  pub row-less : edge_at l s i < 2 * l * q → row_of l s i < q
  unfolding row_of
  row-less h = (div-lt_iff_lt-mul {k = 2 * l} {x = edge_at l s i} {y = q} (omega arith)).1 (omega arith)

-- ---- row g is touched where the upper edge comes above its floor by the right side, and the lower one is below its top at the left side
module _ (exact : Bool) (l s i g : ℕ) (long : 0 < l) (short : s ≤ l) where
  abbrev q : ℕ
  q = row_of l s i

  abbrev r : ℕ
  r = rest_of l s i

  abbrev b : ℕ
  b = row_origin + q

  abbrev rows : Rows
  rows = rows_of exact l s r

  abbrev edge : ℕ
  edge = 2 * l * row_origin + edge_at l s i

  edge_is : edge ≡ 2 * l * b + r
  edge_is = omega (arith, column-is l s i)

  less : r < 2 * l
  less = rest_lt l s i long

  full : Filled (cut_excess l s r) (whole_of exact l s) rows
  full = filled exact l s i long short

  -- not both are 0: where s is, r is l
  some : 0 < r + 2 * s
  some = ⊎_elim (λ z. let e : r ≡ l = ap (λ (k : ℕ). rest_of l k i) z ∙ (level-column l i long).1 in omega arith) (λ z. omega arith) (eq-zero-or-pos s)

  pub row-touched : 2 * l * g < edge + 2 * s → edge < 2 * l * (g + 2) → 0 < at_row rows (sub_ℕ g b)
  row-touched above below = go (lt_or_le b g) (lt_or_le g b)
    where
      go : (b < g) ⊎ (g ≤ b) → (g < b) ⊎ (b ≤ g) → 0 < at_row rows (sub_ℕ g b)
      go (inl h) k =
          let near : g < b + 2 = lt_of_mul-lt-mul_left (2 * l) (omega (arith, edge_is, less)) in
          rw (sym (row-upper rows g b (omega arith))) (full.upper-touched.1 (omega (arith, edge_is, mul-le-mul_left (2 * l) h)))
      go (inr h) (inl k) =
          let near : b < g + 2 = lt_of_mul-lt-mul_left (2 * l) (omega (arith, edge_is)) in
          rw (sym (row-lower rows g b (omega arith))) full.lower-touched
      go (inr h) (inr k) = rw (sym (row-middle rows g b (omega arith))) full.middle-touched

  pub row_untouched : (edge + 2 * s ≤ 2 * l * g) ⊎ (2 * l * (g + 2) ≤ edge) → 0 ≡ at_row rows (sub_ℕ g b)
  row_untouched (inl h) = go (lt_or_le (b + 1) g)
    where
      over : b < g
      over = lt_of_mul-lt-mul_left (2 * l) (omega (arith, edge_is, some))

      go : (b + 1 < g) ⊎ (g ≤ b + 1) → 0 ≡ at_row rows (sub_ℕ g b)
      go (inl k) = row-above rows g b (omega arith)
      go (inr k) =
          let none : rows.upper ≤ 0 =
          ⊎_elim (λ z. absurd (omega (arith, full.upper-touched.0 z, edge_is, mul-le-mul_left (2 * l) k))) (λ z. z) (lt_or_le 0 rows.upper) in
          let e : 0 ≡ rows.upper = omega arith in
          e ∙ row-upper rows g b (omega (arith, over))
  row_untouched (inr h) = row_below rows g b (lt_of_mul-lt-mul_left (2 * l) (omega (arith, edge_is, less)))

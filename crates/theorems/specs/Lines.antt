-- The two rules of a line, in its own columns and rows: l is the longer span, s the shorter, i a column, j a row (R3, R4).
use Rattle.std.specs.Prelude.{◌↔◌, ◌≡◌, ℕ, suc, ◌+◌, ◌*◌, ◌≤◌, ◌<◌, ℤ, pos, negsuc, nat_abs, ◌+ℤ◌, ◌-ℤ◌, ◌*ℤ◌}
use Rattle.numbers.specs.Fraction.{◌over◌, Within}
use Rattle.bands.specs.Line.{exact_row, exact_whole, approx_row, approx_whole, row_of}
use Rattle.bands.specs.Band.{along_d, over_n, below_n}

-- what the row k above row q of column i has: 1, 0 and −1 are the rows q + 1, q and q − 1 of R4
abbrev pub exact_from : ℕ → ℕ → ℕ → ℤ → ℕ
exact_from l s i k = nat_abs (exact_row l s i (pos (row_of l s i) +ℤ k))

abbrev pub approx_from : ℕ → ℕ → ℕ → ℤ → ℕ
approx_from l s i k = nat_abs (approx_row l s i (pos (row_of l s i) +ℤ k))

pub record Lines : Type 0 where
  -- the exact coverage is the area under the edge half a row above the segment less that under the edge half a row below (R3.1, R3.4)
  pub band : (s i m : ℕ) (j : ℤ)
      → exact_row (i + 1 + m) s i j *ℤ pos (along_d (pos 1) (i + 1 + m) s) ≡ (pos (over_n s i m j) -ℤ pos (below_n s i m j)) *ℤ pos (exact_whole (i + 1 + m) s)
  -- no coverage is negative, so that nothing is lost where it is taken without its sign (R3.4, R4.2, R4.3)
  pub exact_natural : (l s i : ℕ) (j : ℤ) → 0 < l → s ≤ l → pos (nat_abs (exact_row l s i j)) ≡ exact_row l s i j
  pub approximate_natural : (l s i : ℕ) (j : ℤ) → 0 < l → s ≤ l → pos (nat_abs (approx_row l s i j)) ≡ approx_row l s i j
  -- the rows of a column add up to the whole: q + 1, q and q − 1 do (R3.4, R4.2, R4.3)
  pub exact-sum : (l s i : ℕ) → 0 < l → s ≤ l → exact_from l s i (pos 1) + exact_from l s i (pos 0) + exact_from l s i (negsuc 0) ≡ exact_whole l s
  pub approximate_sum : (l s i : ℕ) → 0 < l → s ≤ l → approx_from l s i (pos 1) + approx_from l s i (pos 0) + approx_from l s i (negsuc 0) ≡ approx_whole l
  -- and all others have nothing (R4.4)
  pub exact_none : (l s i : ℕ) → 0 < l → s ≤ l → (k : ℕ) → (exact_from l s i (pos (suc (suc k))) ≡ 0) × (exact_from l s i (negsuc (suc k)) ≡ 0)
  pub approximate_none : (l s i : ℕ) → 0 < l → s ≤ l → (k : ℕ) → (approx_from l s i (pos (suc (suc k))) ≡ 0) × (approx_from l s i (negsuc (suc k)) ≡ 0)
  -- the approximate coverage is above 0 where the exact one is (R4.4)
  pub same-touched : (l s i : ℕ) (j : ℤ) → 0 < l → s ≤ l → (0 < nat_abs (exact_row l s i j)) ↔ (0 < nat_abs (approx_row l s i j))
  -- it is within s/(4l) of the exact one everywhere (R4.4)
  pub near : (l s i : ℕ) (j : ℤ) → 0 < l → s ≤ l
      → Within (nat_abs (approx_row l s i j) over approx_whole l) (nat_abs (exact_row l s i j) over exact_whole l s) (s over 4 * l)
  -- and in the outer rows, q + 1 and q − 1, within s/(8l) (R4.4)
  pub near-upper : (l s i : ℕ) → 0 < l → s ≤ l → Within (approx_from l s i (pos 1) over approx_whole l) (exact_from l s i (pos 1) over exact_whole l s) (s over 8 * l)
  pub near-lower : (l s i : ℕ) → 0 < l → s ≤ l
      → Within (approx_from l s i (negsuc 0) over approx_whole l) (exact_from l s i (negsuc 0) over exact_whole l s) (s over 8 * l)

-- What holds of both rules at any column and row of a line.
use mathlib.Core.Path.{◌≡◌, sym, ◌∙◌, ap}
use mathlib.Core.Bool.{Bool, true, false}
use mathlib.Core.Logic.{⊎_elim, ◌↔◌}
use Prim.Native.Nat.{ℕ, zero, suc, ◌+◌, ◌*◌, ◌-◌, ◌≤◌, ◌<◌}
use native.Mathlib.Nat.{mul-pos, mul-sub, eq-zero-or-pos}
use native.Mathlib.Omega.{arith}
use lib.IntN.{ℤ, pos, negsuc, nat_abs, ◌+ℤ◌, ◌-ℤ◌, +ℤ_comm, +ℤ-neg_ℤ_cancel}
use Rattle.numbers.specs.Fraction.{◌over◌, Within}
use Rattle.numbers.proofs.Order.{ring}
use Rattle.numbers.proofs.Fraction.{within_same, within_wider}
use Rattle.bands.specs.Line.{exact_row, exact_whole, approx_row, approx_whole, row_of, rest_of}
use Rattle.bands.specs.inner.Rows.{rule_of, whole_of, cut_excess, rise_of, corner_of, corner_at, rows_of, at_row}
use Rattle.bands.specs.declared.Rows.{Rows}
use Rattle.bands.proofs.Bounds.{lower_pos, middle_pos, off-least, off-most, within_by}
use Rattle.bands.proofs.Closed.{closed, rest_lt, level-column, middle-some, lower-some}

-- ---- the rows of one column, with rest r

-- rows of which the middle and the lower one are touched, the upper one just where t is positive, and which make up the whole
pub record Filled (t whole : ℕ) (c : Rows) : Type 0 where
  pub upper-touched : (0 < c.upper) ↔ (0 < t)
  pub middle-touched : 0 < c.middle
  pub lower-touched : 0 < c.lower
  pub sum : c.upper + c.middle + c.lower ≡ whole

corner_touched : (exact : Bool) (t : ℕ) → (0 < corner_of exact t) ↔ (0 < t)
corner_touched true zero = (λ h. h, λ h. h)
corner_touched true (suc t) = (λ h. omega arith, λ h. mul-pos {m = suc t} {n = suc t} h h)
corner_touched false t = (λ h. h, λ h. h)

-- corner, rise less two corners, whole and corner less the rise: they add up to the whole
pub filled : (exact : Bool) (l s i : ℕ) → 0 < l → s ≤ l → Filled (cut_excess l s (rest_of l s i)) (whole_of exact l s) (rows_of exact l s (rest_of l s i))
filled exact l s i long short =
    let r = rest_of l s i in
    let h = rest_lt l s i long in
    let level : s ≡ 0 → r ≡ l = λ e. ap (λ (z : ℕ). rest_of l z i) e ∙ (level-column l i long).1 in
    let some : 0 < r + s = ⊎_elim (λ z. omega (arith, level z)) (λ z. omega arith) (eq-zero-or-pos s) in
    let m = middle-some exact l s r short h some in
    let w = lower-some exact l s r short h in
    record { upper-touched = corner_touched exact (cut_excess l s r); middle-touched = omega arith; lower-touched = omega arith; sum = omega arith }

-- the approximate rows are near the exact ones: the middle one within s/(4l), the outer two within s/(8l)
pub record RowsNear (l s : ℕ) (a e : Rows) : Type 0 where
  pub upper : Within (a.upper over 4 * l) (e.upper over exact_whole l s) (s over 4 * 2 * l)
  pub middle : Within (a.middle over 4 * l) (e.middle over exact_whole l s) (s over 4 * 1 * l)
  pub lower : Within (a.lower over 4 * l) (e.lower over exact_whole l s) (s over 4 * 2 * l)

-- over 8·l·s the rows differ by 2·s·t − t², twice that and 2·s·t − t², and t² ≤ 2·s·t ≤ t² + s²
pub near-rows : (l s i : ℕ) → 0 < l → s ≤ l → RowsNear l s (rows_of false l s (rest_of l s i)) (rows_of true l s (rest_of l s i))
unfolding rise_of exact_whole approx_whole
near-rows l zero i long short =
    let e = (level-column l i long).1 in
    let z : cut_excess l 0 (rest_of l 0 i) ≡ 0 = omega arith in
    let square : corner_at true l 0 (rest_of l 0 i) ≡ 0 = ap (corner_of true) z in
    record {
      upper = within_same _ _ _ (rw square (omega arith));
      middle = within_same _ _ _ (rw square (omega arith));
      lower = within_same _ _ _ (rw square (omega arith));
    }
near-rows l (suc s) i long short =
    let r = rest_of l (suc s) i in
    let h = rest_lt l (suc s) i long in
    let t = cut_excess l (suc s) r in
    let low = off-least l (suc s) r short h in
    let high = off-most l (suc s) r short h in
    let a = lower_pos l (suc s) r short h (omega arith) in
    let b = middle_pos l (suc s) r short h (omega arith) in
    let m : suc s * (2 * (r + suc s) - 2 * t) ≡ 2 * (suc s * (r + suc s)) - 2 * (suc s * t) = simp (mul-sub, ring) (omega arith) in
    let w : suc s * (4 * l + t - 2 * (r + suc s)) ≡ 4 * (l * suc s) + suc s * t - 2 * (suc s * (r + suc s)) = simp (mul-sub, ring) (omega arith) in
    record {
      upper = within_by l (suc s) _ _ (suc s * suc s) 2 (omega arith) (omega arith) (omega arith);
      middle = within_by l (suc s) _ _ (2 * (suc s * suc s)) 1 (omega arith) (omega arith) (omega arith);
      lower = within_by l (suc s) _ _ (suc s * suc s) 2 (omega arith) (omega arith) (omega arith);
    }

-- ---- any row

-- a relation between the rows of two columns, at each row
pub at-row : (R : ℕ → ℕ → Type 0) (c d : Rows) → R 0 0 → R c.upper d.upper → R c.middle d.middle → R c.lower d.lower → (k : ℤ) → R (at_row c k) (at_row d k)
unfolding at_row
at-row R c d z u m w (pos zero) = m
at-row R c d z u m w (pos (suc zero)) = u
at-row R c d z u m w (pos (suc (suc k))) = z
at-row R c d z u m w (negsuc zero) = w
at-row R c d z u m w (negsuc (suc k)) = z

-- the row k above row q, less q
less_q : (q : ℕ) (k : ℤ) → pos q +ℤ k -ℤ pos q ≡ k
less_q q k = ap (λ (z : ℤ). z -ℤ pos q) (+ℤ_comm (pos q) k) ∙ +ℤ-neg_ℤ_cancel k (pos q)

-- t and the touched rows: q + 1 where t is positive, q and q − 1
abbrev pub touched_rows : ℕ → Rows
touched_rows t = record { upper = t; middle = 1; lower = 1 }

-- two rows are always touched, so that none has all of the whole
filled_lt : {t whole : ℕ} {c : Rows} → Filled t whole c → (k : ℤ) → at_row c k < whole
filled_lt {t} {whole} {c} f =
    let m = f.middle-touched in
    let w = f.lower-touched in
    let e = f.sum in
    at-row (λ (n d : ℕ). n < whole) c c (omega arith) (omega arith) (omega arith) (omega arith)

filled-touched : {t whole : ℕ} {c : Rows} → Filled t whole c → (k : ℤ) → (0 < at_row c k) ↔ (0 < at_row (touched_rows t) k)
filled-touched {t} {whole} {c} f =
    at-row (λ (n d : ℕ). (0 < n) ↔ (0 < d)) c (touched_rows t) (λ h. h, λ h. h)
    f.upper-touched
    (λ h. omega arith, λ h. f.middle-touched)
    (λ h. omega arith, λ h. f.lower-touched)

module _ (exact : Bool) (l s i : ℕ) (j : ℤ) (long : 0 < l) (short : s ≤ l) where
  abbrev part : ℕ
  part = nat_abs (rule_of exact l s i j)

  abbrev above : ℤ
  above = j -ℤ pos (row_of l s i)

  -- no row is negative
  pub part_nat : pos part ≡ rule_of exact l s i j
  part_nat = let e = closed exact l s i j long short in ap (λ (z : ℤ). pos (nat_abs z)) e ∙ sym e

  pub part-is : part ≡ at_row (rows_of exact l s (rest_of l s i)) above
  part-is = ap nat_abs (closed exact l s i j long short)

  -- none has the whole
  pub part_lt : part < whole_of exact l s
  part_lt = rw part-is (filled_lt (filled exact l s i long short) above)

  pub part-touched : (0 < part) ↔ (0 < at_row (touched_rows (cut_excess l s (rest_of l s i))) above)
  part-touched = rw part-is (filled-touched (filled exact l s i long short) above)

module _ (l s i : ℕ) (j : ℤ) (long : 0 < l) (short : s ≤ l) where
  -- both rules touch the same rows
  pub same-touched : (0 < nat_abs (exact_row l s i j)) ↔ (0 < nat_abs (approx_row l s i j))
  same-touched =
      let e = part-touched true l s i j long short in
      let a = part-touched false l s i j long short in
      (λ h. a.1 (e.0 h), λ h. e.1 (a.0 h))

  -- the approximate coverage is within s/(4l) of the exact one
  pub near : Within (nat_abs (approx_row l s i j) over approx_whole l) (nat_abs (exact_row l s i j) over exact_whole l s) (s over 4 * l)
  unfolding approx_whole
  near =
      let n = near-rows l s i long short in
      rw (part-is false l s i j long short, part-is true l s i j long short)
      (at-row (λ (a e : ℕ). Within (a over 4 * l) (e over exact_whole l s) (s over 4 * l)) _ _
      (within_same (0 over 4 * l) (0 over exact_whole l s) (s over 4 * l) (omega arith))
      (within_wider _ _ (s over 4 * 2 * l) (s over 4 * l) (omega arith) (omega arith) n.upper)
      (within_wider _ _ (s over 4 * 1 * l) (s over 4 * l) (omega arith) (omega arith) n.middle)
      (within_wider _ _ (s over 4 * 2 * l) (s over 4 * l) (omega arith) (omega arith) n.lower)
      _)

-- ---- the rows of a column by their distance from row q
module _ (l s i : ℕ) (long : 0 < l) (short : s ≤ l) where
  -- what the row k above row q has
  abbrev part_from : Bool → ℤ → ℕ
  part_from exact k = nat_abs (rule_of exact l s i (pos (row_of l s i) +ℤ k))

  from : (exact : Bool) (k : ℤ) → part_from exact k ≡ at_row (rows_of exact l s (rest_of l s i)) k
  from exact k = part-is exact l s i (pos (row_of l s i) +ℤ k) long short ∙ ap (at_row (rows_of exact l s (rest_of l s i))) (less_q (row_of l s i) k)

  -- rows q + 1, q and q − 1 add up to the whole
  pub part-sum : (exact : Bool) → part_from exact (pos 1) + part_from exact (pos 0) + part_from exact (negsuc 0) ≡ whole_of exact l s
  unfolding at_row
  part-sum exact = rw (from exact (pos 1), from exact (pos 0), from exact (negsuc 0)) (filled exact l s i long short).sum

  -- and all others have nothing
  pub part_none : (exact : Bool) (k : ℕ) → (part_from exact (pos (suc (suc k))) ≡ 0) × (part_from exact (negsuc (suc k)) ≡ 0)
  unfolding at_row
  part_none exact k = (from exact (pos (suc (suc k))), from exact (negsuc (suc k)))

  -- the outer rows are within s/(8l)
  pub near-upper : Within (part_from false (pos 1) over approx_whole l) (part_from true (pos 1) over exact_whole l s) (s over 4 * 2 * l)
  unfolding at_row approx_whole
  near-upper = rw (from true (pos 1), from false (pos 1)) (near-rows l s i long short).upper

  pub near-lower : Within (part_from false (negsuc 0) over approx_whole l) (part_from true (negsuc 0) over exact_whole l s) (s over 4 * 2 * l)
  unfolding at_row approx_whole
  near-lower = rw (from true (negsuc 0), from false (negsuc 0)) (near-rows l s i long short).lower

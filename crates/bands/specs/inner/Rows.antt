-- The rows of a column in closed form, by the rest r of the column. `proofs/Closed.antt` shows that they are the rows of the two rules;
-- only inner functions cite them.
use Rattle.std.specs.Prelude.{Bool, true, false, cond, ℕ, zero, suc, ◌+◌, ◌*◌, ◌-◌, ◌≤◌, ◌<◌, ℤ, pos, negsuc}
use Rattle.bands.specs.Line.{exact_row, exact_whole, approx_row, approx_whole}
use Rattle.bands.specs.declared.Rows.{Rows}

-- one of the two rules, and what its rows add up to
abbrev pub rule_of : Bool → ℕ → ℕ → ℕ → ℤ → ℤ
rule_of exact = cond exact exact_row approx_row

abbrev pub whole_of : Bool → ℕ → ℕ → ℕ
whole_of exact l s = cond exact (exact_whole l s) (approx_whole l)

-- t cut at 0
abbrev pub cut_excess : ℕ → ℕ → ℕ → ℕ
cut_excess l s r = r + 2 * s - 2 * l

-- the middle row where t is at most 0, and an outer row where it is not
unfoldable pub rise_of : Bool → ℕ → ℕ → ℕ
rise_of true zero r = 1
rise_of true (suc s) r = 4 * (suc s * (r + suc s))
rise_of false s r = 2 * (r + s)

abbrev pub corner_of : Bool → ℕ → ℕ
corner_of exact t = cond exact (t * t) t

abbrev pub corner_at : Bool → ℕ → ℕ → ℕ → ℕ
corner_at exact l s r = corner_of exact (cut_excess l s r)

-- under both rules: where the band passes above row q by t, the row above has the corner, which row q lacks twice
abbrev pub rows_of : Bool → ℕ → ℕ → ℕ → Rows
rows_of exact l s r =
    record {
      upper = corner_at exact l s r;
      middle = rise_of exact s r - 2 * corner_at exact l s r;
      lower = whole_of exact l s + corner_at exact l s r - rise_of exact s r;
    }

-- the row k above row q
unfoldable pub at_row : Rows → ℤ → ℕ
at_row c (pos zero) = c.middle
at_row c (pos (suc zero)) = c.upper
at_row c (pos (suc (suc k))) = 0
at_row c (negsuc zero) = c.lower
at_row c (negsuc (suc k)) = 0

-- l + 2·s·i: how high the band's upper edge lies over the floor of row 0 at the left side of column i, 2·l to a row
abbrev pub edge_at : ℕ → ℕ → ℕ → ℕ
edge_at l s i = l + 2 * s * i

-- i is the first of the columns a to e at which that edge has come to a rise, or e
pub record Reaching (l s rise a e i : ℕ) : Type 0 where
  pub least : a ≤ i
  pub most : i ≤ e
  pub reached : i < e → rise ≤ edge_at l s i
  pub below : a < i → edge_at l s (i - 1) < rise

-- The two line rules, in a line's own columns and rows: l is the longer span, s the shorter, column i runs from 0 to l − 1, and row j
-- is counted from the first end (R3, R4).
use Rattle.std.specs.Prelude.{cond, ℕ, zero, suc, ◌+◌, ◌*◌, ◌/◌, ◌%◌, ℤ, pos, negsuc, ◌+ℤ◌, ◌-ℤ◌, ◌*ℤ◌}
use Rattle.std.specs.Int.Signed.{le_z}
use Rattle.edges.specs.Edge.{slant}

-- ---- exact

-- a = l + 2·s·i − 2·l·j: the height of the band's upper edge over the floor of row j at the column's left side, 2·l to a row
unfoldable pub left_height : ℕ → ℕ → ℕ → ℤ → ℤ
left_height l s i j = pos (l + 2 * s * i) -ℤ pos (2 * l) *ℤ j

-- b = a + 2·s: the same at the right side
unfoldable pub right_height : ℕ → ℕ → ℕ → ℤ → ℤ
right_height l s i j = left_height l s i j +ℤ pos (2 * s)

-- F(i, j) = P(b) − P(a) − P(b − 2l) + P(a − 2l)
unfoldable pub F : ℕ → ℕ → ℕ → ℤ → ℤ
F l s i j = slant (2 * l) (left_height l s i j) (right_height l s i j)

-- of a level line (s = 0): 1 over 2 in rows 0 and −1, else 0
unfoldable pub level_row : ℤ → ℤ
level_row (pos zero) = pos 1
level_row (pos (suc j)) = pos 0
level_row (negsuc zero) = pos 1
level_row (negsuc (suc j)) = pos 0

-- the exact coverage of row j in column i: F(i, j) − F(i, j + 1) over 8·l·s
unfoldable pub exact_row : ℕ → ℕ → ℕ → ℤ → ℤ
exact_row l zero i j = level_row j
exact_row l (suc s) i j = F l (suc s) i j -ℤ F l (suc s) i (j +ℤ pos 1)

unfoldable pub exact_whole : ℕ → ℕ → ℕ
exact_whole l zero = 2
exact_whole l (suc s) = 8 * l * suc s

-- ---- approximate

-- q and r of column i, 0 ≤ r < 2l: l + 2·s·i = 2·l·q + r
unfoldable pub row_of : ℕ → ℕ → ℕ → ℕ
row_of l s i = (l + 2 * s * i) / (2 * l)

unfoldable pub rest_of : ℕ → ℕ → ℕ → ℕ
rest_of l s i = (l + 2 * s * i) % (2 * l)

-- what rows q + 1, q and q − 1 have, k being the row less q; all others have 0
unfoldable pub three_rows : ℤ → ℤ → ℤ → ℤ → ℤ
three_rows upper middle lower (pos zero) = middle
three_rows upper middle lower (pos (suc zero)) = upper
three_rows upper middle lower (pos (suc (suc k))) = pos 0
three_rows upper middle lower (negsuc zero) = lower
three_rows upper middle lower (negsuc (suc k)) = pos 0

-- t = r + 2s − 2l
unfoldable pub excess : ℕ → ℕ → ℕ → ℤ
excess l s r = pos (r + 2 * s) -ℤ pos (2 * l)

-- t ≤ 0: rows q and q − 1 have 2r + 2s and 4l − 2r − 2s over 4l
unfoldable pub flat_rows : ℕ → ℕ → ℕ → ℤ → ℤ
flat_rows l s r = three_rows (pos 0) (pos (2 * r + 2 * s)) (pos (4 * l) -ℤ pos (2 * r) -ℤ pos (2 * s))

-- t > 0: rows q + 1, q and q − 1 have t, 4l − 2s and 4l − 2r − 2s + t over 4l
unfoldable pub crossed_rows : ℕ → ℕ → ℕ → ℤ → ℤ
crossed_rows l s r =
    three_rows (excess l s r) (pos (4 * l) -ℤ pos (2 * s)) (pos (4 * l) -ℤ pos (2 * r) -ℤ pos (2 * s) +ℤ excess l s r)

-- the approximate coverage of row j in column i, over 4l
unfoldable pub approx_row : ℕ → ℕ → ℕ → ℤ → ℤ
approx_row l s i j =
    cond (le_z (excess l s (rest_of l s i)) (pos 0)) (flat_rows l s (rest_of l s i)) (crossed_rows l s (rest_of l s i)) (j -ℤ pos (row_of l s i))

unfoldable pub approx_whole : ℕ → ℕ
approx_whole l = 4 * l

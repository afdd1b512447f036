-- The area of a pixel under one straight edge, n over d (R3.2, R3.3, R5.5).
use Rattle.std.specs.Prelude.{ℕ, zero, suc, ◌+◌, ◌*◌, min, ℤ, pos, negsuc, nat_abs, ◌+ℤ◌, ◌-ℤ◌, ◌*ℤ◌}

-- P(h): h² for positive h, else 0
unfoldable pub P : ℤ → ℤ
P (pos h) = pos (h * h)
P (negsuc h) = pos 0

-- The edge stands a above the pixel's floor at its left side and b at its right, in units of which H make a row:
-- P(b) − P(a) − P(b − H) + P(a − H) is 2·H·(b − a) times the area under it
unfoldable pub slant : ℕ → ℤ → ℤ → ℤ
slant H a b = P b -ℤ P a -ℤ P (b -ℤ pos H) +ℤ P (a -ℤ pos H)

-- a height brought into 0 to H
unfoldable pub in_row : ℕ → ℤ → ℕ
in_row H (pos h) = min h H
in_row H (negsuc h) = 0

-- one number where k is 0, another where it is not
unfoldable pub by_zero : ℕ → ℕ → ℕ → ℕ
by_zero zero none some = none
by_zero (suc k) none some = some

-- the area under it, by how far it rises or falls over the pixel: of a level edge the formula is 0 over 0, so that its height is
-- taken, over H; of one that falls both have the other sign
unfoldable pub under_n : ℕ → ℤ → ℤ → ℕ
under_n H a b = by_zero (nat_abs (b -ℤ a)) (in_row H a) (nat_abs (slant H a b))

unfoldable pub under_d : ℕ → ℕ → ℕ
under_d H k = by_zero k H (2 * H * k)

-- An edge with ends on whole columns, the left one p above the floor and the right one q, in units of which u make a row: 1 for whole
-- heights, 2 for half ones. At i columns from its left end and m from its right it stands m·p + i·q, in units of which u·(i + m) make
-- a row
unfoldable pub height_at : ℕ → ℕ → ℤ → ℤ → ℤ
height_at i m p q = pos m *ℤ p +ℤ pos i *ℤ q

-- what it has under it of a pixel that has i of its columns on the left and m on the right
unfoldable pub edge_n : ℕ → ℕ → ℕ → ℤ → ℤ → ℕ
edge_n u i m p q = under_n (u * (i + 1 + m)) (height_at i (m + 1) p q) (height_at (i + 1) m p q)

-- over this, which is the same for all its pixels; l is its width
unfoldable pub edge_d : ℕ → ℕ → ℤ → ℤ → ℕ
edge_d u l p q = under_d (u * l) (nat_abs (q -ℤ p))

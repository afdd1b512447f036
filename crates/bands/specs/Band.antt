-- The band of a line between two edges, in the line's own columns and rows. `band` of proofs/Band shows that the exact coverage is the
-- area under the upper edge less that under the lower one (R3.4).
use Rattle.std.specs.Prelude.{ℕ, ◌*◌, ℤ, pos, negsuc, ◌+ℤ◌, ◌-ℤ◌, ◌*ℤ◌}
use Rattle.edges.specs.Edge.{edge_n, edge_d}

-- An edge that starts h half rows above the first end and is 2·s half rows higher where the line ends: what it has under it of the
-- pixel in row j that has i of the line's columns on its left and m on its right
unfoldable pub along_n : ℤ → ℕ → ℕ → ℕ → ℤ → ℕ
along_n h s i m j = edge_n 2 i m (h -ℤ pos 2 *ℤ j) (h +ℤ pos (2 * s) -ℤ pos 2 *ℤ j)

-- over this; l is the longer span
unfoldable pub along_d : ℤ → ℕ → ℕ → ℕ
along_d h l s = edge_d 2 l h (h +ℤ pos (2 * s))

-- half a row above the segment, and half a row below
abbrev pub over_n : ℕ → ℕ → ℕ → ℤ → ℕ
over_n s i m j = along_n (pos 1) s i m j

abbrev pub below_n : ℕ → ℕ → ℕ → ℤ → ℕ
below_n s i m j = along_n (negsuc 0) s i m j

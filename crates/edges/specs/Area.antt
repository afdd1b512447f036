-- What makes n over d the area under an edge. The pixel is cut into m slices of one width. In a slice no height, brought into the row,
-- is below both that at its left side and that at its right, nor above both: the area lies between the sum of the lower ones and the
-- sum of the higher ones, for every m. `edge_area` of proofs/Slices shows that the rule gives such a number, `edge_only` that no other is one.
use Rattle.std.specs.Prelude.{ℕ, ◌+◌, ◌*◌, ◌≤◌, min, max, ℤ, pos, ◌+ℤ◌, ◌-ℤ◌, ◌*ℤ◌}
use Rattle.numbers.specs.Sum.{sum_to}
use Rattle.edges.specs.Edge.{in_row}

-- the height of the edge from a to b at side t of the slices, brought into the row, in units of which m·H make a row
unfoldable pub cut_at : ℕ → ℕ → ℤ → ℤ → ℕ → ℕ
cut_at H m a b t = in_row (m * H) (pos m *ℤ a +ℤ pos t *ℤ (b -ℤ a))

-- the heights of m slices, each m·H to the row and as wide as the m-th part of the pixel, added
abbrev pub lower_sum : ℕ → ℕ → ℤ → ℤ → ℕ
lower_sum H m a b = sum_to m (λ t. min (cut_at H m a b t) (cut_at H m a b (t + 1)))

abbrev pub higher_sum : ℕ → ℕ → ℤ → ℤ → ℕ
higher_sum H m a b = sum_to m (λ t. max (cut_at H m a b t) (cut_at H m a b (t + 1)))

pub record Area (H : ℕ) (a b : ℤ) (n d : ℕ) : Type 0 where
  pub above : (m : ℕ) → lower_sum H m a b * d ≤ n * (m * m * H)
  pub below : (m : ℕ) → n * (m * m * H) ≤ higher_sum H m a b * d

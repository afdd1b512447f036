-- The area under an edge by naturals, as the code finds it.
use Rattle.std.specs.Prelude.{ℕ, ◌+◌, ◌*◌, ◌-◌, min, pos, ◌-ℤ◌}
use Rattle.edges.specs.Edge.{under_n}

-- twice the area between 0 and p under a height that is brought into 0 to H
unfoldable pub strip : ℕ → ℕ → ℕ
strip H p = min p H * min p H + 2 * (min p H * (p - H))

-- the area under an edge in row z, where it stands `from` and `to` above the floor of row 0, in units of which H make a row
unfoldable pub under_at : ℕ → ℕ → ℕ → ℕ → ℕ
under_at H from to z = under_n H (pos from -ℤ pos (H * z)) (pos to -ℤ pos (H * z))

-- the greatest width and height of an edge, above every height that it stands at, and the greatest number that an area is over
abbrev pub span_most : ℕ
span_most = 127

abbrev pub height_most : ℕ
height_most = 2097152

abbrev pub whole_most : ℕ
whole_most = 32258

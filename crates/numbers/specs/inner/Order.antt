-- Distances.
use Rattle.std.specs.Prelude.{ℕ, ◌+◌, ◌-◌}

-- how far a and b are apart: one of the two differences is 0
abbrev pub dist : ℕ → ℕ → ℕ
dist a b = (a - b) + (b - a)

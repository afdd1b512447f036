-- Coordinates without a sign.
use Rattle.std.specs.Prelude.{cond, ℕ, ◌+◌, ℤ, pos, nat_abs, ◌+ℤ◌}
use Rattle.numbers.specs.Coordinate.{in_range}

-- the offset of coordinate 0
abbrev pub origin : ℕ
origin = 4096

-- the greatest offset, that of 4,095
abbrev pub offset_most : ℕ
offset_most = 8191

-- a coordinate counted from −4,096; one above the greatest offset stands for every number out of range
unfoldable pub offset_of : ℤ → ℕ
offset_of c = cond (in_range c) (nat_abs (c +ℤ pos origin)) (offset_most + 1)

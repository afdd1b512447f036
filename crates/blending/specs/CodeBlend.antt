-- Blending codes as they stand: in lights equal to codes, blending in light comes to the same (R6.1).
use Rattle.std.specs.Prelude.{ℕ, ◌+◌, ◌*◌, ◌-◌}
use Rattle.numbers.specs.Nearest.{nearest}

-- level v over byte u at coverage n over d: (u·(d − n) + v·n) over d to the nearest, halves up
unfoldable pub code_blend : ℕ → ℕ → ℕ → ℕ → ℕ
code_blend u v n d = nearest (u * (d - n) + v * n) d

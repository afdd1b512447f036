-- The spans of a line (R2.1), and the width and height of a triangle.
use Rattle.std.specs.Prelude.{Bool, cond, ℕ, min, max, ltb, ℤ, nat_abs, ◌-ℤ◌}
use Rattle.std.specs.Int.Signed.{le_z}
use Rattle.shapes.specs.declared.Line.{Line}
use Rattle.shapes.specs.declared.Triangle.{Triangle}

-- the spans of x and of y, without sign
unfoldable pub span_x : Line → ℕ
span_x n = nat_abs (n.x1 -ℤ n.x0)

unfoldable pub span_y : Line → ℕ
span_y n = nat_abs (n.y1 -ℤ n.y0)

-- l and s: the longer span and the shorter
unfoldable pub longer : Line → ℕ
longer n = max (span_x n) (span_y n)

unfoldable pub shorter : Line → ℕ
shorter n = min (span_x n) (span_y n)

-- y is the longer; where the spans are equal, x counts as the longer
unfoldable pub steep : Line → Bool
steep n = ltb (span_x n) (span_y n)

-- the greatest and the smallest of three coordinates
abbrev pub greater : ℤ → ℤ → ℤ
greater a b = cond (le_z a b) b a

abbrev pub smaller : ℤ → ℤ → ℤ
smaller a b = cond (le_z a b) a b

abbrev pub greatest : ℤ → ℤ → ℤ → ℤ
greatest a b c = greater (greater a b) c

abbrev pub smallest : ℤ → ℤ → ℤ → ℤ
smallest a b c = smaller (smaller a b) c

-- the width and the height of a triangle: the greatest x less the smallest, and so y
unfoldable pub width : Triangle → ℕ
width t = nat_abs (greatest t.x0 t.x1 t.x2 -ℤ smallest t.x0 t.x1 t.x2)

unfoldable pub height : Triangle → ℕ
height t = nat_abs (greatest t.y0 t.y1 t.y2 -ℤ smallest t.y0 t.y1 t.y2)

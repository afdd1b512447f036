-- The frame of a line: the column and the row that a pixel has in it (R2).
use Rattle.std.specs.Prelude.{Bool, cond, not, ℤ, pos, neg_ℤ, ◌-ℤ◌}
use Rattle.shapes.specs.Span.{steep}
use Rattle.std.specs.Int.Signed.{le_z}
use Rattle.shapes.specs.declared.Line.{Line}

-- two ends
pub record Ends : Type 0 where
  pub x0 : ℤ
  pub y0 : ℤ
  pub x1 : ℤ
  pub y1 : ℤ

-- x and y exchanged first where y is the longer
unfoldable pub exchanged : Line → Ends
exchanged n =
    cond (steep n)
    (record { x0 = n.y0; y0 = n.x0; x1 = n.y1; y1 = n.x1 })
    (record { x0 = n.x0; y0 = n.y0; x1 = n.x1; y1 = n.y1 })

-- the ends in the order in which x rises
unfoldable pub rising : Ends → Ends
rising e = cond (le_z e.x0 e.x1) e (record { x0 = e.x1; y0 = e.y1; x1 = e.x0; y1 = e.y0 })

unfoldable pub framed : Line → Ends
framed n = rising (exchanged n)

-- if y falls, mirror: row j becomes −j−1
unfoldable pub falls : Line → Bool
falls n = not (le_z (framed n).y0 (framed n).y1)

unfoldable pub mirrored : ℤ → ℤ
mirrored j = neg_ℤ j -ℤ pos 1

-- the column and the row of pixel (x, y), counted from the first end
unfoldable pub column_of : Line → ℤ → ℤ → ℤ
column_of n x y = cond (steep n) y x -ℤ (framed n).x0

unfoldable pub straight_row : Line → ℤ → ℤ → ℤ
straight_row n x y = cond (steep n) x y -ℤ (framed n).y0

unfoldable pub frame_row : Line → ℤ → ℤ → ℤ
frame_row n x y = cond (falls n) (mirrored (straight_row n x y)) (straight_row n x y)

-- The coverage of a triangle by its sides (R5.4 to R5.6).
use Rattle.std.specs.Prelude.{true, false, ◌≡◌, ℕ, ◌+◌, ◌*◌, ◌^◌, ◌≤◌, ℤ, pos, nat_abs, ◌+ℤ◌, ◌-ℤ◌}
use Rattle.std.specs.Int.Signed.{le_z}
use Rattle.edges.specs.Edge.{height_at}
use Rattle.edges.specs.Area.{Area}
use Rattle.limits.specs.Limits.{shape_refusal}
use Rattle.shapes.specs.declared.Triangle.{Triangle}
use Rattle.shapes.specs.declared.Shape.TheVariants.{Triangle as triangle}
use Rattle.sides.specs.Triangle.{Corner, share_n, side_d, triangle_whole, AnyOrder}

-- n over d is the area under the side from a to b, a on the left, in pixel (x, y): l times the heights of the side over the pixel's row
-- line are taken at its two column lines, l being the width of the side
abbrev pub AreaUnder : Corner → Corner → ℤ → ℤ → ℕ → ℕ → Type 0
AreaUnder a b x y =
    let i = nat_abs (x -ℤ a.x) in
    let m = nat_abs (b.x -ℤ (x +ℤ pos 1)) in
    Area (nat_abs (b.x -ℤ a.x)) (height_at i (m + 1) (a.y -ℤ y) (b.y -ℤ y)) (height_at (i + 1) m (a.y -ℤ y) (b.y -ℤ y))

pub record Triangles : Type 0 where
  -- what a side has under it of a pixel in a column that it is over is the area (R5.5)
  pub side_area : (a b : Corner) (x y : ℤ) → le_z a.x x ≡ true → le_z b.x x ≡ false → AreaUnder a b x y (share_n a b x y) (side_d a b)
  -- and no other number is the area (R5.5)
  pub side_only : (a b : Corner) (x y : ℤ) → le_z a.x x ≡ true → le_z b.x x ≡ false
      → (n d : ℕ) → AreaUnder a b x y n d → n * side_d a b ≡ share_n a b x y * d
  -- in which order the corners are given does not matter (R5.4)
  pub any_order : (a b c : Corner) (x y : ℤ) → AnyOrder a b c x y
  -- no query answers a d above 2^45, where 2^47 is allowed (R6.3)
  pub triangle_most_lem : (t : Triangle) → shape_refusal (triangle t) ≡ 0 → triangle_whole t ≤ 2 ^ 45

-- A triangle's coverage of a pixel, n over d, from the areas under its sides (R5.4 to R5.6).
use Rattle.std.specs.Prelude.{Bool, true, false, ◌≡◌, ℕ, ◌*◌, ℤ, pos, neg_ℤ, nat_abs, ◌+ℤ◌, ◌-ℤ◌, ◌*ℤ◌}
use Rattle.std.specs.Int.Signed.{le_z}
use Rattle.edges.specs.Edge.{by_zero, edge_n, edge_d}
use Rattle.shapes.specs.declared.Triangle.{Triangle}
use Rattle.numbers.specs.declared.Ratio.{Ratio}

pub record Corner : Type 0 where
  pub x : ℤ
  pub y : ℤ

-- what the side from a to b, a on the left, has under it of pixel (x, y), in a column that it is over
unfoldable pub share_n : Corner → Corner → ℤ → ℤ → ℕ
share_n a b x y = edge_n 1 (nat_abs (x -ℤ a.x)) (nat_abs (b.x -ℤ (x +ℤ pos 1))) (a.y -ℤ y) (b.y -ℤ y)

-- by whether the column's pixels lie to the right of the one end of a side and of the other: it runs to the right over the column, to
-- the left over it, or is not over it; an upright side never is
unfoldable pub by_run : Bool → Bool → ℤ → ℤ → ℤ
by_run true false right left = right
by_run false true right left = left
by_run true true right left = pos 0
by_run false false right left = pos 0

-- a side that runs to the right adds the pixel's area under it, one that runs to the left takes it away
unfoldable pub side_n : Corner → Corner → ℤ → ℤ → ℤ
side_n a b x y = by_run (le_z a.x x) (le_z b.x x) (pos (share_n a b x y)) (neg_ℤ (pos (share_n b a x y)))

-- over this, at every pixel; 1 for an upright side
unfoldable pub side_d : Corner → Corner → ℕ
side_d a b = by_zero (nat_abs (b.x -ℤ a.x)) 1 (edge_d 1 (nat_abs (b.x -ℤ a.x)) a.y b.y)

-- n₁/d₁ + n₂/d₂ + n₃/d₃, over d₁·d₂·d₃
unfoldable pub sum_n : ℤ → ℕ → ℤ → ℕ → ℤ → ℕ → ℤ
sum_n n₁ d₁ n₂ d₂ n₃ d₃ = n₁ *ℤ pos (d₂ * d₃) +ℤ n₂ *ℤ pos (d₁ * d₃) +ℤ n₃ *ℤ pos (d₁ * d₂)

-- going round from a to b, to c and back to a; the sum is taken without sign
unfoldable pub cover_n : Corner → Corner → Corner → ℤ → ℤ → ℕ
cover_n a b c x y = nat_abs (sum_n (side_n a b x y) (side_d a b) (side_n b c x y) (side_d b c) (side_n c a x y) (side_d c a))

unfoldable pub cover_d : Corner → Corner → Corner → ℕ
cover_d a b c = side_d a b * side_d b c * side_d c a

-- the corners of a triangle
abbrev pub first : Triangle → Corner
first t = record { x = t.x0; y = t.y0 }

abbrev pub second : Triangle → Corner
second t = record { x = t.x1; y = t.y1 }

abbrev pub third : Triangle → Corner
third t = record { x = t.x2; y = t.y2 }

abbrev pub triangle_cover : Triangle → ℤ → ℤ → ℕ
triangle_cover t = cover_n (first t) (second t) (third t)

abbrev pub triangle_whole : Triangle → ℕ
triangle_whole t = cover_d (first t) (second t) (third t)

-- n and d of pixel (x, y)
abbrev pub cover_of : Triangle → ℤ → ℤ → Ratio
cover_of t x y = record { n = triangle_cover t x y; d = triangle_whole t }

-- ---- the corners in another order

-- two orders give the same n and d
pub record Same (a b c a' b' c' : Corner) (x y : ℤ) : Type 0 where
  pub n : cover_n a b c x y ≡ cover_n a' b' c' x y
  pub d : cover_d a b c ≡ cover_d a' b' c'

-- and so do the other five as the one from a to b to c
pub record AnyOrder (a b c : Corner) (x y : ℤ) : Type 0 where
  pub bca : Same a b c b c a x y
  pub cab : Same a b c c a b x y
  pub cba : Same a b c c b a x y
  pub bac : Same a b c b a c x y
  pub acb : Same a b c a c b x y

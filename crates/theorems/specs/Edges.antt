-- The area of a pixel under a straight edge, which serves the band of a line and the sides of a triangle (R3.1, R5.5). The ends of the
-- edge are p and q above the pixel's floor, in units of which u make a row; it has i columns to the left of the pixel and m to the right.
use Rattle.std.specs.Prelude.{◌≡◌, ℕ, ◌+◌, ◌*◌, ◌≤◌, ◌<◌, ℤ, pos, nat_abs, ◌-ℤ◌}
use Rattle.edges.specs.Edge.{under_n, under_d, height_at, edge_n, edge_d}
use Rattle.edges.specs.Area.{Area}

pub record Edges : Type 0 where
  -- the rule gives the area under the edge (R5.5)
  pub edge_area : (u i m : ℕ) (p q : ℤ)
      → Area (u * (i + 1 + m)) (height_at i (m + 1) p q) (height_at (i + 1) m p q) (edge_n u i m p q) (edge_d u (i + 1 + m) p q)
  -- and no other number is the area (R5.5)
  pub edge_only : (u i m : ℕ) (p q : ℤ) (n d : ℕ) → 0 < u
      → Area (u * (i + 1 + m)) (height_at i (m + 1) p q) (height_at (i + 1) m p q) n d
      → n * edge_d u (i + 1 + m) p q ≡ edge_n u i m p q * d
  -- it is at most the whole pixel (R5.5)
  pub edge_le : (u i m : ℕ) (p q : ℤ) → edge_n u i m p q ≤ edge_d u (i + 1 + m) p q
  -- of an edge that stays in the pixel, from height a to height b of H, it is half their sum (R5.5)
  pub trapezoid : (H a b : ℕ) → a ≤ H → b ≤ H → under_n H (pos a) (pos b) * (2 * H) ≡ (a + b) * under_d H (nat_abs (pos b -ℤ pos a))

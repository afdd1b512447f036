-- Two pixels of the triangle of docs/RULES.md, from the definitions.
use mathlib.Core.Path.{◌≡◌, refl}
use lib.IntN.{pos}
use Rattle.edges.specs.Edge.{P, slant, in_row, by_zero, under_n, under_d, height_at, edge_n, edge_d}
use Rattle.sides.specs.Triangle.{share_n, by_run, side_n, side_d, sum_n, cover_n, cover_d}
use Rattle.sides.specs.inner.Offsets.{at}

-- (0,0), (4,1), (1,3): 17/24 of pixel (0,0), 11/12 of pixel (2,1), nothing of pixel (3,2)
pub corners : (cover_n (at 0 0) (at 4 1) (at 1 3) (pos 0) (pos 0) ≡ 408)
    × (cover_n (at 0 0) (at 4 1) (at 1 3) (pos 2) (pos 1) ≡ 528)
    × (cover_n (at 0 0) (at 4 1) (at 1 3) (pos 3) (pos 2) ≡ 0)
    × (cover_d (at 0 0) (at 4 1) (at 1 3) ≡ 576)
unfolding P slant in_row by_zero under_n under_d height_at edge_n edge_d share_n by_run side_n side_d sum_n cover_n cover_d
corners = (refl, refl, refl, refl)

-- The sides and the corners of a triangle.
use Rattle.limits.proofs.Triangles.{triangle_lawful}
use Rattle.sides.proofs.Sides.{side_area, side_only}
use Rattle.sides.proofs.Round.{any_order}
use Rattle.sides.proofs.Placed.{triangle_most_lem}
use Rattle.theorems.specs.Triangles.{Triangles}

pub triangles : Triangles
triangles =
    record {
      side_area = side_area;
      side_only = side_only;
      any_order = any_order;
      triangle_most_lem = λ t z. triangle_most_lem t (triangle_lawful t z);
    }

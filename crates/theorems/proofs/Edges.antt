-- The area under an edge.
use Rattle.numbers.proofs.Integer.{diff_of, diff_pos}
use Rattle.edges.proofs.Under.{rise_is}
use Rattle.edges.proofs.Edge.{way, edge_le, under_inside}
use Rattle.edges.proofs.Slices.{edge_area, edge_only}
use Rattle.theorems.specs.Edges.{Edges}

pub edges : Edges
edges =
    record {
      edge_area = edge_area;
      edge_only = edge_only;
      edge_le = λ u i m p q. edge_le u i m (diff_of p) (diff_of q);
      trapezoid = λ H a b h g. under_inside H (diff_pos a) (diff_pos b) h g (rw (rise_is (diff_pos a) (diff_pos b)) (way a 0 b 0));
    }

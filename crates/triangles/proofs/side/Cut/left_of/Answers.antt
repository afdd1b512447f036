-- The area under an edge, x and y exchanged.
use native.Mathlib.Omega.{arith}
use Rattle.triangles.proofs.Between.{left_le}
use Rattle.triangles.proofs.side.Cut.left_of.Goals as goal

pub returns : goal.returns
returns c =
    let r = c.under_at.ensures in
    (r.0, omega (arith, r.0, left_le c.args.self c.args.z c.requires.0))

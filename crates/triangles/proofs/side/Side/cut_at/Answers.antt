-- `stands` says where the side stands in the row, which is all that the sums and the columns need.
use Rattle.std.proofs.Common.{refl}
use Rattle.triangles.proofs.Standing.{stands, found_cut}
use Rattle.triangles.proofs.side.Side.cut_at.Goals as goal

pub returns : goal.returns
returns c =
    let a = c.args in
    let place = stands a.self a.y c.requires.0 c.requires.1 c.requires.2 refl refl in
    found_cut a.self a.y c.requires.0 place.2 c.column_of.ensures c.column_of-2.ensures

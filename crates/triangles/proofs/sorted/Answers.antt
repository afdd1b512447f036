-- The first two, the last two, and the first two again.
use Rattle.triangles.proofs.Sorting.{sorted_so}
use Rattle.triangles.proofs.sorted.Goals as goal

pub returns : goal.returns
returns c = sorted_so _ _ _ c.requires c.rising.ensures c.rising-2.ensures c.rising-3.ensures

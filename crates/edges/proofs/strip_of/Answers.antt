-- The product is the strip.
use Rattle.edges.proofs.Found.{found-strip}
use Rattle.edges.proofs.strip_of.Goals as goal

pub returns : goal.returns
returns c =
    let a = c.args in
    found-strip a.h a.p c.min-inside.ensures

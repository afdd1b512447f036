-- The product with the inverse gives the quotient, since p is small.
use Rattle.triangles.proofs.Standing.{column-is}
use Rattle.triangles.proofs.side.column_of.Goals as goal

pub returns : goal.returns
returns c = let p = c.requires in column-is c.args.p c.args.h c.args.inverse p.0 p.1 p.2 p.3

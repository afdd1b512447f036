-- By width and height.
use Rattle.std.proofs.Common.{arith}
use Rattle.edges.proofs.Found.{whole_upright, whole_flat, whole_sloped}
use Rattle.edges.proofs.whole_of.Goals as goal

pub returns-then-l-eq0 : goal.returns-then-l-eq0
returns-then-l-eq0 c = let a = c.args in whole_upright a.l a.k (omega arith)

pub returns-then-k-eq0 : goal.returns-then-k-eq0
returns-then-k-eq0 c = whole_flat c.args.l c.args.k (omega arith) (omega arith) c.requires.0

pub returns : goal.returns
returns c = whole_sloped c.args.l c.args.k (omega arith) (omega arith) c.requires.0 c.requires.1

-- Both rules. The whole of an exact line with a slant is above 2, that of one without is 2.
use Rattle.bands.specs.Line.{approx_whole}
use Rattle.bands.proofs.Closed.{whole-greater}
use Rattle.bands.proofs.whole_of.Goals as goal

pub returns-then-exact : goal.returns-then-exact
returns-then-exact c =
    rw (c.if-exact.true, whole-greater c.args.l c.args.s c.requires.1) c.max.ensures

pub returns-else-exact : goal.returns-else-exact
unfolding approx_whole
returns-else-exact c = rw c.if-exact.false

-- The three cases of the definition.
use Rattle.std.proofs.Common.{arith}
use Rattle.bands.specs.inner.Rows.{rise_of}
use Rattle.bands.proofs.Closed.{rise_slanted}
use Rattle.bands.proofs.rise.Goals as goal

pub returns-in-true-eq0 : goal.returns-in-true-eq0
unfolding rise_of
returns-in-true-eq0 c = rw (c.in-true-eq0.is-0, c.in-true-eq0.is-1)

pub returns-in-true-default : goal.returns-in-true-default
returns-in-true-default c =
    let a = c.args in
    rw (c.in-true-default.is-0, rise_slanted a.s a.r (omega arith)) (omega arith)

pub returns-in-false-default : goal.returns-in-false-default
unfolding rise_of
returns-in-false-default c = rw c.in-false-default.is-0

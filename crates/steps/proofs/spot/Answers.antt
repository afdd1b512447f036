-- Coverage 0 leaves the page as it was, and touches nothing.
use Rattle.std.proofs.Common.{arith}
use Rattle.steps.proofs.Dots.{spotted-none}
use Rattle.steps.proofs.spot.Goals as goal

pub returns-then-n-eq0 : goal.returns-then-n-eq0
returns-then-n-eq0 g c =
    let a = c.args in
    (spotted-none (g.I.Ink.blends a.ink) a.n a.k a.page.now c.if-n-eq0.true, omega arith, omega arith)

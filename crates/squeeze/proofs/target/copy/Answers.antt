-- Each turn sets one byte more.
use Rattle.std.proofs.Common.{arith, length-set, add-one}
use lib.Seq.{paste-suc}
use Rattle.squeeze.proofs.target.copy.Goals as goal

pub loop-i-preserved : goal.loop-i-preserved
loop-i-preserved c =
    let a = c.args in
    let l = c.loop-i in
    (simp length-set l.invariant.0, rw (l.invariant.1, add-one) (paste-suc a.out.now a.place a.bytes.now l.i 0 (omega arith) (omega arith)))

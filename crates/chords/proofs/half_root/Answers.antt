-- The search from t finds what the search from y does.
use Rattle.std.proofs.Common.{◌≡◌, sym, ◌∙◌, ◌+◌, ◌-◌, arith}
use Rattle.chords.proofs.Height.{half_root_none, half_root_from, half_root_found}
use Rattle.chords.proofs.half_root.Goals as goal

pub returns-then-odd-m : goal.returns-then-odd-m
returns-then-odd-m c =
    let t = c.loop-t.t in
    let e : t - 1 + 1 ≡ t = omega arith in
    sym (half_root_found (t - 1) c.args.m c.if-odd-m.true) ∙ rw e c.loop-t.invariant

pub loop-t-preserved : goal.loop-t-preserved
loop-t-preserved c =
    let t = c.loop-t.t in
    sym (half_root_from t c.args.m (t - 1) (omega arith) c.if-odd-m.false) ∙ c.loop-t.invariant

pub returns : goal.returns
returns c =
    let e : c.loop-t.t ≡ 0 = omega arith in
    sym (half_root_none c.args.m) ∙ rw e at c.loop-t.invariant

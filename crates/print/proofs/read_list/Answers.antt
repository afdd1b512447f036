-- Each turn reads behind what stands in the buffer, until the reader is at its end or the buffer is full.
use Rattle.std.proofs.Common.{◌≡◌, ℕ, ◌≤◌, ◌<◌, ◌-◌, [], length, take, ◌∙◌, ap, arith}
use Rattle.std.proofs.lemmas.List.{length-take-le}
use Rattle.std.proofs.lemmas.Slice.{take-put_mid_below}
use Rattle.print.proofs.Reading.{as_long, front_more, consumes_more, ended, read_all, read_full}
use Rattle.print.proofs.read_list.Goals as goal

pub returns-then-n-eq0 : goal.returns-then-n-eq0
returns-then-n-eq0 g c =
    let l = c.loop-at in
    let k = 65537 - l.at in
    let buf = c.read.new.buf in
    let none : take c.in_ok-n.n buf ≡ [] = ap (λ (n : ℕ). take n buf) c.if-n-eq0.true in
    let room : 0 < length buf = omega (arith, c.read.auto.buf) in
    let end = ended _ _ (take c.in_ok-n.n buf) none c.in_ok-n.ensures.bytes.0 (c.in_ok-n.ensures.bytes.1 c.if-n-eq0.true room) in
    let all = read_all (g.R.Read.remaining c.args.from.now) _ (take l.at l.list) 65537 l.invariant.2 end (omega (arith, length-take-le l.at l.list (omega arith))) in
    (l.invariant.0, rw (take-put_mid_below l.at k l.list buf l.at (omega arith) (omega arith)) all)

pub loop-at-preserved : goal.loop-at-preserved
loop-at-preserved g c =
    let l = c.loop-at in
    let k = 65537 - l.at in
    let n = c.in_ok-n.n in
    let buf = c.read.new.buf in
    let given : n ≤ length buf = omega (arith, c.in_ok-n.ensures.bound) in
    let held = consumes_more _ _ _ (take l.at l.list) (take n buf) l.invariant.2 c.in_ok-n.ensures.bytes.0 in
    (omega (arith, given, c.read.auto.buf), as_long l.at k l.list buf (omega (arith, c.read.auto.buf)) (omega arith) ∙ l.invariant.1, rw (front_more l.at n k l.list buf (omega arith) given) held)

pub returns : goal.returns
returns g c =
    let l = c.loop-at in
    (l.invariant.0, read_full _ _ (take l.at l.list) 65537 l.invariant.2 (length-take-le l.at l.list (omega arith) ∙ omega arith))

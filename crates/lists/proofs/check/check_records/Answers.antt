-- Invariant: the answer is what the bytes from the place on give, with what was counted before (`Reached`). Each turn passes a record, so that
-- what is left of the list falls.
use Rattle.std.proofs.Common.{arith, sym, ◌∙◌}
use Rattle.format.specs.Format.{header_size}
use Rattle.lists.proofs.Walk.{reached-start, refused_here, counts-most, stands_whole, next-inside, surplus, accepted_here, next-reached}
use Rattle.lists.proofs.check.check_records.Goals as goal

pub loop-counted-init : goal.loop-counted-init
loop-counted-init c =
    rw c.from-basis.ensures (reached-start c.args.header c.args.list.now header_size _ c.requires.0 (cc))

pub returns-in-Err : goal.returns-in-Err
returns-in-Err c = refused_here c.loop-counted.invariant c.in-Err.ensures

pub overflow_add-ceiling : goal.overflow_add-ceiling
overflow_add-ceiling c =
    let p = c.loop-counted.invariant in
    let inside = next-inside p c.in-Ok.ensures in
    record { fits = omega (arith, c.requires.1, p.inside, p.few, counts-most p c.in-Ok.ensures) }

pub bounds-list-place : goal.bounds-list-place
bounds-list-place c =
    let inside = next-inside c.loop-counted.invariant c.in-Ok.ensures in
    omega arith

pub next_place-place-requires : goal.next_place-place-requires
next_place-place-requires c =
    (c.loop-counted.invariant.inside, stands_whole c.loop-counted.invariant c.in-Ok.ensures)

pub returns-then-place-list : goal.returns-then-place-list
returns-then-place-list c =
    rw c.next_place-place.ensures
    (surplus c.loop-counted.invariant c.in-Ok.ensures (omega arith) (omega arith))

pub returns-then-kind-from : goal.returns-then-kind-from
returns-then-kind-from c =
    accepted_here c.loop-counted.invariant c.in-Ok.ensures (omega arith) (omega arith)

pub loop-counted-smaller : goal.loop-counted-smaller
loop-counted-smaller c =
    let inside = next-inside c.loop-counted.invariant c.in-Ok.ensures in
    omega arith

pub loop-counted-preserved : goal.loop-counted-preserved
loop-counted-preserved c =
    rw c.next_place-place.ensures (next-reached c.loop-counted.invariant c.in-Ok.ensures (λ k. c.if-kind-from.false (k ∙ sym c.from-in-loop-counted.ensures)))

-- The check decides: a refused list leaves the output, and an accepted one is squeezed.
use Rattle.std.proofs.Common.{sym, []}
use Rattle.std.proofs.lemmas.Result.{err_from_is_err_and}
use Rattle.lists.proofs.Accepted.{checked-accepted}
use Rattle.lists.proofs.Walkable.{list_walkable}
use Rattle.squeezed.proofs.Answers.{refused-claim, accepted-claim}
use Rattle.squeezed.proofs.Keeps.{keeps_by}
use Rattle.squeeze.proofs.squeeze.Goals as goal

pub invariant_of-squeeze_accepted : goal.invariant_of-squeeze_accepted
invariant_of-squeeze_accepted c = record { walkable = list_walkable (checked-accepted [] c.args.list.now _ _ (sym c.in_ok-header.ensures)) }

pub returns-in_err-header-clause-value : goal.returns-in_err-header-clause-value
returns-in_err-header-clause-value c =
    let p = err_from_is_err_and c.from_residual.result c.from_residual.ensures.1 in
    rw (p.1, p.2) (refused-claim c.args.list.now c.args.out.now _ c.in_err-header.ensures).0

pub returns-in_err-header-clause-out_after : goal.returns-in_err-header-clause-out_after
returns-in_err-header-clause-out_after c = (refused-claim c.args.list.now c.args.out.now _ c.in_err-header.ensures).1

pub returns-in_err-header-clause-keeps_by : goal.returns-in_err-header-clause-keeps_by
returns-in_err-header-clause-keeps_by c =
    let p = err_from_is_err_and c.from_residual.result c.from_residual.ensures.1 in
    let claim = refused-claim c.args.list.now c.args.out.now _ c.in_err-header.ensures in
    keeps_by c.args.list.now c.args.out.now c.args.out.now (rw (p.1, p.2) claim.0) claim.1

pub returns-clause-value : goal.returns-clause-value
returns-clause-value c =
    let found = checked-accepted [] c.args.list.now _ _ (sym c.in_ok-header.ensures) in
    (accepted-claim c.args.list.now _ found c.args.out.now c.squeeze_accepted.ensures.value c.squeeze_accepted.ensures.out_after).0

pub returns-clause-out_after : goal.returns-clause-out_after
returns-clause-out_after c =
    let found = checked-accepted [] c.args.list.now _ _ (sym c.in_ok-header.ensures) in
    (accepted-claim c.args.list.now _ found c.args.out.now c.squeeze_accepted.ensures.value c.squeeze_accepted.ensures.out_after).1

pub returns-clause-keeps_by : goal.returns-clause-keeps_by
returns-clause-keeps_by c =
    let found = checked-accepted [] c.args.list.now _ _ (sym c.in_ok-header.ensures) in
    let claim = accepted-claim c.args.list.now _ found c.args.out.now c.squeeze_accepted.ensures.value c.squeeze_accepted.ensures.out_after in
    keeps_by c.args.list.now c.args.out.now _ claim.0 claim.1

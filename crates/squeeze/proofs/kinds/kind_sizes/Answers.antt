-- Each element is the size of its kind, and there are as many as kinds.
use Rattle.std.proofs.Common.{rules}
use Rattle.squeeze.proofs.Walk.{kind-below}
use Rattle.squeeze.proofs.kinds.kind_sizes.Goals as goal

pub returns : goal.returns
returns c k some =
    let called = c.from_fn.ensures.items.at k 0 (kind-below k some) in
    search rules

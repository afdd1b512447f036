-- What a list is squeezed to is no longer than the list.
use Rattle.std.proofs.Common.{le-ltb, arith, length}
use Rattle.format.specs.Format.{basis_of}
use Rattle.squeezed.proofs.ListBack.{list-size}
use Rattle.squeezed.proofs.Shorter.{kept-few}
use Rattle.squeeze.specs.inner.Source.{kept_in, squeezed_source}
use Rattle.squeeze.proofs.source.Source.overflows.Goals as goal

pub returns-else-n-self : goal.returns-else-n-self
returns-else-n-self c =
    let a = c.args.self in
    let few = kept-few a.list.now (basis_of a.header) a.walkable in
    rw (le-ltb c.args.n (length a.list.now) (omega arith), le-ltb c.args.n (length (squeezed_source a)) (omega (arith, list-size a.header (kept_in a))))

-- What a list is squeezed to is no longer than the list.
use Rattle.std.proofs.Common.{arith}
use Rattle.format.specs.Format.{basis_of}
use Rattle.squeezed.proofs.ListBack.{list-size}
use Rattle.squeezed.proofs.Shorter.{kept-few}
use Rattle.squeeze.specs.inner.Source.{kept_in}
use Rattle.squeeze.proofs.source.Source.squeezed_length.Goals as goal

pub put_into-requires : goal.put_into-requires
put_into-requires c =
    let a = c.args.self in
    omega (arith, list-size a.header (kept_in a), kept-few a.list.now (basis_of a.header) a.walkable, a.walkable.most)

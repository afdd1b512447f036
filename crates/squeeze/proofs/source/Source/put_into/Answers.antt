-- The header is the front of its array, and behind it stands what is kept of the records.
use Rattle.std.proofs.Common.{◌≡◌, ap, length, take, arith}
use Rattle.format.specs.Format.{header_bytes}
use Rattle.squeezed.specs.Squeeze.{list_bytes}
use Rattle.squeezed.proofs.ListBack.{list-size}
use Rattle.squeeze.specs.inner.Source.{kept_in}
use Rattle.squeeze.proofs.Took.{take_padded, took_is, took_then}
use Rattle.squeeze.proofs.source.Source.put_into.Goals as goal

pub put-requires : goal.put-requires
unfolding header_bytes
put-requires g c =
    let front : take 10 c.header_bytes-bytes.result ≡ header_bytes c.args.self.header = rw c.header_bytes-bytes.ensures (take_padded (header_bytes c.args.self.header)) in
    omega (arith, c.requires, ap length front, list-size c.args.self.header (kept_in c.args.self))

pub put_records-requires : goal.put_records-requires
unfolding header_bytes
put_records-requires g c =
    let front : take 10 c.header_bytes-bytes.result ≡ header_bytes c.args.self.header = rw c.header_bytes-bytes.ensures (take_padded (header_bytes c.args.self.header)) in
    omega (arith, c.requires, ap length front, c.put.ensures.end, c.put.ensures.most, list-size c.args.self.header (kept_in c.args.self))

pub returns : goal.returns
unfolding header_bytes list_bytes
returns g c =
    let front : take 10 c.header_bytes-bytes.result ≡ header_bytes c.args.self.header = rw c.header_bytes-bytes.ensures (take_padded (header_bytes c.args.self.header)) in
    took_then g.met.T.Target.joins c.requires (took_is front c.put.ensures) c.put_records.ensures

-- What is printed for the front that was read is printed for all that the reader has.
use Rattle.std.proofs.Common.{take}
use Rattle.std.specs.Io.KnownBytes.{Appends}
use Rattle.print.proofs.Long.{of_known}
use Rattle.print.proofs.print_list.Goals as goal

pub returns : goal.returns
returns g c =
    of_known c.write_list.result (g.R.Read.remaining c.args.from.now) (take c.in_ok-n.n c.read_list.new.list) _
    (Appends (g.W.Write.contents c.args.to.now) (g.W.Write.contents c.write_list.new.to))
    c.in_ok-n.ensures.1 c.write_list.ensures

-- By offsets the code exchanges the ends and then orders them as the definition does by coordinates, and in range both are in one order.
use Rattle.limits.proofs.Limits.{line_lawful}
use Rattle.bands.proofs.Framing.{frame_is}
use Rattle.bands.proofs.frame_of.Goals as goal

pub returns : goal.returns
returns c =
    frame_is c.args.line (line_lawful c.args.line c.requires)
    (rw (c.ordered.ensures, c.exchanged.ensures, c.abs_diff-2.ensures, c.abs_diff.ensures, c.from-e.ensures) at c.rising_frame.ensures)

-- With t at most 0 there is no corner: the middle row has the whole rise, and the lower one what is left of the whole.
use Rattle.bands.proofs.Closed.{rise_le}
use Rattle.bands.proofs.flat_rows.Goals as goal

pub overflow_sub-result : goal.overflow_sub-result
overflow_sub-result c =
    let a = c.args in
    let pre = c.requires in
    rw (c.rise-n.ensures, pre.4) (rise_le a.exact a.l a.s a.r pre.1 pre.2 pre.3)

-- A level edge is brought into the row; of another the strips of its two sides are taken.
use Rattle.std.proofs.Common.{arith}
use Rattle.edges.proofs.Found.{found-level, found_slanted}
use Rattle.edges.proofs.under_at.Goals as goal

pub returns-then-from-to : goal.returns-then-from-to
returns-then-from-to c =
    let a = c.args in
    found-level a.h a.from a.to a.z c.requires.0 c.requires.4 (omega arith)
    c.saturating_sub-left.ensures c.min.ensures

pub returns : goal.returns
returns c =
    let a = c.args in
    found_slanted a.h a.from a.to a.z c.requires.0 c.requires.4 (λ e. omega arith)
    c.saturating_sub-left.ensures
    c.saturating_sub-right.ensures
    c.strip_of.ensures
    c.strip_of-2.ensures
    c.abs_diff.ensures

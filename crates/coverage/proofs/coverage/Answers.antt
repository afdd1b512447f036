-- A query without a refusal has a lawful shape and a pixel in range, which is all that the ratio of a kind asks.
use Rattle.std.proofs.Common.{sym}
use Rattle.coverage.proofs.Query.{lawful}
use Rattle.coverage.proofs.coverage.Goals as goal

pub line_ratio-requires : goal.line_ratio-requires
line_ratio-requires c =
    let q = lawful c.args.shape c.ranges.x c.ranges.y (sym (rw c.in_ok-check_query.was at c.check_query.ensures)) in
    (rw c.in-Line.is at q.0, q.1, q.2)

pub disc_ratio-requires : goal.disc_ratio-requires
disc_ratio-requires c =
    let q = lawful c.args.shape c.ranges.x c.ranges.y (sym (rw c.in_ok-check_query.was at c.check_query.ensures)) in
    (rw c.in-Disc.is at q.0, q.1, q.2)

pub ring_ratio-requires : goal.ring_ratio-requires
ring_ratio-requires c =
    let q = lawful c.args.shape c.ranges.x c.ranges.y (sym (rw c.in_ok-check_query.was at c.check_query.ensures)) in
    (rw c.in-Ring.is at q.0, q.1, q.2)

pub triangle_cover-requires : goal.triangle_cover-requires
triangle_cover-requires c =
    let q = lawful c.args.shape c.ranges.x c.ranges.y (sym (rw c.in_ok-check_query.was at c.check_query.ensures)) in
    (rw c.in-Triangle.is at q.0, q.1, q.2)

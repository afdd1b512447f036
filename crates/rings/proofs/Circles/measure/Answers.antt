-- The outer circle tells where the row is whole and where it ends, the inner one where its hole begins and ends.
use Rattle.rings.proofs.Chords.{measured_solid, measured_hollow}
use Rattle.rings.proofs.Circles.measure.Goals as goal

pub returns-then-self-b : goal.returns-then-self-b
returns-then-self-b c =
    let whole = c.whole_width-whole.ensures in
    let clear = c.covered_width-end.ensures in
    measured_solid c.args.self.now c.args.b _ _ c.if-self-b.true clear.0 (record { whole = whole; clear = clear.1 })

pub returns : goal.returns
returns c =
    let whole = c.whole_width-whole.ensures in
    let end = c.covered_width-end.ensures in
    let hole = c.whole_width.ensures in
    let edge = c.covered_width.ensures in
    rw (c.max.ensures, c.min-edge.ensures)
    (measured_hollow c.args.self.now c.args.b _ _ _ _ end.0
    (record { whole = whole; clear = end.1 })
    (record { whole = hole; clear = edge.1 }))

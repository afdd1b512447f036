-- Outside its bands the row has nothing.
use Rattle.std.proofs.Common.{arith}
use Rattle.page.proofs.Drawn.{drawn-count}
use Rattle.circles.proofs.Row.{left-band, right-band, solid_row, hollow_row}
use Rattle.circles.proofs.rows.draw_bands.Goals as goal

pub returns-then-row-eq0 : goal.returns-then-row-eq0
returns-then-row-eq0 g c =
    let r = c.requires.ready in
    solid_row c.args.circles.now c.args.y r.0.lawful (r.2, r.3) c.requires.measured
    (rw (c.left_at-p.ensures, c.right_at-s.ensures) at c.draw_band.ensures)

pub draw_band-left-requires-clause-band : goal.draw_band-left-requires-clause-band
draw_band-left-requires-clause-band g c =
    let r = c.requires.ready in
    rw (c.left_at-p.ensures, c.left_at-q.ensures, c.left_at-left_in.ensures, c.left_at-hole_from.ensures)
    (left-band c.args.circles.now c.args.y r.0.lawful (r.2, r.3) c.requires.measured)

pub draw_band-right-requires-clause-band : goal.draw_band-right-requires-clause-band
draw_band-right-requires-clause-band g c =
    let r = c.requires.ready in
    rw (c.right_at-hole_end.ensures, c.right_at-right_in.ensures, c.right_at-r.ensures, c.right_at-s.ensures)
    (right-band c.args.circles.now c.args.y r.0.lawful (r.2, r.3) c.requires.measured)

pub overflow_add-result : goal.overflow_add-result
overflow_add-result g c =
    let law = c.requires.ready.0.lawful in
    omega (arith, drawn-count law c.draw_band-left.ensures, drawn-count law c.draw_band-right.ensures)

pub returns : goal.returns
returns g c =
    let r = c.requires.ready in
    hollow_row c.args.circles.now c.args.y r.0.lawful (r.2, r.3) c.requires.measured
    (rw (c.left_at-p.ensures, c.left_at-hole_from.ensures) at c.draw_band-left.ensures)
    (rw (c.right_at-hole_end.ensures, c.right_at-s.ensures) at c.draw_band-right.ensures)

-- Left and right of its columns a line covers nothing; in a column the closed rows have what the line is drawn with, at the pixel's row.
use Rattle.std.proofs.Common.{◌≡◌, ◌∙◌}
use Rattle.shapes.specs.declared.Shape.TheVariants.{Line as line}
use Rattle.coverage.specs.Coverage.{drawn_n}
use Rattle.coverage.proofs.Pixel.{whole-drawn, drawn-inside, seen, row_near, seen-outside, seen-inside}
use Rattle.coverage.proofs.line_ratio.Goals as goal

pub returns-then-not-contains : goal.returns-then-not-contains
returns-then-not-contains c =
    let f = c.frame_of-f.ensures in
    let s = seen c.frame_of-f.ensures c.ranges.x c.ranges.y c.requires.1 c.requires.2 c.new-p.ensures c.turned-a.ensures in
    let n = seen-outside f s c.if-not-contains.ensures.cases in
    let d = c.whole_of-d.ensures ∙ whole-drawn f in
    λ i. record { n = n i; d = d i }

pub row-requires : goal.row-requires
row-requires c =
    let f = c.frame_of-f.ensures in
    (f.high, row_near f (seen c.frame_of-f.ensures c.ranges.x c.ranges.y c.requires.1 c.requires.2 c.new-p.ensures c.turned-a.ensures))

pub returns : goal.returns
returns c =
    let a = c.args in
    let f = c.frame_of-f.ensures in
    let s = seen c.frame_of-f.ensures c.ranges.x c.ranges.y c.requires.1 c.requires.2 c.new-p.ensures c.turned-a.ensures in
    let column = c.crossing_at-c.ensures in
    let inside = seen-inside f s c.if-not-contains.ensures.cases in
    let n : c.at-n.result ≡ drawn_n (line a.line) a.x a.y =
    rw (c.at-n.ensures, c.rows_of-rows.ensures, column.0, column.1, c.row.ensures.0, s.along, s.across)
    (drawn-inside f s.x_in s.y_in (rw s.along at inside.0) (rw s.along at inside.1)) in
    let d = c.whole_of-d.ensures ∙ whole-drawn f in
    λ i. record { n = n i; d = d i }

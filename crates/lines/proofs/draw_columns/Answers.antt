-- The columns inside the clip lie among all others, of which some come before and some after: three parts, one after the other.
use Rattle.std.proofs.Common.{◌∙◌, sym, arith}
use Rattle.coverage.proofs.Pixel.{whole-drawn}
use Rattle.columns.proofs.Fits.{whole-fits}
use Rattle.lines.proofs.Walk.{inner-at, three_parts}
use Rattle.lines.proofs.draw_columns.Goals as goal

pub ink-ink-requires : goal.ink-ink-requires
ink-ink-requires g c =
    let f = c.requires.1 in
    rw c.whole_of-d.ensures (whole-fits c.args.line.exact c.args.f.l c.args.f.s f.long f.short (omega (arith, f.right)))

pub draw_walk-inner-requires-clause-walking : goal.draw_walk-inner-requires-clause-walking
draw_walk-inner-requires-clause-walking g c =
    λ l at here least less. ((here, c.ink-ink.ensures.whole, inner-at here c.inside_of-inside.ensures.inside least less), λ to m p. p.2)

pub returns : goal.returns
returns g c =
    let part = c.inside_of-inside.ensures in
    rw (sym (c.whole_of-d.ensures ∙ whole-drawn c.requires.1), sym c.ink-ink.ensures.blends)
    (three_parts part.least part.order part.most c.draw_walk-lower.ensures c.draw_walk-inner.ensures c.draw_walk-upper.ensures)

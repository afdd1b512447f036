-- No coverage keeps a byte, as an ink does.
use Rattle.std.proofs.Common.{sym, ◌∙◌, arith}
use Rattle.lights.specs.inner.Palette.{lights_in}
use Rattle.lights.proofs.LightsIn.{lights-fit}
use Rattle.page.specs.inner.Ink.{chord_whole}
use Rattle.page.proofs.Paint.{dot-blend}
use Rattle.page.proofs.uneven.UnevenChordInkInk.over.Goals as goal

pub returns : goal.returns
returns c =
    let s = c.args.self in
    let p = s.of.palette.now in
    c.blend_uneven_512.ensures
    ∙ sym (dot-blend (lights_in p) s.level 512 c.args.n c.args.u (lights-fit p s.of.filled) (omega (arith, c.ranges.u)) chord_whole.0)

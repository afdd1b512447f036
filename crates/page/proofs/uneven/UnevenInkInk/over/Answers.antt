-- No coverage keeps a byte, as an ink does.
use Rattle.std.proofs.Common.{sym, ◌∙◌, arith}
use Rattle.lights.specs.inner.Palette.{lights_in}
use Rattle.lights.proofs.LightsIn.{lights-fit}
use Rattle.page.proofs.Paint.{dot-blend}
use Rattle.page.proofs.uneven.UnevenInkInk.over.Goals as goal

pub returns : goal.returns
returns c =
    let s = c.args.self in
    let p = s.of.palette.now in
    c.blend_uneven.ensures
    ∙ sym (dot-blend (lights_in p) s.level s.d c.args.n c.args.u (lights-fit p s.of.filled) (omega (arith, c.ranges.u)) s.some.0)

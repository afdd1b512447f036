-- In lights at even steps a blend is the blend of codes, and no coverage keeps a byte, as an ink does.
use Rattle.std.proofs.Common.{sym, ◌∙◌, arith}
use Rattle.blending.proofs.EvenSteps.{blend_steps}
use Rattle.page.specs.inner.Ink.{chord_whole}
use Rattle.page.proofs.Paint.{dot-blend}
use Rattle.page.proofs.even.EvenChordInkInk.over.Goals as goal

pub returns : goal.returns
returns c =
    let s = c.args.self in
    let lights = s.of.lights.now in
    let u = c.args.u in
    let n = c.args.n in
    c.blend_code_512.ensures
    ∙ sym (blend_steps lights s.of.fit s.of.even u s.level n 512 (omega (arith, c.ranges.u)) s.byte c.requires.part chord_whole.0)
    ∙ sym (dot-blend lights s.level 512 n u s.of.fit (omega (arith, c.ranges.u)) chord_whole.0)

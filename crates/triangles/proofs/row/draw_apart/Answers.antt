-- The left edge, what is whole, and the right edge, one after the other.
use Rattle.std.proofs.Common.{◌∙◌, sym, arith, rules}
use Rattle.triangles.specs.inner.Side.{left_of}
use Rattle.triangles.specs.inner.Row.{right_of}
use Rattle.triangles.proofs.Apart.{apart-drawn, filled-count}
use Rattle.triangles.proofs.row.draw_apart.Goals as goal

pub overflow_add-result : goal.overflow_add-result
overflow_add-result g c =
    let law = c.requires.0.lawful in
    let few = filled-count c.args.view _ c.args.y _ _ c.fill_row-whole.ensures law in
    omega (arith, law.x-most, law.w-most, few, c.clamp_offset-q.ensures, c.blend_columns-left.ensures.few)

pub overflow_add-result-2 : goal.overflow_add-result-2
overflow_add-result-2 g c =
    let law = c.requires.0.lawful in
    let few = filled-count c.args.view _ c.args.y _ _ c.fill_row-whole.ensures law in
    omega (arith, law.x-most, law.w-most, few, c.clamp_offset-q.ensures, c.blend_columns-left.ensures.few, c.clamp_offset-s.ensures, c.blend_columns-right.ensures.few)

pub returns : goal.returns
returns g c =
    let a = c.args in
    let i = a.inks.now in
    let ready = c.requires.0 in
    let ink = g.I.Ink.blends in
    apart-drawn ready c.requires.1 (ink i.both) (ink i.first) (ink i.second) ready.over ready.over' i.whole i.alike i.alike_too
    (λ u. g.met.I.Ink.covers i.both u ∙ sym c.level.ensures)
    c.clamp_offset-p.ensures c.clamp_offset-q.ensures c.clamp_offset-r.ensures c.clamp_offset-s.ensures
    (c.blend_columns-left.ensures.drawn (right_of a.a) (λ z k h p. search rules)) c.fill_row-whole.ensures (c.blend_columns-right.ensures.drawn (left_of a.b) (λ z k h p. search rules))

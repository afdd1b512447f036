-- There are no columns, or the stretch is lent to `blend_edge`, and the rest of the page stays as it was.
use Rattle.std.proofs.Common.{◌≡◌, ◌∙◌, ◌+◌, ◌-◌, ◌*◌, ◌≤◌, length, take, drop, arith}
use borrow.Rule.Slice.PartMut.{mid_len}
use Rattle.page.proofs.Clip.{clip_zero}
use Rattle.page.proofs.Paint.{row-end}
use Rattle.page.proofs.Drawn.{drawn-none, drawn_stretch}
use Rattle.rings.specs.inner.Placed.{cover_on}
use Rattle.circles.proofs.rows.draw_edge.Goals as goal

pub returns-then-end-from : goal.returns-then-end-from
returns-then-end-from g c = drawn-none _ _ _ _ _ (clip_zero _ _ _ _ _ (λ x z i. absurd (omega (arith, i.left, i.right))))

pub returns : goal.returns
returns g c =
    let a = c.args in
    let first = a.y * a.view.w + a.from in
    let last = a.y * a.view.w + a.end in
    let inside : a.y * a.view.w + a.view.w ≤ a.view.h * a.view.w = row-end a.y a.view.h a.view.w (omega arith) in
    let lent : length (take (last - first) (drop first a.page.now)) ≡ a.end - a.from = mid_len first last a.page.now (omega (arith, inside)) ∙ omega arith in
    let b = c.apart_of-b.ensures in
    let e = c.blend_edge.ensures in
    drawn_stretch a.view.w a.view.h (g.I.Ink.blends a.ink) a.from a.end a.y (cover_on a.circles.now) a.page.now _ _
    (omega arith) (omega arith) (omega arith) (omega arith) (rw b at e.stretch_after) (rw (b, lent) at e.value)

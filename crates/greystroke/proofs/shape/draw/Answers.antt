-- Each kind is drawn by the library as the shape that is taken, and a number of no kind is refused.
use Rattle.std.proofs.Common.{refl, arith}
use Rattle.arguments.specs.Taken.{taken_of}
use Rattle.greystroke.specs.Shape.{shape_drawn, page_drawn}
use Rattle.greystroke.proofs.ByKind.{line_taken, disc_taken, ring_taken, triangle_taken, none_taken}
use Rattle.greystroke.proofs.shape.draw.Goals as goal

pub returns-in-5-clause-value : goal.returns-in-5-clause-value
unfolding taken_of shape_drawn
returns-in-5-clause-value c =
    rw (disc_taken c.args.shape.kind c.args.shape.numbers c.in-5.is)
    (rw (c.disc.ensures, c.from-kept.ensures, c.unsigned-h.ensures, c.unsigned-w.ensures) at c.draw_shape.ensures.value)

pub returns-in-5-clause-page_after : goal.returns-in-5-clause-page_after
unfolding taken_of page_drawn
returns-in-5-clause-page_after c =
    rw (disc_taken c.args.shape.kind c.args.shape.numbers c.in-5.is)
    (rw (c.disc.ensures, c.from-kept.ensures, c.unsigned-h.ensures, c.unsigned-w.ensures) at c.draw_shape.ensures.page_after)

pub returns-in-6-clause-value : goal.returns-in-6-clause-value
unfolding taken_of shape_drawn
returns-in-6-clause-value c =
    rw (ring_taken c.args.shape.kind c.args.shape.numbers c.in-6.is)
    (rw (c.ring.ensures, c.from-kept.ensures, c.unsigned-h.ensures, c.unsigned-w.ensures) at c.draw_shape-in-6.ensures.value)

pub returns-in-6-clause-page_after : goal.returns-in-6-clause-page_after
unfolding taken_of page_drawn
returns-in-6-clause-page_after c =
    rw (ring_taken c.args.shape.kind c.args.shape.numbers c.in-6.is)
    (rw (c.ring.ensures, c.from-kept.ensures, c.unsigned-h.ensures, c.unsigned-w.ensures) at c.draw_shape-in-6.ensures.page_after)

pub returns-in-10-clause-value : goal.returns-in-10-clause-value
unfolding taken_of shape_drawn
returns-in-10-clause-value c =
    rw (triangle_taken c.args.shape.kind c.args.shape.numbers c.in-10.is)
    (rw (c.triangle.ensures, c.from-kept.ensures, c.unsigned-h.ensures, c.unsigned-w.ensures) at c.draw_shape-in-10.ensures.value)

pub returns-in-10-clause-page_after : goal.returns-in-10-clause-page_after
unfolding taken_of page_drawn
returns-in-10-clause-page_after c =
    rw (triangle_taken c.args.shape.kind c.args.shape.numbers c.in-10.is)
    (rw (c.triangle.ensures, c.from-kept.ensures, c.unsigned-h.ensures, c.unsigned-w.ensures) at c.draw_shape-in-10.ensures.page_after)

pub returns-in-3-clause-value : goal.returns-in-3-clause-value
unfolding taken_of shape_drawn
returns-in-3-clause-value c =
    rw (line_taken c.args.shape.kind c.args.shape.numbers (omega arith) (omega arith))
    (rw (c.line.ensures, c.from-kept.ensures, c.unsigned-h.ensures, c.unsigned-w.ensures) at c.draw_shape-in-3.ensures.value)

pub returns-in-3-clause-page_after : goal.returns-in-3-clause-page_after
unfolding taken_of page_drawn
returns-in-3-clause-page_after c =
    rw (line_taken c.args.shape.kind c.args.shape.numbers (omega arith) (omega arith))
    (rw (c.line.ensures, c.from-kept.ensures, c.unsigned-h.ensures, c.unsigned-w.ensures) at c.draw_shape-in-3.ensures.page_after)

pub returns-in_default-clause-value : goal.returns-in_default-clause-value
unfolding taken_of shape_drawn
returns-in_default-clause-value c = rw (none_taken c.args.shape.kind c.args.shape.numbers (λ e. omega arith) (λ e. omega arith) (λ e. omega arith) (λ e. omega arith) (λ e. omega arith)) refl

pub returns-in_default-clause-page_after : goal.returns-in_default-clause-page_after
unfolding taken_of page_drawn
returns-in_default-clause-page_after c = rw (none_taken c.args.shape.kind c.args.shape.numbers (λ e. omega arith) (λ e. omega arith) (λ e. omega arith) (λ e. omega arith) (λ e. omega arith)) refl

pub returns-in_default-2-clause-value : goal.returns-in_default-2-clause-value
unfolding taken_of shape_drawn
returns-in_default-2-clause-value c = rw (none_taken c.args.shape.kind c.args.shape.numbers (λ e. omega arith) (λ e. omega arith) (λ e. omega arith) (λ e. omega arith) (λ e. omega arith)) refl

pub returns-in_default-2-clause-page_after : goal.returns-in_default-2-clause-page_after
unfolding taken_of page_drawn
returns-in_default-2-clause-page_after c = rw (none_taken c.args.shape.kind c.args.shape.numbers (λ e. omega arith) (λ e. omega arith) (λ e. omega arith) (λ e. omega arith) (λ e. omega arith)) refl

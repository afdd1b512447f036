-- A shape is drawn only where nothing is refused, and then in fit lights.
use Rattle.std.proofs.Common.{sym}
use Rattle.draw.proofs.OfKind.{all-lawful, kind-drawn}
use Rattle.draw.proofs.draw_shape.Goals as goal

pub invariant_of-draw : goal.invariant_of-draw
invariant_of-draw g c =
    let a = c.args in
    let s = g.F.Figure.shape a.figure in
    let found = sym (rw c.in_ok-steps.was at c.check_draw.ensures.value a.lights.now s c.steps_of.ensures c.check.ensures) in
    let lawful = all-lawful a.w a.h a.lights.now a.clip a.level s a.page.now found in
    let known = rw c.in_ok-steps.was at c.check_draw.ensures.steps in
    record { fit = lawful.0; even = c.steps_of.ensures.even_is (rw c.in-Even.is at known) }

pub draw-requires : goal.draw-requires
draw-requires g c =
    let a = c.args in
    let s = g.F.Figure.shape a.figure in
    let found = sym (rw c.in_ok-steps.was at c.check_draw.ensures.value a.lights.now s c.steps_of.ensures c.check.ensures) in
    let lawful = all-lawful a.w a.h a.lights.now a.clip a.level s a.page.now found in
    (rw c.view_of-view.ensures lawful.1, lawful.2)

pub draw_uneven-requires : goal.draw_uneven-requires
draw_uneven-requires g c =
    let a = c.args in
    let s = g.F.Figure.shape a.figure in
    let found = sym (rw c.in_ok-steps.was at c.check_draw.ensures.value a.lights.now s c.steps_of.ensures c.check.ensures) in
    let lawful = all-lawful a.w a.h a.lights.now a.clip a.level s a.page.now found in
    (lawful.0, rw c.view_of-view.ensures lawful.1, lawful.2)

pub returns-in-Even-clause-value : goal.returns-in-Even-clause-value
returns-in-Even-clause-value g c =
    let a = c.args in
    let s = g.F.Figure.shape a.figure in
    let found = sym (rw c.in_ok-steps.was at c.check_draw.ensures.value a.lights.now s c.steps_of.ensures c.check.ensures) in
    (kind-drawn a.w a.h a.lights.now a.clip a.level s a.page.now found c.view_of-view.ensures c.draw.ensures).0

pub returns-in-Even-clause-page_after : goal.returns-in-Even-clause-page_after
returns-in-Even-clause-page_after g c =
    let a = c.args in
    let s = g.F.Figure.shape a.figure in
    let found = sym (rw c.in_ok-steps.was at c.check_draw.ensures.value a.lights.now s c.steps_of.ensures c.check.ensures) in
    (kind-drawn a.w a.h a.lights.now a.clip a.level s a.page.now found c.view_of-view.ensures c.draw.ensures).1

pub returns-in-Uneven-clause-value : goal.returns-in-Uneven-clause-value
returns-in-Uneven-clause-value g c =
    let a = c.args in
    let s = g.F.Figure.shape a.figure in
    let found = sym (rw c.in_ok-steps.was at c.check_draw.ensures.value a.lights.now s c.steps_of.ensures c.check.ensures) in
    (kind-drawn a.w a.h a.lights.now a.clip a.level s a.page.now found c.view_of-view.ensures c.draw_uneven.ensures).0

pub returns-in-Uneven-clause-page_after : goal.returns-in-Uneven-clause-page_after
returns-in-Uneven-clause-page_after g c =
    let a = c.args in
    let s = g.F.Figure.shape a.figure in
    let found = sym (rw c.in_ok-steps.was at c.check_draw.ensures.value a.lights.now s c.steps_of.ensures c.check.ensures) in
    (kind-drawn a.w a.h a.lights.now a.clip a.level s a.page.now found c.view_of-view.ensures c.draw_uneven.ensures).1

-- The check decides: a refused list leaves the page, and an accepted one is drawn on the W-as-H bytes that are lent.
use Rattle.std.proofs.Common.{◌≡◌, length, ◌∙◌}
use Rattle.std.specs.Prelude.{Ok}
use Rattle.lights.proofs.Rising.{facts_fit}
use Rattle.lists.specs.List.{checked_of}
use Rattle.limits.specs.Refusal.{number_of}
use Rattle.drawing.proofs.Claim.{refused-claim, fit, lent_room, lent_length, lent_drawable, accepted-claim}
use Rattle.drawing.proofs.draw_list.Goals as goal

pub unwrap-known-requires : goal.unwrap-known-requires
unwrap-known-requires c =
    let lights = c.args.lights.now in
    let list = c.args.list.now in
    let page = c.args.page.now in
    let header = c.in-Ok.field-0.header in
    let ceiling = c.in-Ok.field-0.ceiling in
    let accepted : Ok (record { header = header; ceiling = ceiling }) ≡ checked_of list (length page) lights = rw c.in-Ok.is at c.check_tried.ensures in
    c.steps_of-steps.ensures.fit_is ∙ facts_fit lights (fit lights list page header ceiling accepted)

pub slice_bounds-paint_in-end : goal.slice_bounds-paint_in-end
slice_bounds-paint_in-end c =
    let lights = c.args.lights.now in
    let list = c.args.list.now in
    let page = c.args.page.now in
    let header = c.in-Ok.field-0.header in
    let ceiling = c.in-Ok.field-0.ceiling in
    let accepted : Ok (record { header = header; ceiling = ceiling }) ≡ checked_of list (length page) lights = rw c.in-Ok.is at c.check_tried.ensures in
    lent_room lights list page header ceiling accepted

pub slice_bounds-paint_in-end-in-Ok : goal.slice_bounds-paint_in-end-in-Ok
slice_bounds-paint_in-end-in-Ok c =
    let lights = c.args.lights.now in
    let list = c.args.list.now in
    let page = c.args.page.now in
    let header = c.in-Ok.field-0.header in
    let ceiling = c.in-Ok.field-0.ceiling in
    let accepted : Ok (record { header = header; ceiling = ceiling }) ≡ checked_of list (length page) lights = rw c.in-Ok.is at c.check_tried.ensures in
    lent_length lights list page header ceiling accepted

pub paint_in-touched-requires : goal.paint_in-touched-requires
paint_in-touched-requires c =
    let lights = c.args.lights.now in
    let list = c.args.list.now in
    let page = c.args.page.now in
    let header = c.in-Ok.field-0.header in
    let ceiling = c.in-Ok.field-0.ceiling in
    let accepted : Ok (record { header = header; ceiling = ceiling }) ≡ checked_of list (length page) lights = rw c.in-Ok.is at c.check_tried.ensures in
    let spaced = rw c.unwrap-known.ensures at c.steps_of-steps.ensures in (
      fit lights list page header ceiling accepted,
      spaced,
      rw c.from-basis.ensures (lent_drawable lights list page header ceiling accepted),
    )

pub returns-in-Err : goal.returns-in-Err
returns-in-Err c =
    let e = rw c.in-Err.is at c.check_tried.ensures in
    refused-claim c.args.lights.now c.args.list.now c.args.page.now (number_of c.in-Err.refused.refusal) c.in-Err.refused.place e

pub returns-in-Ok : goal.returns-in-Ok
returns-in-Ok c =
    let lights = c.args.lights.now in
    let list = c.args.list.now in
    let page = c.args.page.now in
    let header = c.in-Ok.field-0.header in
    let ceiling = c.in-Ok.field-0.ceiling in
    let accepted : Ok (record { header = header; ceiling = ceiling }) ≡ checked_of list (length page) lights = rw c.in-Ok.is at c.check_tried.ensures in
    accepted-claim lights list page header ceiling accepted (rw c.from-basis.ensures at c.paint_in-touched.ensures)

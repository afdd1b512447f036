-- At each record what is left, drawn on the page as it is and added to the count, makes the whole: an end leaves nothing.
use mathlib.Core.Path.{refl, sym, ap, ◌∙◌}
use native.Mathlib.Omega.{arith}
use lib.ListN.{length}
use Rattle.drawing.proofs.Shapes.{length-shapes}
use Rattle.lists.proofs.Left.{left-inside, left_stands, left-whole}
use Rattle.drawing.proofs.Records.{remaining_start, remaining_end, lawful_record, remaining_next}
use Rattle.drawing.proofs.draw_records.Goals as goal

pub loop-palette-init : goal.loop-palette-init
loop-palette-init g c =
    (rw c.start-settings.ensures (remaining_start (g.P.Palette.lights c.args.palette) c.args.basis c.args.list.now c.args.page.now c.requires), refl)

pub bounds-list-place : goal.bounds-list-place
bounds-list-place g c = (left-inside c.loop-palette.invariant.0.left).0

pub returns-then-kind-from : goal.returns-then-kind-from
returns-then-kind-from g c =
    let e = remaining_end c.loop-palette.invariant.0 (c.if-kind-from.true ∙ c.from.ensures) in
    record { page = e.0; counts = e.1; lawful = e.2 }

pub decode-rec-requires : goal.decode-rec-requires
decode-rec-requires g c = left-whole c.loop-palette.invariant.0.left

pub draw_record-own-requires : goal.draw_record-own-requires
draw_record-own-requires g c =
    let law = lawful_record c.loop-palette.invariant.0 c.decode-rec.ensures in
    (law.0, law.1)

pub next_place-place-requires : goal.next_place-place-requires
next_place-place-requires g c =
    let p = c.loop-palette.invariant.0.left in
    let i = left-inside p in
    (omega arith, left_stands p)

pub loop-palette-smaller : goal.loop-palette-smaller
loop-palette-smaller g c =
    let i = left-inside c.loop-palette.invariant.0.left in
    let e = c.next_place-place.ensures in
    omega arith

pub loop-palette-preserved : goal.loop-palette-preserved
loop-palette-preserved g c =
    let p = c.loop-palette.invariant in
    let done = c.draw_record-own.ensures in (
      remaining_next p.0 c.decode-rec.ensures (λ e. c.if-kind-from.false (e ∙ sym c.from.ensures)) (done.0 _) done.1 done.2 c.apply.ensures c.next_place-place.ensures,
      ap length (done.0 0).page ∙ length-shapes _ _ _ _ ∙ p.1,
    )

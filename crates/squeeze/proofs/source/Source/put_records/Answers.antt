-- A setting is brought in force; a shape is put behind the settings that differ; the end record is put last.
use Rattle.std.proofs.Common.{sym, ◌∙◌, arith}
use Rattle.lists.proofs.Left.{left-inside, left_stands, left-whole}
use Rattle.squeeze.proofs.Walk.{kind-below, squeezing_more, taking_start, taking_setting, taking_shape-room, taking_shape, taking_end-room, taking_end}
use Rattle.squeeze.proofs.source.Source.put_records.Goals as goal

pub loop-place-init : goal.loop-place-init
loop-place-init g c =
    let first = taking_start (g.met.T.Target.none c.args.target.now) c.args.self.walkable in
    rw (c.start-settings.ensures, c.from.ensures) first

pub overflow_add-place : goal.overflow_add-place
overflow_add-place g c =
    let inside = left-inside c.loop-place.invariant.walk.left in
    record { fits = omega (arith, inside.0, c.args.self.walkable.most) }

pub decode-rec-requires : goal.decode-rec-requires
decode-rec-requires g c = left-whole c.loop-place.invariant.walk.left

pub next_place-place-requires : goal.next_place-place-requires
next_place-place-requires g c =
    let inside = left-inside c.loop-place.invariant.walk.left in
    (omega (arith, inside.0), left_stands c.loop-place.invariant.walk.left)

pub loop-place-smaller-then-is_setting : goal.loop-place-smaller-then-is_setting
loop-place-smaller-then-is_setting g c =
    let inside = left-inside c.loop-place.invariant.walk.left in
    omega (arith, inside.0, inside.2, c.next_place-place.ensures)

pub loop-place-preserved-then-is_setting : goal.loop-place-preserved-then-is_setting
loop-place-preserved-then-is_setting g c =
    let turn = c.loop-place.invariant in
    taking_setting turn (squeezing_more turn.walk c.loop-place-test.true) c.decode-rec.ensures c.next_place-place.ensures
    (sym c.is_setting.ensures ∙ c.if-is_setting.true) c.apply.ensures

pub bounds-sizes-kind : goal.bounds-sizes-kind
bounds-sizes-kind g c = kind-below _ (left-inside c.loop-place.invariant.walk.left).2

pub overflow_add-next : goal.overflow_add-next
overflow_add-next g c =
    let inside = left-inside c.loop-place.invariant.walk.left in
    let size_is = c.kind_sizes-sizes.ensures _ inside.2 in
    record { fits = omega (arith, inside.1, size_is, c.args.self.walkable.most) }

pub slice_bounds-bytes-end : goal.slice_bounds-bytes-end
slice_bounds-bytes-end g c =
    let inside = left-inside c.loop-place.invariant.walk.left in
    let size_is = c.kind_sizes-sizes.ensures _ inside.2 in
    omega (arith, inside.1, size_is)

pub put_shape-requires : goal.put_shape-requires
put_shape-requires g c =
    let turn = c.loop-place.invariant in
    let size_is = c.kind_sizes-sizes.ensures _ (left-inside turn.walk.left).2 in
    taking_shape-room turn c.requires (squeezing_more turn.walk c.loop-place-test.true) (omega (arith, size_is))
    (sym c.is_setting.ensures ∙ c.if-is_setting.false) (λ i. omega (arith, c.type_inv.list i))

pub loop-place-smaller : goal.loop-place-smaller
loop-place-smaller g c =
    let inside = left-inside c.loop-place.invariant.walk.left in
    let size_is = c.kind_sizes-sizes.ensures _ inside.2 in
    omega (arith, inside.1, inside.2, size_is)

pub loop-place-preserved : goal.loop-place-preserved
loop-place-preserved g c =
    let turn = c.loop-place.invariant in
    let size_is = c.kind_sizes-sizes.ensures _ (left-inside turn.walk.left).2 in
    taking_shape turn c.requires (squeezing_more turn.walk c.loop-place-test.true) (omega (arith, size_is))
    (sym c.is_setting.ensures ∙ c.if-is_setting.false) (λ i. omega (arith, c.type_inv.list i)) g.met.T.Target.joins c.put_shape.ensures

pub put-requires : goal.put-requires
put-requires g c = taking_end-room c.loop-place.invariant c.requires c.loop-place-test.false

pub returns : goal.returns
returns g c = taking_end c.loop-place.invariant c.requires g.met.T.Target.joins c.loop-place-test.false c.put.ensures

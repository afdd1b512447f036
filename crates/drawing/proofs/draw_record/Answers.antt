-- A shape is drawn with the settings in force; a setting and the end draw nothing.
use mathlib.Core.Path.{◌≡◌, refl, subst}
use native.Mathlib.Omega.{arith}
use Rattle.numbers.specs.Sum.{total}
use Rattle.limits.specs.Limits.{shape_refusal, record_refusal}
use Rattle.shapes.specs.declared.Record.{Record}
use Rattle.limits.proofs.Limits.{record_shape}
use Rattle.settings.specs.Drawing.{drawing_of}
use Rattle.drawing.specs.inner.Walk.{settings_of, shapes_page}
use Rattle.drawing.proofs.Records.{shape-drawn}
use Rattle.drawing.proofs.draw_record.Goals as goal

pub draw-requires : goal.draw-requires
unfolding record_refusal
draw-requires g c =
    let lawful : shape_refusal c.in-Shape.shape ≡ 0 = record_shape c.in-Shape.shape (subst (λ (r : Record). record_refusal c.args.basis r ≡ 0) c.in-Shape.is c.requires.1) in
    (rw c.view_of.ensures c.requires.0, lawful)

pub returns-in-Setting : goal.returns-in-Setting
unfolding shapes_page total drawing_of
returns-in-Setting g c =
    let v = c.ranges.level in
    rw c.in-Setting.is ((λ player. record { page = refl; count = refl }), omega arith, omega arith)

pub returns-in-Shape : goal.returns-in-Shape
unfolding record_refusal
returns-in-Shape g c =
    let lawful : shape_refusal c.in-Shape.shape ≡ 0 = record_shape c.in-Shape.shape (subst (λ (r : Record). record_refusal c.args.basis r ≡ 0) c.in-Shape.is c.requires.1) in
    let v = c.ranges.level in
    let shown = rw c.view_of.ensures at c.draw.ensures in
    rw c.in-Shape.is (
      (λ player. (shape-drawn (settings_of c.args.clip c.args.level player) _ c.requires.0 lawful shown).0),
      (shape-drawn {b = c.args.basis} (settings_of c.args.clip c.args.level 0) _ c.requires.0 lawful shown).1,
      omega arith,
    )

pub returns-in-End : goal.returns-in-End
unfolding shapes_page total drawing_of
returns-in-End g c =
    let v = c.ranges.level in
    rw c.in-End.is ((λ player. record { page = refl; count = refl }), omega arith, omega arith)

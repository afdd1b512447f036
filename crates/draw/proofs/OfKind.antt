-- A shape that is refused, or drawn by the function of its kind, leaves what the definition says.
use mathlib.Core.Path.{◌≡◌, ◌∙◌}
use mathlib.Core.List.{List}
use Prim.Native.Nat.{ℕ}
use lib.ListN.{length}
use Rattle.std.specs.Prelude.{Ok}
use Rattle.limits.specs.Limits.{shape_refusal}
use Rattle.shapes.specs.declared.Clip.{Clip}
use Rattle.shapes.specs.declared.Shape.{Shape}
use Rattle.coverage.specs.Coverage.{drawn_d}
use Rattle.coverage.specs.inner.OnPage.{shape_on}
use Rattle.lights.specs.inner.Fit.{Fit}
use Rattle.page.specs.declared.View.{View}
use Rattle.page.specs.inner.Ink.{ink_of}
use Rattle.page.specs.inner.Paint.{Lawful, DrawnIn}
use Rattle.draw.specs.Draw.{draw_refusal, shape_outcome, shape_page}
use Rattle.touches.specs.inner.View.{view_of}
use Rattle.draw.proofs.Refusals.{draw_lawful_lem}
use Rattle.touches.proofs.Touches.{page-touched, count-touched}

module _ (w h : ℕ) (lights : List ℕ) (c : Clip) (v : ℕ) (s : Shape) (l : List ℕ) where
  pub all-lawful : draw_refusal w h (length l) lights c s ≡ 0 → Fit lights × Lawful (view_of w h c) (length l) × (shape_refusal s ≡ 0)
  all-lawful k = draw_lawful_lem w h (length l) lights c s k

  pub kind-drawn : {view : View} {m : List ℕ} {t : ℕ} → draw_refusal w h (length l) lights c s ≡ 0 → view ≡ view_of w h c
      → DrawnIn view (ink_of lights v (drawn_d s)) (shape_on s) l m t
      → (Ok t ≡ shape_outcome w h (length l) lights c s) × (m ≡ shape_page w h lights c v s l)
  kind-drawn z e d =
      let lawful = (all-lawful z).2 in
      let done = rw e at d in
      let count = done.count ∙ count-touched w h c s lawful in
      (rw (z, count), rw z (done.page ∙ page-touched w h c s lawful lights v l))

-- What is tried of a shape on a page, and what a shape without a refusal has.
use mathlib.Core.Bool.{not, cond}
use mathlib.Core.Path.{◌≡◌}
use mathlib.Core.List.{List}
use Prim.Native.Nat.{ℕ, ◌*◌, ◌≤◌}
use native.Mathlib.Omega.{arith}
use lib.Dec.{ltb}
use borrow.Author.Tests.{ltb-false}
use Rattle.limits.specs.Limits.{size_refusal, clip_refusal, shape_refusal}
use Rattle.limits.proofs.Limits.{clear, tried_clear, tried-last, size-lawful, clip-lawful}
use Rattle.shapes.specs.declared.Clip.{Clip}
use Rattle.shapes.specs.declared.Shape.{Shape}
use Rattle.lights.specs.Lights.{fit}
use Rattle.lights.specs.inner.Fit.{Fit}
use Rattle.lights.proofs.Rising.{fit_passed}
use Rattle.page.specs.inner.Paint.{Lawful}
use Rattle.draw.specs.Draw.{draw_refusal}
use Rattle.touches.specs.inner.View.{view_of}

-- the refusals of the parts, in order
pub draw_refusals : (w h size : ℕ) (lights : List ℕ) (c : Clip) (s : Shape)
    → draw_refusal w h size lights c s
    ≡ cond (ltb 0 (size_refusal w h)) (size_refusal w h)
    (cond (ltb size (w * h)) 21 (cond (not (fit lights)) 32 (cond (ltb 0 (clip_refusal w h c)) (clip_refusal w h c) (shape_refusal s))))
unfolding draw_refusal
draw_refusals w h size lights c s = rw (tried-last (shape_refusal s))

-- ---- nothing refused

-- the parts of a view, each without a refusal
pub view_lawful : (w h size : ℕ) (c : Clip) → size_refusal w h ≡ 0 → w * h ≤ size → clip_refusal w h c ≡ 0 → Lawful (view_of w h c) size
view_lawful w h size c e₁ room e₃ =
    let page = size-lawful w h e₁ in
    let clip = clip-lawful w h c e₃ in
    record {
      w-least = page.w-least;
      w-most = page.w-most;
      h-most = page.h-most;
      room = omega arith;
      x-order = clip.x-order;
      x-most = clip.x-most;
      y-order = clip.y-order;
      y-most = clip.y-most;
    }

pub draw_lawful_lem : (w h size : ℕ) (lights : List ℕ) (c : Clip) (s : Shape) → draw_refusal w h size lights c s ≡ 0
    → Fit lights × Lawful (view_of w h c) size × (shape_refusal s ≡ 0)
unfolding draw_refusal
draw_lawful_lem w h size lights c s z =
    let page = tried_clear (size_refusal w h) _ z in
    let room = clear (ltb size (w * h)) 20 _ page.1 in
    let lit = clear (not (fit lights)) 31 _ room.1 in
    let kept = tried_clear (clip_refusal w h c) _ lit.1 in (
      fit_passed lights lit.0,
      view_lawful w h size c page.0 (ltb-false size (w * h) room.0) kept.0,
      (tried_clear (shape_refusal s) 0 kept.1).0,
    )

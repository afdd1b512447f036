-- A page painted with the drawn coverage is the page that the touched pixels make.
use mathlib.Core.Bool.{Bool, true, false, true≢false, cond, ◌&&◌}
use mathlib.Core.Path.{◌≡◌, refl, sym, ◌∙◌}
use mathlib.Core.List.{List}
use mathlib.Core.Logic.{◌↔◌, ⊎_elim}
use Prim.Native.Nat.{ℕ, ◌%◌, ◌/◌, ◌≤◌, ◌<◌}
use native.Mathlib.Omega.{arith}
use lib.Dec.{ltb, leb}
use lib.IntN.{pos}
use lib.ListN.{get_or}
use borrow.Author.Tests.{lt-ltb, le-ltb}
use Rattle.numbers.proofs.Order.{lt_or_le}
use Rattle.numbers.proofs.Sum.{sum_ext}
use Rattle.limits.specs.Limits.{shape_refusal}
use Rattle.shapes.specs.declared.Clip.{Clip}
use Rattle.shapes.specs.declared.Shape.{Shape}
use Rattle.coverage.specs.Coverage.{exact_n, drawn_n, drawn_d}
use Rattle.coverage.proofs.Soundness.{sound}
use Rattle.blending.specs.Blend.{blend}
use Rattle.page.specs.inner.Ink.{ink_of}
use Rattle.page.specs.inner.Paint.{dot, touch, clipped, painted, touches, in_view}
use Rattle.page.proofs.Over.{over_ext}
use Rattle.touches.specs.Touch.{keeps, touched, shape_byte, page_after, touch_count}
use Rattle.coverage.specs.inner.OnPage.{shape_on}
use Rattle.touches.specs.inner.View.{view_of}

pub same_test : (m n : ℕ) → (0 < m) ↔ (0 < n) → ltb 0 m ≡ ltb 0 n
same_test m n e = ⊎_elim (λ h. lt-ltb 0 m h ∙ sym (lt-ltb 0 n (e.0 h))) (λ h. le-ltb 0 m h ∙ sym (le-ltb 0 n (none h))) (lt_or_le 0 m)
  where
    none : m ≤ 0 → n ≤ 0
    none h = ⊎_elim (λ k. absurd (omega (arith, e.1 k))) (λ k. k) (lt_or_le 0 n)

module _ (w h : ℕ) (c : Clip) (s : Shape) (lawful : shape_refusal s ≡ 0) where
  touched-drawn : (x y : ℕ) → ltb 0 (exact_n s (pos x) (pos y)) ≡ ltb 0 (drawn_n s (pos x) (pos y))
  touched-drawn x y = same_test (exact_n s (pos x) (pos y)) (drawn_n s (pos x) (pos y)) (sound s (pos x) (pos y) lawful).touched

  count : (x y : ℕ) → touch (in_view (view_of w h c) (shape_on s) x y) ≡ cond (touched c s x y) 1 0
  unfolding clipped touched keeps
  count x y =
      rw (touched-drawn x y) (go (leb c.x0 x && ltb x c.x1 && leb c.y0 y && ltb y c.y1))
    where
      n : ℕ
      n = drawn_n s (pos x) (pos y)

      one : touch n ≡ cond (ltb 0 n) 1 0
      one = ⊎_elim (λ h. rw (lt-ltb 0 n h) (omega arith)) (λ h. rw (le-ltb 0 n h) (omega arith)) (lt_or_le 0 n)

      go : (k : Bool) → touch (cond k n 0) ≡ cond (k && ltb 0 n) 1 0
      go true = one
      go false = refl

  -- a pixel is touched where the coverage in view is above 0
  pub touched_view : (x y : ℕ) → (touched c s x y ≡ true) ↔ (0 < in_view (view_of w h c) (shape_on s) x y)
  touched_view x y = go (touched c s x y) (count x y)
    where
      go : (t : Bool) → touch (in_view (view_of w h c) (shape_on s) x y) ≡ cond t 1 0 → (t ≡ true) ↔ (0 < in_view (view_of w h c) (shape_on s) x y)
      go true e = (λ _. omega (arith, e), λ _. refl)
      go false e = (λ z. absurd (true≢false (sym z)), λ k. absurd (omega (arith, e)))

  pub count-touched : touches w h (in_view (view_of w h c) (shape_on s)) ≡ touch_count w h c s
  unfolding touches touch_count
  count-touched = sum_ext h _ _ (λ y _. sum_ext w _ _ (λ x _. count x y))

  module _ (lights : List ℕ) (v : ℕ) where
    byte : (x y u : ℕ) → dot (ink_of lights v (drawn_d s)) (in_view (view_of w h c) (shape_on s) x y) u ≡ shape_byte lights c v s x y u
    unfolding dot clipped shape_byte touched keeps
    byte x y u =
        rw (touched-drawn x y) (go (leb c.x0 x && ltb x c.x1 && leb c.y0 y && ltb y c.y1))
      where
        n : ℕ
        n = drawn_n s (pos x) (pos y)

        go : (k : Bool) → cond (ltb 0 (cond k n 0)) (blend lights u v (cond k n 0) (drawn_d s)) u ≡ cond (k && ltb 0 n) (blend lights u v n (drawn_d s)) u
        go true = refl
        go false = refl

    pub page-touched : (l : List ℕ) → painted w (ink_of lights v (drawn_d s)) (in_view (view_of w h c) (shape_on s)) l ≡ page_after lights w c v s l
    unfolding painted page_after
    page-touched l = over_ext _ _ l (λ k b. byte (k % w) (k / w) (get_or l k 0))

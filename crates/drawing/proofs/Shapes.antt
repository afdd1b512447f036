-- One shape upon the other: the page, byte by byte, and the touches, pixel by pixel.
use mathlib.Core.Path.{◌≡◌, refl, sym, ◌∙◌, ap}
use mathlib.Core.Bool.{Bool, true, false, cond}
use mathlib.Core.List.{List, [], ◌∷◌, ◌++◌}
use Prim.Native.Nat.{ℕ, ◌+◌, ◌%◌, ◌/◌}
use native.Mathlib.Omega.{arith}
use lib.ListN.{length, get_or}
use Rattle.numbers.specs.Sum.{total}
use Rattle.numbers.proofs.Sum.{sum_ext, sum_add, sum_zero}
use Rattle.blending.specs.Blend.{blend}
use Rattle.page.specs.Page.{over}
use Rattle.page.proofs.Over.{over_ext, over-over, over-same, length_over}
use Rattle.bound.specs.Exact.{Touch, after, byte_after}
use Rattle.touches.specs.Touch.{touched, shape_byte, page_after, touch_count}
use Rattle.settings.specs.Drawing.{Drawing}
use Rattle.drawing.specs.Touches.{touch_of, touches_at}
use Rattle.drawing.specs.Counts.{pixels_count, shapes_count}
use Rattle.drawing.specs.inner.Walk.{shapes_page, touched_page}

-- ---- some shapes, then others

pub page_then : (lights : List ℕ) (w : ℕ) (ds es : List Drawing) (l : List ℕ) → shapes_page lights w (ds ++ es) l ≡ shapes_page lights w es (shapes_page lights w ds l)
unfolding shapes_page
page_then lights w [] es l = refl
page_then lights w (d ∷ ds) es l = page_then lights w ds es (page_after lights w d.settings.clip d.settings.level d.shape l)

-- ---- the page

-- the byte after the first of some drawings, and then after the rest
byte-first : (lights : List ℕ) (d : Drawing) (ds : List Drawing) (x y u : ℕ)
    → byte_after lights (shape_byte lights d.settings.clip d.settings.level d.shape x y u) (touches_at ds x y) ≡ byte_after lights u (touches_at (d ∷ ds) x y)
unfolding shape_byte touches_at byte_after after
byte-first lights d ds x y u = go (touched d.settings.clip d.shape x y)
  where
    t : Touch
    t = touch_of d x y

    go : (k : Bool) → byte_after lights (cond k (blend lights u t.level t.drawn.num t.drawn.den) u) (touches_at ds x y)
        ≡ byte_after lights u (cond k (t ∷ touches_at ds x y) (touches_at ds x y))
    go true = refl
    go false = refl

no_touch : (lights : List ℕ) (u x y : ℕ) → u ≡ byte_after lights u (touches_at [] x y)
unfolding byte_after after touches_at
no_touch lights u x y = refl

pub page-bytes : (lights : List ℕ) (w : ℕ) (ds : List Drawing) (l : List ℕ) → shapes_page lights w ds l ≡ over (λ k u. byte_after lights u (touches_at ds (k % w) (k / w))) l
unfolding shapes_page page_after
page-bytes lights w [] l = over-same _ l (λ k _. no_touch lights (get_or l k 0) (k % w) (k / w))
page-bytes lights w (d ∷ ds) l =
    page-bytes lights w ds (page_after lights w d.settings.clip d.settings.level d.shape l)
    ∙ over-over _ _ l
    ∙ over_ext _ _ l (λ k _. byte-first lights d ds (k % w) (k / w) (get_or l k 0))

-- a page of one level b, drawn on
pub page-painted : (lights : List ℕ) (w b : ℕ) (ds : List Drawing) (l : List ℕ) → shapes_page lights w ds (over (λ _ _. b) l) ≡ touched_page lights w b ds l
unfolding touched_page
page-painted lights w b ds l = page-bytes lights w ds (over (λ _ _. b) l) ∙ over-over _ _ l

-- ---- the count

count-first : (d : Drawing) (ds : List Drawing) (x y : ℕ)
    → length (touches_at (d ∷ ds) x y) ≡ cond (touched d.settings.clip d.shape x y) 1 0 + length (touches_at ds x y)
unfolding touches_at
count-first d ds x y = go (touched d.settings.clip d.shape x y)
  where
    go : (k : Bool) → length (cond k (touch_of d x y ∷ touches_at ds x y) (touches_at ds x y)) ≡ cond k 1 0 + length (touches_at ds x y)
    go true = omega arith
    go false = omega arith

no_count : (x y : ℕ) → length (touches_at [] x y) ≡ 0
unfolding touches_at
no_count x y = refl

pub counts_same : (w h : ℕ) (ds : List Drawing) → shapes_count w h ds ≡ pixels_count w h ds
unfolding total pixels_count touch_count
counts_same w h [] = sym (sum_zero h _ (λ y _. sum_zero w _ (λ x _. no_count x y)))
counts_same w h (d ∷ ds) =
    ap (λ (n : ℕ). touch_count w h d.settings.clip d.shape + n) (counts_same w h ds)
    ∙ sym (sum_ext h _ _ (λ y _. sum_ext w _ _ (λ x _. count-first d ds x y) ∙ sum_add w _ _) ∙ sum_add h _ _)

pub length-shapes : (lights : List ℕ) (w : ℕ) (ds : List Drawing) (l : List ℕ) → length (shapes_page lights w ds l) ≡ length l
length-shapes lights w ds l = ap length (page-bytes lights w ds l) ∙ length_over _ l

-- What drawing one shape answers, and what it leaves on the page (R8.4).
use Rattle.std.specs.Prelude.{not, cond, List, [], ◌∷◌, ℕ, ◌*◌, ltb, eqb, length, Result}
use Rattle.lights.specs.Lights.{fit}
use Rattle.limits.specs.Limits.{first, tried, size_refusal, clip_refusal, shape_refusal}
use Rattle.limits.specs.Refusal.{unless}
use Rattle.shapes.specs.declared.Clip.{Clip}
use Rattle.shapes.specs.declared.Shape.{Shape}
use Rattle.touches.specs.Touch.{page_after, touch_count}

-- a single shape is tried 3, 21, 32, 8, then 7 to 11; size is the length of the lent page
unfoldable pub draw_refusal : ℕ → ℕ → ℕ → List ℕ → Clip → Shape → ℕ
draw_refusal w h size lights c s =
    first (tried (size_refusal w h) ∷ (ltb size (w * h), 21) ∷ (not (fit lights), 32) ∷ tried (clip_refusal w h c) ∷ tried (shape_refusal s) ∷ [])

-- the number of touched pixels, or the number of the refusal
abbrev pub shape_outcome : ℕ → ℕ → ℕ → List ℕ → Clip → Shape → Result ℕ ℕ
shape_outcome w h size lights c s = unless (draw_refusal w h size lights c s) (touch_count w h c s)

-- the page with the shape on it, or as it was
abbrev pub shape_page : ℕ → ℕ → List ℕ → Clip → ℕ → Shape → List ℕ → List ℕ
shape_page w h lights c v s l = cond (eqb (draw_refusal w h (length l) lights c s) 0) (page_after lights w c v s l) l

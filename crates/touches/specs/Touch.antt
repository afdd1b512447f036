-- Which pixels a shape touches, and what becomes of their bytes (R6.2, R6.4).
use Rattle.std.specs.Prelude.{Bool, cond, ◌&&◌, List, ℕ, ◌%◌, ◌/◌, leb, ltb, pos}
use Rattle.numbers.specs.Sum.{sum_to}
use Rattle.shapes.specs.declared.Clip.{Clip}
use Rattle.shapes.specs.declared.Shape.{Shape}
use Rattle.coverage.specs.Coverage.{exact_n, drawn_n, drawn_d}
use Rattle.blending.specs.Blend.{blend}
use Rattle.page.specs.Page.{over}

-- a clip keeps the pixels with x0 ≤ x < x1 and y0 ≤ y < y1
unfoldable pub keeps : Clip → ℕ → ℕ → Bool
keeps c x y = leb c.x0 x && ltb x c.x1 && leb c.y0 y && ltb y c.y1

-- a shape touches a pixel inside the clip whose exact coverage is above 0
unfoldable pub touched : Clip → Shape → ℕ → ℕ → Bool
touched c s x y = keeps c x y && ltb 0 (exact_n s (pos x) (pos y))

-- the byte u of pixel (x, y) after a shape of level v: a touched pixel is blended in light by the coverage that the shape is drawn with
unfoldable pub shape_byte : List ℕ → Clip → ℕ → Shape → ℕ → ℕ → ℕ → ℕ
shape_byte lights c v s x y u = cond (touched c s x y) (blend lights u v (drawn_n s (pos x) (pos y)) (drawn_d s)) u

-- a page of width w after it: pixel (x, y) is byte y·w + x
unfoldable pub page_after : List ℕ → ℕ → Clip → ℕ → Shape → List ℕ → List ℕ
page_after lights w c v s = over (λ k. shape_byte lights c v s (k % w) (k / w))

-- how many pixels of a page of w by h it touches
unfoldable pub touch_count : ℕ → ℕ → Clip → Shape → ℕ
touch_count w h c s = sum_to h (λ y. sum_to w (λ x. cond (touched c s x y) 1 0))

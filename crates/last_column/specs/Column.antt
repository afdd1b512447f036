-- The last column of a line in which it touches a pixel, and what a call that asks for it answers (R2.4, R6.5, R8.4).
use Rattle.std.specs.Prelude.{Option, Some, None, Result, Bool, false, cond, ◌&&◌, [], ◌∷◌, ℕ, zero, suc, ltb, eqb, ℤ, pos, negsuc}
use Rattle.numbers.specs.Sum.{sum_to}
use Rattle.limits.specs.Refusal.{unless}
use Rattle.limits.specs.Limits.{first, tried, size_refusal, clip_refusal, shape_refusal}
use Rattle.shapes.specs.Span.{longer}
use Rattle.shapes.specs.declared.Clip.{Clip}
use Rattle.shapes.specs.declared.Line.{Line}
use Rattle.shapes.specs.declared.Shape.TheVariants.{Line as line}
use Rattle.bands.specs.Frame.{column_of}
use Rattle.touches.specs.Touch.{touched}

-- whether a pixel's column, counted from the line's first end, is column i
unfoldable pub is_column : ℕ → ℤ → Bool
is_column i (pos k) = eqb k i
is_column i (negsuc k) = false

-- how many pixels of a page of w by h the line touches in column i
unfoldable pub column_touches : ℕ → ℕ → Clip → Line → ℕ → ℕ
column_touches w h c n i = sum_to h (λ y. sum_to w (λ x. cond (touched c (line n) x y && is_column i (column_of n (pos x) (pos y))) 1 0))

-- the last of columns 0 to l − 1 that has touches, or that there is none
unfoldable pub last_of : ℕ → (ℕ → ℕ) → Option ℕ
last_of zero touches = None
last_of (suc i) touches = cond (ltb 0 (touches i)) (Some i) (last_of i touches)

unfoldable pub last_column : ℕ → ℕ → Clip → Line → Option ℕ
last_column w h c n = last_of (longer n) (column_touches w h c n)

-- it is tried 3, 8, then 7 and 9
unfoldable pub column_refusal : ℕ → ℕ → Clip → Line → ℕ
column_refusal w h c n = first (tried (size_refusal w h) ∷ tried (clip_refusal w h c) ∷ tried (shape_refusal (line n)) ∷ [])

-- the column, that there is none, or the number of the refusal
abbrev pub column_reach : ℕ → ℕ → Clip → Line → Result (Option ℕ) ℕ
column_reach w h c n = unless (column_refusal w h c n) (last_column w h c n)

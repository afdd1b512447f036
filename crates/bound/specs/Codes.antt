-- The same with lights equal to codes: what each comes to when codes are blended as they stand (R10.3).
use Rattle.std.specs.Prelude.{List, ℕ}
use Rattle.numbers.specs.Fraction.{Frac, ◌over◌, ◌⊕◌}
use Rattle.blending.specs.CodeBlend.{code_blend}
use Rattle.bound.specs.Exact.{Touch, after, mix, whole, times, since_cover}

-- the byte u, blended by each touch
unfoldable pub code_after : ℕ → List Touch → ℕ
code_after = after (λ u t. code_blend u t.level t.drawn.num t.drawn.den)

-- the exact blend: e, mixed with the level of each touch
unfoldable pub exact_code_after : Frac → List Touch → Frac
exact_code_after = after (λ e t. mix e t.level t.exact)

-- half a level for each touch, and 255 times what its coverage is off
unfoldable pub code_margins_of : List Touch → Frac
code_margins_of = after (λ b t. b ⊕ (1 over 2 ⊕ times 255 t.off)) (whole 0)

-- the bound: only the touches after the last whole cover count
unfoldable pub code_bound_of : List Touch → Frac
code_bound_of ts = code_margins_of (since_cover ts)

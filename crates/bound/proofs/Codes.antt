-- With lights equal to codes the byte, the exact blend and the bound are those of codes blended as they stand.
use mathlib.Core.Path.{◌≡◌, refl, ap, ap₂, ◌∙◌}
use mathlib.Core.List.{List, [], ◌∷◌}
use Prim.Native.Nat.{ℕ, ◌≤◌}
use Rattle.numbers.specs.Fraction.{Frac, ◌over◌, ◌⊕◌}
use Rattle.lights.specs.Codes.{codes}
use Rattle.lights.proofs.Codes.{code-light, widest-codes, span_codes}
use Rattle.lights.specs.Lights.{light_of}
use Rattle.blending.specs.Blend.{blend}
use Rattle.blending.proofs.EvenSteps.{blend-codes}
use Rattle.blending.proofs.Blend.{blend-byte}
use Rattle.bound.specs.Exact.{Touch, after, mix, whole, times, byte_after, exact_after, half_gap, margin_of, margins_of, since_cover, bound_of}
use Rattle.bound.specs.Codes.{code_after, exact_code_after, code_margins_of, code_bound_of}
use Rattle.bound.specs.Sound.{AllSound}

pub byte-codes : (u : ℕ) (ts : List Touch) → u ≤ 255 → AllSound ts → byte_after codes u ts ≡ code_after u ts
unfolding byte_after code_after after
byte-codes u [] hu s = refl
byte-codes u (t ∷ ts) hu s =
    byte-codes (blend codes u t.level t.drawn.num t.drawn.den) ts (blend-byte codes u t.level t.drawn.num t.drawn.den) s.1
    ∙ ap (λ (x : ℕ). code_after x ts) (blend-codes u t.level t.drawn.num t.drawn.den hu s.0.0 s.0.1.drawn_le s.0.1.drawn_pos)

pub exact-codes : (e : Frac) (ts : List Touch) → AllSound ts → exact_after codes e ts ≡ exact_code_after e ts
unfolding exact_after exact_code_after after
exact-codes e [] s = refl
exact-codes e (t ∷ ts) s =
    exact-codes (mix e (light_of codes t.level) t.exact) ts s.1
    ∙ ap (λ (v : ℕ). exact_code_after (mix e v t.exact) ts) (code-light t.level s.0.0)

pub bound-codes : (ts : List Touch) → bound_of codes ts ≡ code_bound_of ts
unfolding bound_of code_bound_of margins_of margin_of code_margins_of half_gap
bound-codes ts = ap₂ (λ (g k : ℕ). after (λ b t. b ⊕ (g over 2 ⊕ times k t.off)) (whole 0) (since_cover ts)) widest-codes span_codes

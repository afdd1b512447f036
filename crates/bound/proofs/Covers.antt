-- What a whole cover does to the bound and to the byte, in any lights.
use mathlib.Core.Bool.{Bool, true, false, cond}
use mathlib.Core.List.{List, [], ◌∷◌, ◌++◌}
use mathlib.Core.Path.{◌≡◌, refl, sym, ◌∙◌, ap}
use Prim.Native.Nat.{ℕ, ◌*◌}
use native.Mathlib.Nat.{sub_self}
use native.Mathlib.Omega.{arith}
use borrow.Author.Tests.{eqb-true}
use Rattle.numbers.specs.Fraction.{Frac, ◌⊕◌, ◌≼◌}
use Rattle.numbers.proofs.Fraction.{⊕_le}
use Rattle.lights.specs.Lights.{light_of, light_span}
use Rattle.lights.specs.inner.Fit.{Fit}
use Rattle.blending.proofs.Blend.{blend-whole}
use Rattle.bound.specs.Exact.{Touch, after, whole, times, mix, byte_after, exact_after, half_gap, margin_of, margins_of, covers, covered, since_cover, bound_of}
use Rattle.bound.specs.Sound.{SoundTouch}
use Rattle.bound.proofs.Since.{since_none, since_cover_lem, since_kept}
use Rattle.bound.proofs.Bound.{margin_step, bound_step}

-- ---- the bound, kept touch by touch: a whole cover sets it to 0, every other touch adds its margin

abbrev pub add_margin : List ℕ → Frac → Touch → Frac
add_margin lights = margin_step (half_gap lights) (light_span lights)

abbrev pub keep_bound : List ℕ → Frac → Touch → Frac
keep_bound lights = bound_step (half_gap lights) (light_span lights)

pub bound-kept : (lights : List ℕ) (ts : List Touch) → bound_of lights ts ≡ after (keep_bound lights) (whole 0) ts
unfolding bound_of margins_of margin_of
bound-kept lights ts =
    ap (λ (b : Frac). after (add_margin lights) b (since_cover ts)) (same (covered ts))
    ∙ sym (since_kept (add_margin lights) (whole 0) (whole 0) ts)
  where
    same : (k : Bool) → whole 0 ≡ cond k (whole 0) (whole 0)
    same true = refl
    same false = refl

-- ---- beside the margins of all touches

-- never covered whole: all count
pub bound_uncovered : (lights : List ℕ) (ts : List Touch) → covered ts ≡ false → bound_of lights ts ≡ margins_of lights ts
unfolding bound_of
bound_uncovered lights ts h = ap (margins_of lights) (since_none ts h)

kept_le : (lights : List ℕ) (ts : List Touch) (a b : Frac) → a ≼ b → after (keep_bound lights) a ts ≼ after (add_margin lights) b ts
unfolding after
kept_le lights [] a b h = h
kept_le lights (t ∷ ts) a b h = kept_le lights ts (keep_bound lights a t) (add_margin lights b t) (go (covers t))
  where
    go : (k : Bool) → cond k (whole 0) (add_margin lights a t) ≼ add_margin lights b t
    go true = omega arith
    go false = ⊕_le a b (half_gap lights ⊕ times (light_span lights) t.off) h

-- never more than these
pub bound_le : (lights : List ℕ) (ts : List Touch) → bound_of lights ts ≼ margins_of lights ts
unfolding margins_of margin_of
bound_le lights ts = rw (bound-kept lights ts) (kept_le lights ts (whole 0) (whole 0) (omega arith))

-- ---- from a whole cover on

-- only what comes after it counts
pub bound_cover : (lights : List ℕ) (ts : List Touch) (t : Touch) (us : List Touch) → covers t ≡ true → bound_of lights (ts ++ t ∷ us) ≡ bound_of lights us
unfolding bound_of
bound_cover lights ts t us h = ap (margins_of lights) (since_cover_lem ts t us h)

after_then : {A : Type 0} (f : A → Touch → A) (a : A) (ts us : List Touch) → after f a (ts ++ us) ≡ after f (after f a ts) us
unfolding after
after_then f a [] us = refl
after_then f a (t ∷ ts) us = after_then f (f a t) ts us

-- and the byte is blended from the level on
pub byte_cover : (lights : List ℕ) → Fit lights → (u : ℕ) (ts : List Touch) (t : Touch) (us : List Touch) → SoundTouch t → covers t ≡ true
    → byte_after lights u (ts ++ t ∷ us) ≡ byte_after lights t.level us
unfolding byte_after after covers
byte_cover lights fit u ts t us s h =
    let e = s.1.covers.0 (eqb-true t.exact.num t.exact.den h) in
    after_then _ u ts (t ∷ us)
    ∙ ap (λ (b : ℕ). byte_after lights b us) (rw e (blend-whole lights fit (byte_after lights u ts) t.level t.drawn.den s.0 s.1.drawn_pos))

-- right after it: no margin, and the level itself
pub none_after : (lights : List ℕ) (ts : List Touch) (t : Touch) → covers t ≡ true → bound_of lights (ts ++ t ∷ []) ≡ whole 0
unfolding bound_of margins_of after since_cover
none_after lights ts t h = bound_cover lights ts t [] h

pub level_after : (lights : List ℕ) → Fit lights → (u : ℕ) (ts : List Touch) (t : Touch) → SoundTouch t → covers t ≡ true
    → byte_after lights u (ts ++ t ∷ []) ≡ t.level
unfolding byte_after after
level_after lights fit u ts t s h = byte_cover lights fit u ts t [] s h

-- and the exact blend is the level's light: (e·(d − d) + v·d) over d is v
pub exact_after_lem : (lights : List ℕ) (e : Frac) (ts : List Touch) (t : Touch) → covers t ≡ true
    → (exact_after lights e (ts ++ t ∷ [])).num ≡ light_of lights t.level * (exact_after lights e (ts ++ t ∷ [])).den
unfolding exact_after after covers mix
exact_after_lem lights e ts t h =
    let n = eqb-true t.exact.num t.exact.den h in
    rw (after_then (λ (e : Frac) (t : Touch). mix e (light_of lights t.level) t.exact) e ts (t ∷ []), n, sub_self) (omega arith)

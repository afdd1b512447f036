-- The touches after the last whole cover: which they are, and how what is summed over them is kept touch by touch.
use mathlib.Core.Bool.{Bool, true, false, cond, ◌||◌}
use mathlib.Core.List.{List, [], ◌∷◌, ◌++◌}
use mathlib.Core.Path.{◌≡◌, refl, ◌∙◌, ap}
use Rattle.numbers.specs.Fraction.{Frac}
use Rattle.bound.specs.Exact.{Touch, after, covers, covered, since_cover}

covered_by : (ts : List Touch) (t : Touch) (us : List Touch) → covers t ≡ true → covered (ts ++ t ∷ us) ≡ true
unfolding covered
covered_by [] t us h = rw h
covered_by (v ∷ ts) t us h = rw (covered_by ts t us h) (either (covers v))
  where
    either : (k : Bool) → (k || true) ≡ true
    either true = refl
    either false = refl

-- neither the cover itself nor what went before it
pub since_cover_lem : (ts : List Touch) (t : Touch) (us : List Touch) → covers t ≡ true → since_cover (ts ++ t ∷ us) ≡ since_cover us
unfolding since_cover
since_cover_lem [] t us h = rw (covered_by [] t us h)
since_cover_lem (v ∷ ts) t us h = rw (covered_by (v ∷ ts) t us h) (since_cover_lem ts t us h)

-- without a whole cover all of them
pub since_none : (ts : List Touch) → covered ts ≡ false → since_cover ts ≡ ts
unfolding since_cover
since_none [] h = refl
since_none (t ∷ ts) h = rw h

-- touch by touch, a whole cover begins anew from z
pub since_kept : (f : Frac → Touch → Frac) (z b : Frac) (ts : List Touch)
    → after (λ b t. cond (covers t) z (f b t)) b ts ≡ after f (cond (covered ts) z b) (since_cover ts)
unfolding after covered since_cover
since_kept f z b [] = refl
since_kept f z b (t ∷ ts) = since_kept f z (cond (covers t) z (f b t)) ts ∙ go (covers t) (covered ts) refl
  where
    go : (k c : Bool) → covered ts ≡ c
        → after f (cond c z (cond k z (f b t))) (since_cover ts) ≡ after f (cond (k || c) z b) (cond (k || c) (since_cover ts) (t ∷ ts))
    go true true h = refl
    go true false h = refl
    go false true h = refl
    go false false h = ap (after f (f b t)) (since_none ts h)

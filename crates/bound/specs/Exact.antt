-- One pixel under the shapes that touch it: its byte, its exact blend in light, and the bound on how far the byte's light is from that (R10.3, R10.4).
use Rattle.std.specs.Prelude.{Bool, false, cond, ◌||◌, List, [], ◌∷◌, ℕ, ◌+◌, ◌*◌, ◌-◌, eqb}
use Rattle.numbers.specs.Fraction.{Frac, ◌over◌, ◌⊕◌}
use Rattle.lights.specs.Lights.{light_of, widest_gap, light_span}
use Rattle.blending.specs.Blend.{blend}

-- a whole number as a fraction
abbrev pub whole : ℕ → Frac
whole u = u over 1

-- k·p
abbrev pub times : ℕ → Frac → Frac
times k p = (k * p.num) over p.den

-- a shape at a pixel that it touches
pub record Touch : Type 0 where
  pub level : ℕ
  -- the coverage that the shape is drawn with, and that of the exact rule
  pub drawn : Frac
  pub exact : Frac
  -- how far the two may be apart: s over 4·l for an approximate line, else 0 over 1
  pub off : Frac

-- a, changed by each touch in the order of the list
unfoldable pub after {ℓ} : {A : Type ℓ} → (A → Touch → A) → A → List Touch → A
after f a [] = a
after f a (t ∷ ts) = after f (f a t) ts

-- the byte u, blended by each touch with the coverage that is drawn
unfoldable pub byte_after : List ℕ → ℕ → List Touch → ℕ
byte_after lights = after (λ u t. blend lights u t.level t.drawn.num t.drawn.den)

-- with c = n over d, the fraction e becomes (e·(d − n) + v·n) over d, which is not rounded
unfoldable pub mix : Frac → ℕ → Frac → Frac
mix e v c = (e.num * (c.den - c.num) + v * c.num * e.den) over (e.den * c.den)

-- the exact blend, in light: e, mixed with the light of each touch's level by the exact coverage
unfoldable pub exact_after : List ℕ → Frac → List Touch → Frac
exact_after lights = after (λ e t. mix e (light_of lights t.level) t.exact)

-- ---- the margin of a touch, and the bound

-- half the widest gap between neighbouring lights: what picking one code costs at most
unfoldable pub half_gap : List ℕ → Frac
half_gap lights = widest_gap lights over 2

-- half the widest gap, and the span of the lights times what the coverage is off
unfoldable pub margin_of : List ℕ → Touch → Frac
margin_of lights t = half_gap lights ⊕ times (light_span lights) t.off

-- the margins of some touches, summed
unfoldable pub margins_of : List ℕ → List Touch → Frac
margins_of lights = after (λ b t. b ⊕ margin_of lights t) (whole 0)

-- a touch covers the pixel whole where n = d of its exact coverage; it leaves the level itself, whatever was there before
unfoldable pub covers : Touch → Bool
covers t = eqb t.exact.num t.exact.den

-- one of some touches does
unfoldable pub covered : List Touch → Bool
covered [] = false
covered (t ∷ ts) = covers t || covered ts

-- the touches after the last one that does; all of them where none does
unfoldable pub since_cover : List Touch → List Touch
since_cover [] = []
since_cover (t ∷ ts) = cond (covered (t ∷ ts)) (since_cover ts) (t ∷ ts)

-- the bound: the margins of the touches after the last whole cover
unfoldable pub bound_of : List ℕ → List Touch → Frac
bound_of lights ts = margins_of lights (since_cover ts)

-- A zone of a page: its light, its exact blend and its margin are those of its pixels, added (R10.5).
use Rattle.std.specs.Prelude.{List, [], ◌∷◌, ℕ, ◌+◌, ◌*◌, ◌<◌, get_or}
use Rattle.numbers.specs.Fraction.{Frac, ◌⊕◌, Within}
use Rattle.lights.specs.Lights.{light_of}
use Rattle.bound.specs.Exact.{whole, exact_after, bound_of}
use Rattle.settings.specs.Drawing.{Drawing}
use Rattle.format.specs.declared.Header.{Header}
use Rattle.drawing.specs.Touches.{touches_at}

-- some pixels, each by its x and y
abbrev pub Zone : Type 0
Zone = List (ℕ × ℕ)

-- what there is of each, added
unfoldable pub zone_sum : (ℕ → ℕ → Frac) → Zone → Frac
zone_sum f [] = whole 0
zone_sum f (p ∷ ps) = f p.0 p.1 ⊕ zone_sum f ps

-- all are on a page of w by h
unfoldable pub OnPage : ℕ → ℕ → Zone → Type 0
OnPage w h [] = Unit {0}
OnPage w h (p ∷ ps) = (p.0 < w) × (p.1 < h) × OnPage w h ps

-- the light of the bytes of a page m
abbrev pub zone_light : List ℕ → ℕ → List ℕ → Zone → Frac
zone_light lights w m = zone_sum (λ x y. whole (light_of lights (get_or m (y * w + x) 0)))

-- what some drawings leave of the background b, never rounded
abbrev pub zone_exact : List ℕ → ℕ → List Drawing → Zone → Frac
zone_exact lights b ds = zone_sum (λ x y. exact_after lights (whole (light_of lights b)) (touches_at ds x y))

-- the bounds of the pixels
abbrev pub zone_margin : List ℕ → List Drawing → Zone → Frac
zone_margin lights ds = zone_sum (λ x y. bound_of lights (touches_at ds x y))

-- the light of a zone is within b of its exact blend
pub record ZoneWithin (lights : List ℕ) (d : Header) (ds : List Drawing) (m : List ℕ) (zone : Zone) (b : Frac) : Type 0 where
  pub exact_pos : 0 < (zone_exact lights d.background ds zone).den
  pub margin_pos : 0 < b.den
  pub within : Within (zone_light lights d.w m zone) (zone_exact lights d.background ds zone) b

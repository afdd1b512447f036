-- Blending a level over a byte, in light (R6.1).
use Rattle.std.specs.Prelude.{cond, List, ℕ, zero, suc, ◌+◌, ◌*◌, ◌-◌, ◌≤◌, ◌<◌, leb}
use Rattle.lights.specs.Lights.{light_of}

-- how far a and b are apart
abbrev pub apart : ℕ → ℕ → ℕ
apart a b = (a - b) + (b - a)

-- of codes 0 to b the one whose light is nearest to x over d: going up, the next one wins where it is as near, so that a tie goes to the higher
unfoldable pub nearest_to : (ℕ → ℕ) → ℕ → ℕ → ℕ → ℕ
nearest_to light zero x d = 0
nearest_to light (suc b) x d =
    cond (leb (apart x (light (suc b) * d)) (apart x (light (nearest_to light b x d) * d))) (suc b) (nearest_to light b x d)

abbrev pub nearest_code : (ℕ → ℕ) → ℕ → ℕ → ℕ
nearest_code light x d = nearest_to light 255 x d

-- byte u and level v turned into light and blended at coverage n over d: the blended light times d, which is not rounded
abbrev pub blended_light : (ℕ → ℕ) → ℕ → ℕ → ℕ → ℕ → ℕ
blended_light light u v n d = light u * (d - n) + light v * n

-- level v over byte u at coverage n over d: the code nearest in light to the blended light
unfoldable pub blend : List ℕ → ℕ → ℕ → ℕ → ℕ → ℕ
blend lights u v n d = nearest_code (light_of lights) (blended_light (light_of lights) u v n d) d

-- c is the one of codes 0 to b whose light is nearest to n over d: none is nearer, and each higher code is further
pub record Nearest (light : ℕ → ℕ) (b n d c : ℕ) : Type 0 where
  pub code : c ≤ b
  pub none : (k : ℕ) → k ≤ b → apart n (light c * d) ≤ apart n (light k * d)
  pub higher : (k : ℕ) → c < k → k ≤ b → apart n (light c * d) < apart n (light k * d)

-- The light that each code shows (R6.1).
use Rattle.std.specs.Prelude.{ℕ, zero, suc, ◌-◌, max, Bool, true, ◌&&◌, List, length, ◌==◌, nat_lt, slice_index}

-- the light of code k
abbrev pub light_of : List ℕ → ℕ → ℕ
light_of lights k = slice_index lights k

-- the lights of codes 0 to n rise strictly
unfoldable pub rises_to : (ℕ → ℕ) → ℕ → Bool
rises_to light zero = true
rises_to light (suc n) = rises_to light n && nat_lt (light n) (light (suc n))

-- lights are 256 in number and strictly rising; others are refused by 32
unfoldable pub fit : List ℕ → Bool
fit lights = length lights == 256 && rises_to (light_of lights) 255

-- the widest gap between neighbouring lights of codes 0 to n
unfoldable pub widest_to : (ℕ → ℕ) → ℕ → ℕ
widest_to light zero = 0
widest_to light (suc n) = max (widest_to light n) (light (suc n) - light n)

abbrev pub widest_gap : List ℕ → ℕ
widest_gap lights = widest_to (light_of lights) 255

-- the last light less the first: how far two lights can be apart
abbrev pub light_span : List ℕ → ℕ
light_span lights = light_of lights 255 - light_of lights 0

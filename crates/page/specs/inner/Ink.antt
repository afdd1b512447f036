-- The ink of a level.
use Rattle.std.proofs.Common.{◌≡◌, List, ℕ, ◌^◌, ◌≤◌, ◌<◌, arith}
use Rattle.lights.specs.inner.Fit.{Fit}
use Rattle.lights.specs.inner.Palette.{lights_in, Palette}
use Rattle.lights.proofs.LightsIn.{lights-fit}
use Rattle.blending.specs.Blend.{blend}
use Rattle.blending.proofs.Blend.{blend-whole}

-- an ink is what a touched pixel's byte u becomes at coverage n: here that of level v in some lights, with coverages over d
abbrev pub ink_of : List ℕ → ℕ → ℕ → ℕ → ℕ → ℕ
ink_of lights v d n u = blend lights u v n d

-- the whole coverage of the chord rule
pub chord_whole : (0 < 512) × (512 ≤ 2 ^ 30)
chord_whole = (omega arith, omega arith)

-- whole coverage leaves the level, in fit lights and in those of a palette
pub ink_covers : (lights : List ℕ) → Fit lights → (v d : ℕ) → v ≤ 255 → 0 < d → (u : ℕ) → ink_of lights v d d u ≡ v
ink_covers lights fit v d byte some u = blend-whole lights fit u v d byte some

pub palette_covers : (p : List ℕ) → Palette p → (v d : ℕ) → v ≤ 255 → 0 < d → (u : ℕ) → ink_of (lights_in p) v d d u ≡ v
palette_covers p filled = ink_covers (lights_in p) (lights-fit p filled)

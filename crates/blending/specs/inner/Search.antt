-- How the code of a light is found: by the middles that it lies between, from a guess on.
use Rattle.std.specs.Prelude.{Option, MatchOption, ◌⊎◌, ◌≡◌, ℕ, ◌+◌, ◌*◌, ◌≤◌, ◌<◌}
use Rattle.lights.specs.inner.Palette.{middle}

-- x over d lies from middle a to before middle b
pub record Between (light : ℕ → ℕ) (x d a b : ℕ) : Type 0 where
  pub low : middle light a * d ≤ x
  pub high : x < middle light b * d

-- r is 1 where y is at most x, else 0
abbrev pub AtMost : ℕ → ℕ → ℕ → Type 0
AtMost y x r = ((y ≤ x) × (r ≡ 1)) ⊎ ((x < y) × (r ≡ 0))

-- r of the two middles after that of code a, which is at most x over d, are at most that
pub record NextTwo (light : ℕ → ℕ) (x d a r : ℕ) : Type 0 where
  pub most : r ≤ 2
  pub low : middle light (a + r) * d ≤ x
  pub high : r < 2 → x < middle light (a + r + 1) * d

-- the code of x over d, found from guess a; or none, where x over d is past the two codes after a
abbrev pub NearGuess : (ℕ → ℕ) → ℕ → ℕ → ℕ → Option ℕ → Type 0
NearGuess light x d a c =
    MatchOption c ((a ≤ 252) × (middle light (a + 3) * d ≤ x)) (λ k. (k ≤ 255) × Between light x d k (k + 1))

-- A palette, for lights that are not at even steps: 256 lights, and behind them a guess at the code for each of 1,024 stretches of light.
use Rattle.std.specs.Prelude.{◌≡◌, ℕ, zero, suc, ◌+◌, ◌-◌, ◌*◌, ◌/◌, ◌^◌, ◌≤◌, cond, ◌⊎◌, List, length, take, nat_lt, slice_index}
use Rattle.lights.specs.Lights.{light_of}
use Rattle.lights.specs.inner.Fit.{Rising}

-- twice the middle of the lights of codes k − 1 and k; below code 0 it is 0, above code 255 more than twice any light
unfoldable pub middle : (ℕ → ℕ) → ℕ → ℕ
middle light zero = 0
middle light (suc k) = cond (nat_lt k 255) (light k + light (suc k)) 131071

-- the lights of a palette
abbrev pub lights_in : List ℕ → List ℕ
lights_in p = take 256 p

-- the guess for stretch b, and what tells stretches apart: stretch b begins where a doubled light times reach comes to b·2^54
abbrev pub guess_of : List ℕ → ℕ → ℕ
guess_of p b = slice_index p (256 + b)

abbrev pub reach_of : List ℕ → ℕ
reach_of p = (2 ^ 63 - 1) / (light_of p 255 + 1)

-- how many numbers a palette with guesses has: some past the last stretch make it simple to fill
abbrev pub palette_size : ℕ
palette_size = 1328

-- g is a guess for stretch b: its middle is not above where the stretch begins, so g is not above the code, and two codes follow it
pub record Guess (light : ℕ → ℕ) (reach b g : ℕ) : Type 0 where
  pub most : g ≤ 253
  pub low : middle light g * reach ≤ b * 2 ^ 54

-- p has a guess for each stretch
pub record Guesses (light : ℕ → ℕ) (reach : ℕ) (p : List ℕ) : Type 0 where
  pub size : length p ≡ palette_size
  pub each : (b : ℕ) → Guess light reach b (guess_of p b)

-- the guesses of q are those of p, but that some from stretch a on are g
pub record FilledFrom (a g : ℕ) (p q : List ℕ) : Type 0 where
  pub size : length q ≡ length p
  pub each : (b : ℕ) → (guess_of q b ≡ guess_of p b) ⊎ ((a ≤ b) × (guess_of q b ≡ g))

-- p has rising lights in front, and a guess for each stretch
pub record Palette (p : List ℕ) : Type 0 where
  pub rising : Rising (light_of p)
  pub guesses : Guesses (light_of p) (reach_of p) p

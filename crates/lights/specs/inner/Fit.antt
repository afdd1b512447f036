-- What is known of lights that have been tried.
use Rattle.std.specs.Prelude.{◌≡◌, ℕ, suc, ◌+◌, ◌-◌, ◌*◌, ◌%◌, ◌^◌, ◌<◌, ◌≤◌, List, length, Option, Some, is_some}
use Rattle.lights.specs.Lights.{light_of, fit}
use Rattle.lights.specs.declared.fit.Steps.{Steps}
use Rattle.lights.specs.declared.fit.Steps.TheVariants.{Even}

abbrev pub Rising : (ℕ → ℕ) → Type 0
Rising light = (k : ℕ) → k < 255 → light k < light (suc k)

-- fit, as facts
pub record Fit (lights : List ℕ) : Type 0 where
  pub count : length lights ≡ 256
  pub rising : Rising (light_of lights)

-- the lights are at even steps, as codes are: blending codes comes to the same
abbrev pub EvenSteps : (ℕ → ℕ) → Type 0
EvenSteps light = (k : ℕ) → k ≤ 255 → light k ≡ light 0 + (light 1 - light 0) * k

-- they are at steps of one width, in 16 bits that wrap
abbrev pub StepsOf : (ℕ → ℕ) → ℕ → Type 0
StepsOf light step = (k : ℕ) → k ≤ 255 → light k ≡ (light 0 + step * k) % 2 ^ 16

-- lights are fit just where their steps are told, and what is told of them is so
pub record Spaced (lights : List ℕ) (steps : Option Steps) : Type 0 where
  pub fit_is : is_some steps ≡ fit lights
  pub even_is : steps ≡ Some Even → EvenSteps (light_of lights)

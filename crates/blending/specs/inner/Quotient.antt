-- What a blend of codes is worked out from.
use Rattle.std.specs.Prelude.{◌≡◌, ℕ, ◌+◌, ◌*◌, ◌-◌, ◌^◌, ◌≤◌, ◌<◌}
use Rattle.numbers.specs.inner.Inverse.{Inverse}

-- n over d is a coverage whose blends fit
pub record Coverage (n d : ℕ) : Type 0 where
  pub some : 0 < d
  pub part : n ≤ d
  pub most : d ≤ 2 ^ 30

-- m is the least whole number above 2^55 over d: by it a quotient by 2·d is a product
abbrev pub Reciprocal : ℕ → ℕ → Type 0
Reciprocal d m = Inverse (2 ^ 55) d m

-- x over 2·d is the blend of codes, before it is cut to a whole number
pub record Dividend (u v n d x : ℕ) : Type 0 where
  pub is : x ≡ 2 * (u * (d - n) + v * n) + d
  pub most : x ≤ 511 * d

-- Laws of rounding.
use mathlib.Core.Path.{◌≡◌, sym}
use Prim.Native.Nat.{ℕ, suc, ◌+◌, ◌*◌, ◌/◌, ◌≤◌, ◌<◌}
use native.Mathlib.Nat.{div-mul-le_self, lt-div-mul-add, div-eq_of_lt-le, div-lt_iff_lt-mul}
use native.Mathlib.Omega.{arith}
use Rattle.numbers.specs.Nearest.{nearest, Nearest}

pub nearest-is : (n d : ℕ) → 0 < d → Nearest n d (nearest n d)
unfolding nearest
nearest-is n d h =
    record {
      low = omega (arith, div-mul-le_self (2 * n + d) (2 * d));
      high = omega (arith, lt-div-mul-add {a = 2 * n + d} {b = 2 * d} (omega arith));
    }

-- no other number is
pub nearest_unique : (n d r : ℕ) → Nearest n d r → r ≡ nearest n d
unfolding nearest
nearest_unique n d r h = sym (div-eq_of_lt-le (2 * d) (omega arith) (omega arith))

-- a whole bound is kept
pub nearest_le : (n d b : ℕ) → 0 < d → n ≤ b * d → nearest n d ≤ b
unfolding nearest
nearest_le n d b h p =
    let q : (2 * n + d) / (2 * d) < suc b = (div-lt_iff_lt-mul {k = 2 * d} (omega arith)).1 (omega arith) in
    omega arith

pub nearest-whole : (r d : ℕ) → 0 < d → nearest (r * d) d ≡ r
nearest-whole r d h = sym (nearest_unique (r * d) d r (record { low = omega arith; high = omega arith }))

-- A quotient by the product with an inverse.
use mathlib.Core.Path.{◌≡◌, ap}
use Prim.Native.Nat.{ℕ, ◌+◌, ◌*◌, ◌-◌, ◌/◌, ◌≤◌, ◌<◌}
use native.Mathlib.Nat.{mul-le-mul_left, mul-le-mul_right, lt_of_mul-lt-mul_right, lt-mul-div-succ, div-mul-le_self, div-eq_of_lt-le, add-sub_of_le}
use native.Mathlib.Omega.{arith}
use Rattle.numbers.specs.inner.Inverse.{Inverse}

pub inverse_is : (b d : ℕ) → 0 < d → Inverse b d (b / d + 1)
inverse_is b d h = record { least = omega (arith, lt-mul-div-succ b h); most = omega (arith, div-mul-le_self b d) }

-- m·d is b and a little more: where x times that little stays under b, the product gives the quotient
pub near_quotient_lem : (b x d m : ℕ) → 0 < d → b ≤ m * d → x * (m * d - b) < b → x * m / b ≡ x / d
near_quotient_lem b x d m some hm he = div-eq_of_lt-le {k = x / d} b {m = x * m} low (lt_of_mul-lt-mul_right d high)
  where
    low : x / d * b ≤ x * m
    low = omega (arith, mul-le-mul_left (x / d) hm, mul-le-mul_right m (div-mul-le_self x d))

    high : x * m * d < (x / d + 1) * b * d
    high = omega (arith, ap (λ (k : ℕ). x * k) (add-sub_of_le hm), mul-le-mul_right b (lt-mul-div-succ x some))

-- Laws of blending codes, and of the division that it takes.
use mathlib.Core.Path.{◌≡◌, ◌∙◌, ap}
use Prim.Native.Nat.{ℕ, ◌+◌, ◌*◌, ◌-◌, ◌^◌, ◌/◌, ◌≤◌, ◌<◌}
use native.Mathlib.Nat.{mul-le-mul, mul-le-mul_right, sub-zero, sub_self}
use native.Mathlib.Omega.{arith}
use Rattle.numbers.specs.Nearest.{nearest}
use Rattle.numbers.specs.Fraction.{◌over◌, Within}
use Rattle.numbers.proofs.Nearest.{nearest-is, nearest_le, nearest-whole}
use Rattle.blending.specs.CodeBlend.{code_blend}
use Rattle.blending.specs.inner.Quotient.{Reciprocal, Dividend}

-- ---- the blend

-- coverage 0 keeps the byte, a whole coverage gives the level
pub code-none : (u v d : ℕ) → 0 < d → code_blend u v 0 d ≡ u
unfolding code_blend
code-none u v d h =
    let e : u * (d - 0) + v * 0 ≡ u * d = rw sub-zero (omega arith) in
    ap (λ (x : ℕ). nearest x d) e ∙ nearest-whole u d h

pub code-whole : (u v d : ℕ) → 0 < d → code_blend u v d d ≡ v
unfolding code_blend
code-whole u v d h =
    let e : u * (d - d) + v * d ≡ v * d = rw sub_self (omega arith) in
    ap (λ (x : ℕ). nearest x d) e ∙ nearest-whole v d h

-- two parts of d at most 255 each are at most 255·d together
weighted_le : (u v n d : ℕ) → u ≤ 255 → v ≤ 255 → n ≤ d → u * (d - n) + v * n ≤ 255 * d
weighted_le u v n d hu hv h = omega (arith, mul-le-mul_right (d - n) hu, mul-le-mul_right n hv)

-- a blend of bytes is a byte
pub code-byte : (u v n d : ℕ) → 0 < d → n ≤ d → u ≤ 255 → v ≤ 255 → code_blend u v n d ≤ 255
unfolding code_blend
code-byte u v n d some h hu hv = nearest_le (u * (d - n) + v * n) d 255 some (weighted_le u v n d hu hv h)

-- and within half a level of the blend that is not rounded
pub code-within : (u v n d : ℕ) → 0 < d → Within (code_blend u v n d over 1) ((u * (d - n) + v * n) over d) (1 over 2)
unfolding code_blend
code-within u v n d h =
    let r = nearest-is (u * (d - n) + v * n) d h in
    (omega (arith, r.low), omega (arith, r.high))

-- ---- its division

pub blend_quotient : (u v n d x : ℕ) → Dividend u v n d x → x / (2 * d) ≡ code_blend u v n d
unfolding code_blend nearest
blend_quotient u v n d x h = ap (λ (y : ℕ). y / (2 * d)) h.is

-- ---- a quotient by a reciprocal

-- a dividend by a reciprocal fits 64 bits
pub reciprocal_fits : (x d m : ℕ) → x ≤ 511 * d → d ≤ 2 ^ 30 → Reciprocal d m → x * m < 2 ^ 64
reciprocal_fits x d m hx hd s = omega (arith, mul-le-mul_right m hx, s.most)

-- that of d up to 2^23 is near enough for every dividend
pub near_enough : (x d m : ℕ) → x ≤ 511 * d → d ≤ 8388608 → Reciprocal d m → x * (m * (2 * d) - 2 ^ 56) < 2 ^ 56
near_enough x d m hx hd s =
    let e : m * (2 * d) - 2 ^ 56 ≤ 2 * d = omega (arith, s.most) in
    omega (arith, mul-le-mul hx e, mul-le-mul hd hd)

-- Laws of `mix`: its denominator, and how far two mixtures are apart.
use mathlib.Core.Path.{◌≡◌, ap, ap₂}
use mathlib.Core.Logic.{◌⊎◌, inl, inr}
use Prim.Native.Nat.{ℕ, ◌+◌, ◌*◌, ◌-◌, ◌≤◌, ◌<◌}
use native.Mathlib.Nat.{mul-le-mul_left, mul-le-mul_right, add-sub_of_le, sub_self, mul-pos}
use native.Mathlib.Omega.{arith}
use Rattle.numbers.specs.Fraction.{Frac, ◌over◌, ◌⊕◌, ◌≼◌, Within}
use Rattle.numbers.proofs.Order.{lt_or_le}
use Rattle.numbers.proofs.Fraction.{within_same}
use Rattle.bound.specs.Exact.{whole, times, mix}

pub mix-den : (e : Frac) (v : ℕ) (c : Frac) → 0 < e.den → 0 < c.den → 0 < (mix e v c).den
unfolding mix
mix-den e v c he hc = mul-pos he hc

-- a whole number u becomes (u·(d − n) + v·n) over d
pub mix-whole : (u v : ℕ) (c : Frac) → mix (whole u) v c ≡ (u * (c.den - c.num) + v * c.num) over c.den
unfolding mix
mix-whole u v c = ap₂ ◌over◌ (omega arith) (omega arith)

-- whole coverage leaves the level, whatever was there before
pub mix-covers : (e : Frac) (v : ℕ) (c : Frac) → c.num ≡ c.den → Within (whole v) (mix e v c) (whole 0)
unfolding mix
mix-covers e v c h = within_same (whole v) (mix e v c) (whole 0) (rw (h, sub_self) (omega arith))

-- ---- two fractions by the same coverage: no further apart than they were
mix_le : (p q b : Frac) (v : ℕ) (c : Frac) → c.num ≤ c.den → p ≼ q ⊕ b → mix p v c ≼ mix q v c ⊕ b
unfolding mix
mix_le p q b v c le h =
    let rest : c.den - c.num ≤ c.den = omega arith in
    omega (arith, mul-le-mul_left ((c.den - c.num) * c.den) h, mul-le-mul_left (b.num * q.den * p.den * c.den) rest)

pub mix-within : (p q b : Frac) (v : ℕ) (c : Frac) → c.num ≤ c.den → Within p q b → Within (mix p v c) (mix q v c) b
mix-within p q b v c le h = (mix_le p q b v c le h.0, mix_le q p b v c le h.1)

-- ---- a whole number by two coverages that are off by g: at most s·g apart, where number and level are at most s apart
module _ (u v : ℕ) (c : Frac) (le : c.num ≤ c.den) where
  -- u + (v − u)·c
  above : u ≤ v → u * (c.den - c.num) + v * c.num ≡ u * c.den + (v - u) * c.num
  above o = omega (arith, ap (λ (x : ℕ). u * x) (add-sub_of_le le), ap (λ (x : ℕ). x * c.num) (add-sub_of_le o))

  -- u − (u − v)·c
  below : v ≤ u → u * (c.den - c.num) + v * c.num + (u - v) * c.num ≡ u * c.den
  below o = omega (arith, ap (λ (x : ℕ). u * x) (add-sub_of_le le), ap (λ (x : ℕ). x * c.num) (add-sub_of_le o))

module _ (u k s x x' : ℕ) (c c' g : Frac) (small : k ≤ s) where
  rise : x ≡ u * c.den + k * c.num → x' ≡ u * c'.den + k * c'.num → c ≼ c' ⊕ g → x over c.den ≼ x' over c'.den ⊕ times s g
  rise e e' h = rw (e, e') (omega (arith, mul-le-mul_left k h, mul-le-mul_right (g.num * c.den * c'.den) small))

  fall : x + k * c.num ≡ u * c.den → x' + k * c'.num ≡ u * c'.den → c' ≼ c ⊕ g → x over c.den ≼ x' over c'.den ⊕ times s g
  fall e e' h =
      omega (
        arith,
        ap (λ (y : ℕ). y * (c'.den * g.den)) e,
        ap (λ (y : ℕ). y * (c.den * g.den)) e',
        mul-le-mul_left k h,
        mul-le-mul_right (g.num * c.den * c'.den) small,
      )

module _ (u v s : ℕ) (g : Frac) (up : v ≤ u + s) (down : u ≤ v + s) where
  off_le : (c c' : Frac) → c.num ≤ c.den → c'.num ≤ c'.den → Within c c' g → mix (whole u) v c ≼ mix (whole u) v c' ⊕ times s g
  off_le c c' le le' h = rw (mix-whole u v c, mix-whole u v c') (go (lt_or_le u v))
    where
      x : Frac → ℕ
      x c = u * (c.den - c.num) + v * c.num

      go : (u < v) ⊎ (v ≤ u) → x c over c.den ≼ x c' over c'.den ⊕ times s g
      go (inl o) =
          let o' : u ≤ v = omega arith in
          rise u (v - u) s (x c) (x c') c c' g (omega arith) (above u v c le o') (above u v c' le' o') h.0
      go (inr o) = fall u (u - v) s (x c) (x c') c c' g (omega arith) (below u v c le o) (below u v c' le' o) h.1

  pub mix-off : (c c' : Frac) → c.num ≤ c.den → c'.num ≤ c'.den → Within c c' g
      → Within (mix (whole u) v c) (mix (whole u) v c') (times s g)
  mix-off c c' le le' h = (off_le c c' le le' h, off_le c' c le' le (h.1, h.0))

-- Orders of the products that the closed rows are made of.
use mathlib.Core.Path.{◌≡◌, ap, ap₂}
use mathlib.Core.Logic.{⊎_elim}
use Prim.Native.Nat.{ℕ, ◌+◌, ◌*◌, ◌-◌, ◌≤◌, ◌<◌}
use native.Mathlib.Nat.{mul-le-mul, mul-le-mul_left, mul-pos, eq-zero-or-pos}
use native.Mathlib.Omega.{arith}
use Rattle.numbers.specs.Fraction.{◌over◌, Within}
use Rattle.numbers.proofs.Order.{ring, twice_product}
use Rattle.bands.specs.inner.Rows.{cut_excess}

-- 8ls + t² = 4s(r + s) + w², where 2s = t + w and 2l = r + w
third-row : (t w r l s : ℕ) → 2 * s ≡ t + w → 2 * l ≡ r + w → 8 * (l * s) + t * t ≡ 4 * (s * (r + s)) + w * w
third-row t w r l s hs hl =
    let ls = ap₂ ◌*◌ hl hs in
    let rs = ap (λ (x : ℕ). r * x) hs in
    let ss = ap₂ ◌*◌ hs hs in
    simp ring (omega (arith, simp ring at ls, simp ring at rs, simp ring at ss))

module _ (l s r : ℕ) (hs : s ≤ l) (hr : r < 2 * l) where
  abbrev t : ℕ
  t = cut_excess l s r

  -- t² ≤ 2·s·r
  pub square_le_rest : t * t ≤ 2 * (s * r)
  square_le_rest = let h : t * t ≤ 2 * s * r = mul-le-mul (omega arith) (omega arith) in omega arith

  -- the lowest row is (2l − r)² where t is not negative
  pub lowest : 2 * l ≤ r + 2 * s → 8 * (l * s) + t * t ≡ 4 * (s * (r + s)) + (2 * l - r) * (2 * l - r)
  lowest h = third-row t (2 * l - r) r l s (omega arith) (omega arith)

  pub lower_pos : 0 < s → 4 * (s * (r + s)) < 8 * (l * s) + t * t
  lower_pos p = ⊎_elim flat (λ h. omega (arith, lowest (omega arith), mul-pos {m = 2 * l - r} {n = 2 * l - r} (omega arith) (omega arith))) (eq-zero-or-pos t)
    where
      flat : t ≡ 0 → 4 * (s * (r + s)) < 8 * (l * s) + t * t
      flat h = let g : s * (r + s + s) ≤ s * (2 * l) = mul-le-mul_left s (omega arith) in omega (arith, mul-pos p p)

  pub middle_pos : 0 < s → 2 * (t * t) < 4 * (s * (r + s))
  middle_pos p = omega (arith, square_le_rest, mul-pos p p)

  -- t² ≤ 2st ≤ t² + s²: what the approximate rows are off by
  pub off-least : t * t ≤ 2 * (s * t)
  off-least = let h : t * t ≤ 2 * s * t = mul-le-mul (omega arith) (omega arith) in omega arith

  pub off-most : 2 * (s * t) ≤ t * t + s * s
  off-most = omega (arith, twice_product s t)

-- A over 4l and E over 8ls are within s over 4kl of each other, where 2sA and E are within c, and c·k is 2s²
pub within_by : (l s A E c k : ℕ) → 2 * (s * A) ≤ E + c → E ≤ 2 * (s * A) + c → c * k ≡ 2 * (s * s)
    → Within (A over 4 * l) (E over 8 * l * s) (s over 4 * k * l)
within_by l s A E c k h g e =
    let m : ℕ = 16 * (k * (l * l)) in
    let f = ap (λ (x : ℕ). 16 * (l * l) * x) e in
    (omega (arith, mul-le-mul_left m h), omega (arith, mul-le-mul_left m g))

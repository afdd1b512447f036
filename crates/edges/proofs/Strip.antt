-- `strip H p` is P(p) − P(p − H) of a natural p. It is convex: over k units it grows by at least 2·k times the lower of the two heights,
-- and by at most 2·k times the higher, each brought into the row.
use mathlib.Core.Path.{◌≡◌, ap}
use mathlib.Core.Logic.{⊎_elim}
use Prim.Native.Nat.{ℕ, ◌+◌, ◌*◌, ◌-◌, ◌≤◌, ◌<◌, min}
use native.Mathlib.Nat.{mul-le-mul_left, mul-le-mul_right}
use native.Mathlib.Omega.{arith}
use Rattle.numbers.proofs.Order.{lt_or_le, twice_product}
use Rattle.edges.specs.inner.Strip.{strip}

pub strip_in : (H p : ℕ) → p ≤ H → strip H p ≡ p * p
unfolding strip
strip_in H p h =
    let m : min p H ≡ p = omega arith in
    let z : p - H ≡ 0 = omega arith in
    rw (m, z) (omega arith)

pub strip-past : (H p : ℕ) → H ≤ p → strip H p ≡ H * H + 2 * (H * (p - H))
unfolding strip
strip-past H p h = let m : min p H ≡ H = omega arith in rw m

pub strip_zero : (H : ℕ) → strip H 0 ≡ 0
strip_zero H = strip_in H 0 (omega arith)

-- P(p) − P(p − H)
pub strip_square : (H p : ℕ) → p * p ≡ strip H p + (p - H) * (p - H)
strip_square H p = ⊎_elim low high (lt_or_le p H)
  where
    low : p < H → p * p ≡ strip H p + (p - H) * (p - H)
    low h =
        let z : p - H ≡ 0 = omega arith in
        rw z (omega (arith, strip_in H p (omega arith)))

    high : H ≤ p → p * p ≡ strip H p + (p - H) * (p - H)
    high h =
        let q : ℕ = p - H in
        let e : p ≡ H + q = omega arith in
        omega (arith, strip-past H p h, ap (λ (x : ℕ). x * x) e)

-- in units that are t times as small
pub strip-scale : (t H p : ℕ) → strip (t * H) (t * p) ≡ t * t * strip H p
strip-scale t H p = ⊎_elim low high (lt_or_le p H)
  where
    low : p < H → strip (t * H) (t * p) ≡ t * t * strip H p
    low h =
        let g : p ≤ H = omega arith in
        omega (arith, strip_in (t * H) (t * p) (mul-le-mul_left t g), ap (λ (x : ℕ). t * t * x) (strip_in H p g))

    high : H ≤ p → strip (t * H) (t * p) ≡ t * t * strip H p
    high h =
        let q : ℕ = p - H in
        let e : p ≡ H + q = omega arith in
        let z : t * p - t * H ≡ t * q = omega (arith, ap (λ (x : ℕ). t * x) e) in
        omega (arith, strip-past (t * H) (t * p) (mul-le-mul_left t h), ap (λ (x : ℕ). t * t * x) (strip-past H p h), ap (λ (x : ℕ). t * H * x) z)

-- at two heights, k apart: c and d where they are brought into the row, v and w their strips
pub record Growth (H k c v d w : ℕ) : Type 0 where
  pub rises : c ≤ d
  pub whole : d ≤ H
  pub least : v + 2 * (k * c) ≤ w
  pub most : w ≤ v + 2 * (k * d)

strip-more : (H p k : ℕ) → Growth H k (min p H) (strip H p) (min (p + k) H) (strip H (p + k))
strip-more H p k = ⊎_elim (λ h. ⊎_elim (λ g. inside h g) (λ g. across h g) (lt_or_le (p + k) H)) past (lt_or_le p H)
  where
    inside : p < H → p + k < H → Growth H k (min p H) (strip H p) (min (p + k) H) (strip H (p + k))
    inside h g =
        let m : min p H ≡ p = omega arith in
        let n : min (p + k) H ≡ p + k = omega arith in
        rw (m, n, strip_in H p (omega arith), strip_in H (p + k) (omega arith))
        (record { rises = omega arith; whole = omega arith; least = omega arith; most = omega arith })

    across : p < H → H ≤ p + k → Growth H k (min p H) (strip H p) (min (p + k) H) (strip H (p + k))
    across h g =
        let m : min p H ≡ p = omega arith in
        let n : min (p + k) H ≡ H = omega arith in
        let q : ℕ = p + k - H in
        let t : p + k ≡ H + q = omega arith in
        let s : p ≤ H = omega arith in
        rw (m, n, strip_in H p s, strip-past H (p + k) g)
        (record {
          rises = s;
          whole = omega arith;
          least = omega (arith, ap (λ (x : ℕ). p * x) t, twice_product H p, mul-le-mul_left q s);
          most = omega (arith, ap (λ (x : ℕ). H * x) t, twice_product H p);
        })

    past : H ≤ p → Growth H k (min p H) (strip H p) (min (p + k) H) (strip H (p + k))
    past h =
        let m : min p H ≡ H = omega arith in
        let n : min (p + k) H ≡ H = omega arith in
        let t : p + k - H ≡ p - H + k = omega arith in
        rw (m, n, strip-past H p h, strip-past H (p + k) (omega arith), t)
        (record { rises = omega arith; whole = omega arith; least = omega arith; most = omega arith })

-- from x − y to x' − y', which is k further up; what is below 0 of either counts as 0
pub strip_grows : (H x y x' y' k : ℕ) → x' + y ≡ y' + x + k
    → Growth H k (min (x - y) H) (strip H (x - y)) (min (x' - y') H) (strip H (x' - y'))
strip_grows H x y x' y' k e = ⊎_elim low high (lt_or_le x y)
  where
    low : x < y → Growth H k (min (x - y) H) (strip H (x - y)) (min (x' - y') H) (strip H (x' - y'))
    low h =
        let z : x - y ≡ 0 = omega arith in
        let m : min 0 H ≡ 0 = omega arith in
        let q : ℕ = x' - y' in
        let g = strip-more H 0 q in
        let b : q * min q H ≤ k * min q H = mul-le-mul_right (min q H) (omega arith) in
        let f : 0 + q ≡ q = omega arith in
        let r = rw f at g.most in
        rw (z, m, strip_zero H)
        (record { rises = omega arith; whole = omega arith; least = omega arith; most = omega (arith, r, b, strip_zero H) })

    high : y ≤ x → Growth H k (min (x - y) H) (strip H (x - y)) (min (x' - y') H) (strip H (x' - y'))
    high h = let f : x' - y' ≡ x - y + k = omega arith in rw f (strip-more H (x - y) k)

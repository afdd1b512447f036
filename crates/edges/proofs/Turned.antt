-- The same pixel by its row, x and y exchanged: an edge that rises leaves to its left what it does not leave under it; one that falls
-- leaves the same.
use mathlib.Core.Path.{◌≡◌, ap}
use mathlib.Core.Logic.{⊎_elim}
use Prim.Native.Nat.{ℕ, suc, ◌+◌, ◌*◌, ◌-◌, ◌≤◌}
use native.Mathlib.Nat.{one-mul}
use native.Mathlib.Omega.{arith}
use lib.IntN.{ℤ}
use Rattle.numbers.proofs.Order.{lt_or_le}
use Rattle.numbers.proofs.Integer.{Diff, diff_shift}
use Rattle.edges.specs.Edge.{edge_n}
use Rattle.edges.specs.inner.Strip.{strip}
use Rattle.edges.proofs.Strip.{strip_square, strip_zero}
use Rattle.edges.proofs.Edge.{height_diff, under_rises, under_falls}

-- the squares of what is above 0 of u − v and of v − u
both : (u v : ℕ) → (u - v) * (u - v) + (v - u) * (v - u) + 2 * (u * v) ≡ u * u + v * v
both u v = ⊎_elim low high (lt_or_le u v)
  where
    low : suc u ≤ v → (u - v) * (u - v) + (v - u) * (v - u) + 2 * (u * v) ≡ u * u + v * v
    low h =
        let k : ℕ = v - u in
        let z : u - v ≡ 0 = omega arith in
        let e : v ≡ u + k = omega arith in
        rw z (omega (arith, ap (λ (x : ℕ). x * x) e, ap (λ (x : ℕ). u * x) e, ap (λ (x : ℕ). k * x) e))

    high : v ≤ u → (u - v) * (u - v) + (v - u) * (v - u) + 2 * (u * v) ≡ u * u + v * v
    high h =
        let k : ℕ = u - v in
        let z : v - u ≡ 0 = omega arith in
        let e : u ≡ v + k = omega arith in
        rw z (omega (arith, ap (λ (x : ℕ). x * x) e, ap (λ (x : ℕ). v * x) e, ap (λ (x : ℕ). k * x) e))

-- the edge stands p above the floor at its lower side
rising : (c k p : ℕ) → strip c (p + k) + strip k (c - p) ≡ strip c p + 2 * (c * k)
rising c k p =
    let e : c - p - k ≡ c - (p + k) = omega arith in
    omega (arith, strip_square c (p + k), strip_square k (c - p), strip_square c p, both (p + k) c, both p c, ap (λ (x : ℕ). x * x) e)

-- at its higher side
falling : (c k p : ℕ) → strip c p + strip k (p - c) ≡ strip k p + strip c (p - k)
falling c k p =
    let e : p - c - k ≡ p - k - c = omega arith in
    omega (arith, strip_square c p, strip_square k p, strip_square k (p - c), strip_square c (p - k), ap (λ (x : ℕ). x * x) e)

-- the same where it stands x − y above the floor, and y − x to the right of the pixel's left side
rising_from : (c k x y : ℕ) → strip c (x + k - y) + strip k (y + c - x) ≡ strip c (x - y) + strip k (y - x) + 2 * (c * k)
rising_from c k x y = ⊎_elim low high (lt_or_le x y)
  where
    low : suc x ≤ y → strip c (x + k - y) + strip k (y + c - x) ≡ strip c (x - y) + strip k (y - x) + 2 * (c * k)
    low h =
        let z : x - y ≡ 0 = omega arith in
        let e : x + k - y ≡ k - (y - x) = omega arith in
        let f : y + c - x ≡ y - x + c = omega arith in
        rw (z, e, f, strip_zero c) (omega (arith, rising k c (y - x)))

    high : y ≤ x → strip c (x + k - y) + strip k (y + c - x) ≡ strip c (x - y) + strip k (y - x) + 2 * (c * k)
    high h =
        let z : y - x ≡ 0 = omega arith in
        let e : x + k - y ≡ x - y + k = omega arith in
        let f : y + c - x ≡ c - (x - y) = omega arith in
        rw (z, e, f, strip_zero k) (omega (arith, rising c k (x - y)))

-- An edge of i + 1 + m columns and j + 1 + n rows across a pixel with i of the columns on its left and j of the rows below it. The
-- ends of the same edge by its rows: −i and m + 1 to the right of the pixel's left side.
module _ (i m j n : ℕ) {p q p' q' : ℤ} where
  pub turned-rising : Diff p 0 j → Diff q (n + 1) 0 → Diff p' 0 i → Diff q' (m + 1) 0
      → edge_n 1 i m p q + edge_n 1 j n p' q' ≡ 2 * ((i + 1 + m) * (j + 1 + n))
  unfolding edge_n
  turned-rising d e d' e' =
      let l : ℕ = i + 1 + m in
      let k : ℕ = j + 1 + n in
      let x : ℕ = i * (n + 1) in
      let y : ℕ = (m + 1) * j in
      let a = diff_shift x y (height_diff i (m + 1) d e) (omega arith) in
      let b = diff_shift (x + k) y (height_diff (i + 1) m d e) (omega arith) in
      let a' = diff_shift y x (height_diff j (n + 1) d' e') (omega arith) in
      let b' = diff_shift (y + l) x (height_diff (j + 1) n d' e') (omega arith) in
      rw (one-mul l, one-mul k)
      (omega (arith, under_rises l a b {k = k} (omega arith) (omega arith), under_rises k a' b' {k = l} (omega arith) (omega arith), rising_from l k x y))

  pub turned_falling : Diff p (n + 1) 0 → Diff q 0 j → Diff p' (m + 1) 0 → Diff q' 0 i → edge_n 1 i m p q ≡ edge_n 1 j n p' q'
  unfolding edge_n
  turned_falling d e d' e' =
      let l : ℕ = i + 1 + m in
      let k : ℕ = j + 1 + n in
      let x : ℕ = (m + 1) * (n + 1) in
      let y : ℕ = i * j in
      let a = diff_shift x y (height_diff i (m + 1) d e) (omega arith) in
      let b = diff_shift x (y + k) (height_diff (i + 1) m d e) (omega arith) in
      let a' = diff_shift x y (height_diff j (n + 1) d' e') (omega arith) in
      let b' = diff_shift x (y + l) (height_diff (j + 1) n d' e') (omega arith) in
      let s : x - (y + k) ≡ x - y - k = omega arith in
      let t : x - (y + l) ≡ x - y - l = omega arith in
      rw (one-mul l, one-mul k)
      (omega (
        arith,
        under_falls l a b {k = k} (omega arith) (omega arith),
        under_falls k a' b' {k = l} (omega arith) (omega arith),
        falling l k (x - y),
        ap (strip l) s,
        ap (strip k) t,
      ))

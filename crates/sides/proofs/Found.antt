-- What the code finds of a triangle at offsets is what is defined.
use mathlib.Core.Path.{◌≡◌, refl, ◌∙◌, ap}
use mathlib.Core.Logic.{⊎_elim}
use Prim.Native.Nat.{ℕ, ◌+◌, ◌*◌, ◌^◌, ◌≤◌, ◌<◌}
use native.Mathlib.Nat.{one-mul, eq-zero-or-pos, mul-le-mul}
use native.Mathlib.Omega.{arith}
use borrow.Author.Tests.{le-leb, lt-leb}
use lib.IntN.{ℤ, pos, negsuc, neg_ℤ, nat_abs, ◌+ℤ◌, ◌-ℤ◌, ◌*ℤ◌}
use mir.Syntax.{w64}
use mir.Val.{SFits, to_z, of_z}
use mir.Facts.{to_z_pos, to_z-of_z}
use Rattle.numbers.specs.inner.Order.{dist}
use Rattle.numbers.proofs.Integer.{plus, minus, diff_of, diff_pos, diff_neg, diff_add, diff_mul, diff_minus, diff_abs, diff_unique, sfits_diff}
use Rattle.edges.specs.Edge.{by_zero, under_d, edge_d}
use Rattle.edges.specs.inner.Strip.{under_at, whole_most}
use Rattle.edges.proofs.Edge.{edge_at}
use Rattle.edges.proofs.Found.{whole-most, whole_upright, whole_wide}
use Rattle.limits.specs.Limits.{triangle_most}
use Rattle.sides.specs.Triangle.{share_n, by_run, side_n, side_d, sum_n, cover_n, cover_d}
use Rattle.sides.specs.inner.Offsets.{at, Near, SideIs}

-- ---- a side
module _ (xa ya xb yb : ℕ) where
  pub found-whole : side_d (at xa ya) (at xb yb) ≡ by_zero (dist xa xb) 1 (under_d (dist xa xb) (dist ya yb))
  unfolding side_d edge_d
  found-whole =
      let e : nat_abs (pos xb -ℤ pos xa) ≡ dist xa xb = diff_abs (diff_minus (diff_pos xb) (diff_pos xa)) ∙ omega arith in
      let f : nat_abs (pos yb -ℤ pos ya) ≡ dist ya yb = diff_abs (diff_minus (diff_pos yb) (diff_pos ya)) ∙ omega arith in
      rw (e, f, one-mul (dist xa xb))

  pub side_most : Near xa ya xb yb → side_d (at xa ya) (at xb yb) ≤ whole_most
  side_most n = rw found-whole (by_zero-most (dist xa xb) n.wide)
    where
      by_zero-most : (l : ℕ) → l ≤ triangle_most → by_zero l 1 (under_d l (dist ya yb)) ≤ whole_most
      by_zero-most l h = ⊎_elim (λ (z : l ≡ 0). omega (arith, whole_upright l (dist ya yb) z)) (λ (p : 0 < l). rw (whole_wide l (dist ya yb) p) (whole-most l (dist ya yb) h n.high)) (eq-zero-or-pos l)

  pub found_share : (x y i m : ℕ) → xa + i ≡ x → x + 1 + m ≡ xb
      → share_n (at xa ya) (at xb yb) (pos x) (pos y) ≡ under_at (i + 1 + m) ((m + 1) * ya + i * yb) (m * ya + (i + 1) * yb) y
  unfolding share_n
  found_share x y i m e f =
      let g : nat_abs (pos x -ℤ pos xa) ≡ i = diff_abs (diff_minus (diff_pos x) (diff_pos xa)) ∙ omega arith in
      let h : nat_abs (pos xb -ℤ (pos x +ℤ pos 1)) ≡ m = diff_abs (diff_minus (diff_pos xb) (diff_add (diff_pos x) (diff_pos 1))) ∙ omega arith in
      rw (g, h) (edge_at i m ya yb y)

pub whole_by : {l k m n d : ℕ} → l ≡ m → k ≡ n → d ≡ by_zero l 1 (under_d l k) → d ≡ by_zero m 1 (under_d m n)
whole_by e f g = g ∙ rw (e, f)

-- by where the column lies
module _ (xa ya xb yb x y : ℕ) where
  abbrev pub given : ℤ
  given = side_n (at xa ya) (at xb yb) (pos x) (pos y)

  pub found_right : {n : ℕ} → xa ≤ x → x < xb → n ≡ share_n (at xa ya) (at xb yb) (pos x) (pos y) → pos n ≡ given
  unfolding side_n by_run
  found_right e f g = rw (le-leb xa x e, lt-leb xb x f) (ap pos g)

  pub found_left : {n : ℕ} → xb ≤ x → x < xa → n ≡ share_n (at xb yb) (at xa ya) (pos x) (pos y) → neg_ℤ (pos n) ≡ given
  unfolding side_n by_run
  found_left e f g = rw (lt-leb xa x f, le-leb xb x e) (ap (λ (k : ℕ). neg_ℤ (pos k)) g)

  pub found-past : xa ≤ x → xb ≤ x → pos 0 ≡ given
  unfolding side_n by_run
  found-past e f = rw (le-leb xa x e, le-leb xb x f)

  pub found_ahead : x < xa → x < xb → pos 0 ≡ given
  unfolding side_n by_run
  found_ahead e f = rw (lt-leb xa x e, lt-leb xb x f)

-- what the machine takes away
pub negative : (n : ℕ) → n ≤ whole_most → let z = to_z w64 (of_z w64 (pos 0 -ℤ to_z w64 n)) in (z ≡ neg_ℤ (pos n)) × (nat_abs z ≤ whole_most)
negative n h =
    let k : n < 2 ^ 63 = omega arith in
    let d = diff_minus (diff_pos 0) (diff_pos n) in
    let s : SFits w64 (pos 0 -ℤ pos n) = sfits_diff d (omega arith) (omega arith) in
    rw (to_z_pos w64 k, to_z-of_z s) (diff_unique d (diff_neg (diff_pos n)) (omega arith), omega (arith, diff_abs d))

-- one's n over what all three are over
pub product_small : (n : ℤ) (d e : ℕ) → nat_abs n ≤ whole_most → d ≤ whole_most → e ≤ whole_most
    → SFits w64 (n *ℤ pos (d * e)) × (nat_abs (n *ℤ pos (d * e)) ≤ 2 ^ 45)
product_small n d e h p q =
    let z = diff_mul (diff_of n) (diff_pos (d * e)) in
    let k = mul-le-mul (size n h) (mul-le-mul p q) in
    (sfits_diff z (omega (arith, k)) (omega (arith, k)), omega (arith, diff_abs z, k))
  where
    size : (n : ℤ) → nat_abs n ≤ whole_most → plus n + minus n ≤ whole_most
    size (pos n) h = omega arith
    size (negsuc n) h = omega arith

module _ (x₀ y₀ x₁ y₁ x₂ y₂ x y : ℕ) {n₁ n₂ n₃ : ℤ} {d₁ d₂ d₃ : ℕ}
    (p : SideIs x₀ y₀ x₁ y₁ x y n₁ d₁) (q : SideIs x₁ y₁ x₂ y₂ x y n₂ d₂) (r : SideIs x₂ y₂ x₀ y₀ x y n₃ d₃) where
  pub found_cover : {a b c : ℤ} → a ≡ n₁ *ℤ pos (d₂ * d₃) → b ≡ n₂ *ℤ pos (d₁ * d₃) → c ≡ n₃ *ℤ pos (d₁ * d₂)
      → nat_abs (a +ℤ b +ℤ c) ≡ cover_n (at x₀ y₀) (at x₁ y₁) (at x₂ y₂) (pos x) (pos y)
  unfolding cover_n sum_n
  found_cover e f g = rw (e, f, g, ← p.whole, ← q.whole, ← r.whole, ← p.value, ← q.value, ← r.value) refl

  pub found-over : d₁ * d₂ * d₃ ≡ cover_d (at x₀ y₀) (at x₁ y₁) (at x₂ y₂)
  unfolding cover_d
  found-over = rw (← p.whole, ← q.whole, ← r.whole) refl

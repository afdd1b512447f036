-- The coverage by columns is the coverage by rows. A side's share of the pixel by its column and its share by its row make up whether
-- its end has the pixel to the left and below, less whether its start has; going round, these cancel.
use mathlib.Core.Path.{◌≡◌, refl, ◌∙◌, ap}
use mathlib.Core.Bool.{Bool, true, false}
use Prim.Native.Nat.{ℕ, ◌+◌, ◌*◌}
use native.Mathlib.Omega.{arith}
use lib.IntN.{ℤ, pos, neg_ℤ}
use lib.Signed.{le_z}
use Rattle.numbers.specs.inner.Order.{dist}
use Rattle.numbers.proofs.Order.{dist-times}
use Rattle.numbers.proofs.Integer.{Diff, diff_pos, diff_neg, diff_abs}
use Rattle.sides.specs.Triangle.{Corner, share_n, by_run, side_n, side_d, cover_n, cover_d}
use Rattle.sides.specs.inner.Offsets.{turned}
use Rattle.sides.proofs.Sides.{share_none, share_full, both_rising, both_falling, back_whole}
use Rattle.sides.proofs.Round.{sum_diff}

-- 1 for a corner that is right of the pixel's left side and above its floor, by the two tests
unfoldable pub beyond : Bool → Bool → ℕ
beyond false false = 1
beyond false true = 0
beyond true t = 0

-- n over d by the column, n' over d' by the row; s for the start, e for the end
record Balance (n n' : ℤ) (d d' s e : ℕ) : Type 0 where
  add : ℕ
  take : ℕ
  add' : ℕ
  take' : ℕ
  value : Diff n add take
  value' : Diff n' add' take'
  law : add * d' + add' * d + s * (d * d') ≡ take * d' + take' * d + e * (d * d')

-- a side that is over neither, over the column only, over the row only, over both
module _ {d d' : ℕ} where
  neither : (k : ℕ) → Balance (pos 0) (pos 0) d d' k k
  neither k = record { add = 0; take = 0; add' = 0; take' = 0; value = diff_pos 0; value' = diff_pos 0; law = refl }

  right : (n k : ℕ) → n * d' ≡ k * (d * d') → Balance (pos n) (pos 0) d d' 0 k
  right n k h = record { add = n; take = 0; add' = 0; take' = 0; value = diff_pos n; value' = diff_pos 0; law = omega arith }

  left : (n k : ℕ) → n * d' ≡ k * (d * d') → Balance (neg_ℤ (pos n)) (pos 0) d d' k 0
  left n k h = record { add = 0; take = n; add' = 0; take' = 0; value = diff_neg (diff_pos n); value' = diff_pos 0; law = omega arith }

  up : (n k : ℕ) → n * d ≡ k * (d * d') → Balance (pos 0) (pos n) d d' 0 k
  up n k h = record { add = 0; take = 0; add' = n; take' = 0; value = diff_pos 0; value' = diff_pos n; law = omega arith }

  down : (n k : ℕ) → n * d ≡ k * (d * d') → Balance (pos 0) (neg_ℤ (pos n)) d d' k 0
  down n k h = record { add = 0; take = 0; add' = 0; take' = n; value = diff_pos 0; value' = diff_neg (diff_pos n); law = omega arith }

  right_up : (n n' : ℕ) → n * d' + n' * d ≡ d * d' → Balance (pos n) (pos n') d d' 0 1
  right_up n n' h = record { add = n; take = 0; add' = n'; take' = 0; value = diff_pos n; value' = diff_pos n'; law = omega arith }

  left_down : (n n' : ℕ) → n * d' + n' * d ≡ d * d' → Balance (neg_ℤ (pos n)) (neg_ℤ (pos n')) d d' 1 0
  left_down n n' h = record { add = 0; take = n; add' = 0; take' = n'; value = diff_neg (diff_pos n); value' = diff_neg (diff_pos n'); law = omega arith }

  right-down : (n n' : ℕ) → n * d' ≡ n' * d → Balance (pos n) (neg_ℤ (pos n')) d d' 0 0
  right-down n n' h = record { add = n; take = 0; add' = 0; take' = n'; value = diff_pos n; value' = diff_neg (diff_pos n'); law = omega arith }

  left_up : (n n' : ℕ) → n * d' ≡ n' * d → Balance (neg_ℤ (pos n)) (pos n') d d' 0 0
  left_up n n' h = record { add = 0; take = n; add' = n'; take' = 0; value = diff_neg (diff_pos n); value' = diff_pos n'; law = omega arith }

none_is : (n d d' : ℕ) → n ≡ 0 → n * d' ≡ 0 * (d * d')
none_is n d d' e = rw e (omega arith)

none_is' : (n d d' : ℕ) → n ≡ 0 → n * d ≡ 0 * (d * d')
none_is' n d d' e = rw e (omega arith)

full_is : (n d d' : ℕ) → n ≡ d → n * d' ≡ 1 * (d * d')
full_is n d d' e = rw e (omega arith)

full_is' : (n d d' : ℕ) → n ≡ d' → n * d ≡ 1 * (d * d')
full_is' n d d' e = rw e (omega arith)

balance : (a b : Corner) (x y : ℤ)
    → Balance (side_n a b x y) (side_n (turned a) (turned b) y x) (side_d a b) (side_d (turned a) (turned b))
    (beyond (le_z a.x x) (le_z a.y y)) (beyond (le_z b.x x) (le_z b.y y))
unfolding side_n by_run beyond
balance a b x y = go (le_z a.x x) (le_z a.y y) (le_z b.x x) (le_z b.y y) refl refl refl refl
  where
    go : (s s' t t' : Bool) → le_z a.x x ≡ s → le_z a.y y ≡ s' → le_z b.x x ≡ t → le_z b.y y ≡ t'
        → Balance (by_run s t (pos (share_n a b x y)) (neg_ℤ (pos (share_n b a x y))))
        (by_run s' t' (pos (share_n (turned a) (turned b) y x)) (neg_ℤ (pos (share_n (turned b) (turned a) y x))))
        (side_d a b) (side_d (turned a) (turned b)) (beyond s s') (beyond t t')
    go true true true true e e' f f' = neither 0
    go true true true false e e' f f' = up _ 0 (none_is' _ _ _ (share_none (turned a) (turned b) y x e' f' e f))
    go true true false true e e' f f' = right _ 0 (none_is _ _ _ (share_none a b x y e f e' f'))
    go true true false false e e' f f' = right_up _ _ (both_rising a b x y e f e' f')
    go true false true true e e' f f' = down _ 0 (none_is' _ _ _ (share_none (turned b) (turned a) y x f' e' f e))
    go true false true false e e' f f' = neither 0
    go true false false true e e' f f' = right-down _ _ (both_falling a b x y e f e' f')
    go true false false false e e' f f' = right _ 1 (full_is _ _ _ (share_full a b x y e f e' f'))
    go false true true true e e' f f' = left _ 0 (none_is _ _ _ (share_none b a x y f e f' e'))
    go false true true false e e' f f' = left_up _ _ (rw (back_whole a b, back_whole (turned a) (turned b)) at (both_falling b a x y f e f' e'))
    go false true false true e e' f f' = neither 0
    go false true false false e e' f f' = up _ 1 (full_is' _ _ _ (share_full (turned a) (turned b) y x e' f' e f))
    go false false true true e e' f f' = left_down _ _ (rw (back_whole a b, back_whole (turned a) (turned b)) at (both_rising b a x y f e f' e'))
    go false false true false e e' f f' = left _ 1 (full_is _ _ _ (share_full b a x y f e f' e' ∙ back_whole a b))
    go false false false true e e' f f' = down _ 1 (full_is' _ _ _ (share_full (turned b) (turned a) y x f' e' f e ∙ back_whole (turned a) (turned b)))
    go false false false false e e' f f' = neither 1

-- ---- three sides
-- a side's law over the three denominators: D is its own by the other two
scaled : (u w u' w' d d' f f' D D' p q : ℕ) → D ≡ d * f → D' ≡ d' * f' → u * d' + u' * d + p * (d * d') ≡ w * d' + w' * d + q * (d * d')
    → u * f * D' + u' * f' * D + p * (D * D') ≡ w * f * D' + w' * f' * D + q * (D * D')
scaled u w u' w' d d' f f' D D' p q e e' h = rw (e, e') (omega (arith, ap (λ (v : ℕ). v * (f * f')) h))

added : (u₁ u₂ u₃ w₁ w₂ w₃ u₁' u₂' u₃' w₁' w₂' w₃' D D' p q r : ℕ)
    → u₁ * D' + u₁' * D + p * (D * D') ≡ w₁ * D' + w₁' * D + q * (D * D')
    → u₂ * D' + u₂' * D + q * (D * D') ≡ w₂ * D' + w₂' * D + r * (D * D')
    → u₃ * D' + u₃' * D + r * (D * D') ≡ w₃ * D' + w₃' * D + p * (D * D')
    → (u₁ + u₂ + u₃) * D' + (u₁' + u₂' + u₃') * D ≡ (w₁ + w₂ + w₃) * D' + (w₁' + w₂' + w₃') * D
added u₁ u₂ u₃ w₁ w₂ w₃ u₁' u₂' u₃' w₁' w₂' w₃' D D' p q r e f g = omega arith

even : (u w u' w' D D' : ℕ) → u * D' + u' * D ≡ w * D' + w' * D → dist u w * D' ≡ dist u' w' * D
even u w u' w' D D' e = rw (dist-times u w D', dist-times u' w' D) (omega arith)

-- the fraction by columns is the fraction by rows
pub cover_turned : (a b c : Corner) (x y : ℤ)
    → cover_n a b c x y * cover_d (turned a) (turned b) (turned c) ≡ cover_n (turned a) (turned b) (turned c) y x * cover_d a b c
unfolding cover_n cover_d
cover_turned a b c x y =
    let p = balance a b x y in
    let q = balance b c x y in
    let r = balance c a x y in
    let D : ℕ = side_d a b * side_d b c * side_d c a in
    let D' : ℕ = side_d (turned a) (turned b) * side_d (turned b) (turned c) * side_d (turned c) (turned a) in
    let s = sum_diff (side_d a b) (side_d b c) (side_d c a) p.value q.value r.value in
    let t = sum_diff (side_d (turned a) (turned b)) (side_d (turned b) (turned c)) (side_d (turned c) (turned a)) p.value' q.value' r.value' in
    rw (diff_abs s, diff_abs t)
    (even _ _ _ _ D D' (added _ _ _ _ _ _ _ _ _ _ _ _ D D' _ _ _
    (scaled _ _ _ _ (side_d a b) (side_d (turned a) (turned b)) _ _ D D' _ _ (omega arith) (omega arith) p.law)
    (scaled _ _ _ _ (side_d b c) (side_d (turned b) (turned c)) _ _ D D' _ _ (omega arith) (omega arith) q.law)
    (scaled _ _ _ _ (side_d c a) (side_d (turned c) (turned a)) _ _ D D' _ _ (omega arith) (omega arith) r.law)))

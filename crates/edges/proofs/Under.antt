-- The rule by naturals. A height is given as a difference x − y; what is above 0 of it is x - y.
use mathlib.Core.Path.{◌≡◌, refl, ◌∙◌, ap}
use Prim.Native.Nat.{ℕ, zero, suc, ◌+◌, ◌*◌, ◌-◌, ◌<◌, min}
use native.Mathlib.Omega.{arith}
use lib.IntN.{ℤ, pos, negsuc, nat_abs, ◌-ℤ◌}
use Rattle.numbers.specs.inner.Order.{dist}
use Rattle.numbers.proofs.Integer.{Diff, plus, diff_pos, diff_minus, diff_shift, diff_abs, plus_diff}
use Rattle.edges.specs.Edge.{in_row, by_zero, under_n, under_d}
use Rattle.edges.specs.inner.Strip.{strip, under_at}
use Rattle.edges.proofs.Slant.{slant_strips}

pub in_row_diff : (H : ℕ) {z : ℤ} {x y : ℕ} → Diff z x y → in_row H z ≡ min (x - y) H
unfolding in_row
in_row_diff H {z} d = is z ∙ ap (λ (n : ℕ). min n H) (plus_diff d)
  where
    is : (z : ℤ) → in_row H z ≡ min (plus z) H
    is (pos h) = refl
    is (negsuc h) = omega arith

-- how far the edge rises or falls
pub rise_is : {a b : ℤ} {x y x' y' : ℕ} → Diff a x y → Diff b x' y' → nat_abs (b -ℤ a) ≡ dist (x' + y) (y' + x)
rise_is d d' = diff_abs (diff_minus d' d)

module _ (H : ℕ) {a b : ℤ} {x y x' y' : ℕ} (d : Diff a x y) (d' : Diff b x' y') where
  pub under_level : x' + y ≡ y' + x → under_n H a b ≡ min (x - y) H
  unfolding under_n by_zero
  under_level e =
      let z : nat_abs (b -ℤ a) ≡ 0 = rise_is d d' ∙ omega arith in
      rw z (in_row_diff H d)

  slanted : (k : ℕ) → 0 < k → nat_abs (b -ℤ a) ≡ k → under_n H a b ≡ dist (strip H (x' - y')) (strip H (x - y))
  unfolding under_n by_zero
  slanted zero h e = absurd (omega arith)
  slanted (suc k) h e = rw e (diff_abs (slant_strips H d d'))

  pub under_slanted : 0 < dist (x' + y) (y' + x) → under_n H a b ≡ dist (strip H (x' - y')) (strip H (x - y))
  under_slanted h = slanted (dist (x' + y) (y' + x)) h (rise_is d d')

pub whole-level : (H : ℕ) → under_d H 0 ≡ H
unfolding under_d by_zero
whole-level H = refl

pub whole_slanted : (H k : ℕ) → 0 < k → under_d H k ≡ 2 * H * k
unfolding under_d by_zero
whole_slanted H zero h = absurd (omega arith)
whole_slanted H (suc k) h = refl

pub whole_pos : (H k : ℕ) → 0 < H → 0 < under_d H k
whole_pos H zero h = omega (arith, whole-level H)
whole_pos H (suc k) h = omega (arith, whole_slanted H (suc k) (omega arith))

-- ---- in row z, from the floor of row 0
module _ (H from to z : ℕ) where
  pub lower : Diff (pos from -ℤ pos (H * z)) from (H * z)
  lower = diff_shift from (H * z) (diff_minus (diff_pos from) (diff_pos (H * z))) (omega arith)

  pub upper : Diff (pos to -ℤ pos (H * z)) to (H * z)
  upper = diff_shift to (H * z) (diff_minus (diff_pos to) (diff_pos (H * z))) (omega arith)

  pub at_level : from ≡ to → under_at H from to z ≡ min (from - H * z) H
  unfolding under_at
  at_level e = under_level H lower upper (omega arith)

  pub at_slanted : (from ≡ to → ⊥) → under_at H from to z ≡ dist (strip H (to - H * z)) (strip H (from - H * z))
  unfolding under_at
  at_slanted f = under_slanted H lower upper (omega arith)

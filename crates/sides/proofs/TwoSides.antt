-- The coverage in one row by the two sides that cross it: what is left of one less what is left of the other. The corners a, b, c are
-- in the order in which y rises, as drawing takes them.
use mathlib.Core.Path.{◌≡◌, sym, ◌∙◌, ap}
use mathlib.Core.Bool.{Bool, true, false}
use mathlib.Core.Logic.{◌⊎◌, inl, inr}
use Prim.Native.Nat.{ℕ, ◌*◌, ◌≤◌, ◌<◌}
use native.Mathlib.Nat.{le_of_mul-le-mul_left}
use native.Mathlib.Omega.{arith}
use lib.IntN.{ℤ}
use lib.Signed.{le_z}
use Rattle.numbers.specs.inner.Order.{dist}
use Rattle.numbers.proofs.Order.{dist-times}
use Rattle.numbers.proofs.Integer.{Diff, diff_pos, diff_neg, diff_abs}
use Rattle.sides.specs.Triangle.{Corner, share_n, by_run, side_n, side_d, cover_n, cover_d}
use Rattle.sides.specs.inner.Offsets.{turned, row_d, between_n, between_d}
use Rattle.sides.proofs.Sides.{back_whole, side_pos}
use Rattle.sides.proofs.Round.{sum_diff, cover_pos}
use Rattle.sides.proofs.Turned.{cover_turned}

-- a side by the tests of its ends
pub runs_right : (a b : Corner) (x y : ℤ) → le_z a.x x ≡ true → le_z b.x x ≡ false → Diff (side_n a b x y) (share_n a b x y) 0
unfolding side_n by_run
runs_right a b x y e f = rw (e, f) (diff_pos (share_n a b x y))

pub runs_left : (a b : Corner) (x y : ℤ) → le_z a.x x ≡ false → le_z b.x x ≡ true → Diff (side_n a b x y) 0 (share_n b a x y)
unfolding side_n by_run
runs_left a b x y e f = rw (e, f) (diff_neg (diff_pos (share_n b a x y)))

pub stays : (a b : Corner) (x y : ℤ) (s : Bool) → le_z a.x x ≡ s → le_z b.x x ≡ s → Diff (side_n a b x y) 0 0
unfolding side_n by_run
stays a b x y true e f = rw (e, f) (diff_pos 0)
stays a b x y false e f = rw (e, f) (diff_pos 0)

cancelled : (k u w n d : ℕ) → 0 < k → n * (k * u) ≡ w * k * d → n * u ≡ w * d
cancelled k u w n d p e =
    let h : n * u ≤ w * d = le_of_mul-le-mul_left {k = k} (omega arith) p in
    let g : w * d ≤ n * u = le_of_mul-le-mul_left {k = k} (omega arith) p in
    omega arith

whole-left : (a b c : Corner) → cover_d a b c ≡ side_d b c * (side_d a b * side_d a c)
unfolding cover_d
whole-left a b c = rw (back_whole a c) (omega arith)

whole-right : (a b c : Corner) → cover_d a b c ≡ side_d a b * (side_d b c * side_d a c)
unfolding cover_d
whole-right a b c = rw (back_whole a c) (omega arith)

-- a coverage of two sides, by the column
module _ (a b c : Corner) (x y : ℤ) where
  -- a is left of the column, b and c are not
  one_left : le_z a.x x ≡ true → le_z b.x x ≡ false → le_z c.x x ≡ false
      → cover_n a b c x y ≡ dist (share_n a b x y * side_d a c) (share_n a c x y * side_d a b) * side_d b c
  unfolding cover_n
  one_left e f g =
      diff_abs (sum_diff (side_d a b) (side_d b c) (side_d c a) (runs_right a b x y e f) (stays b c x y false f g) (runs_left c a x y g e))
      ∙ rw (back_whole a c) (sym (dist-times (share_n a b x y * side_d a c) (share_n a c x y * side_d a b) (side_d b c) ∙ omega arith))

  -- a and b are, c is not
  two_left : le_z a.x x ≡ true → le_z b.x x ≡ true → le_z c.x x ≡ false
      → cover_n a b c x y ≡ dist (share_n b c x y * side_d a c) (share_n a c x y * side_d b c) * side_d a b
  unfolding cover_n
  two_left e f g =
      diff_abs (sum_diff (side_d a b) (side_d b c) (side_d c a) (stays a b x y true e f) (runs_right b c x y f g) (runs_left c a x y g e))
      ∙ rw (back_whole a c) (sym (dist-times (share_n b c x y * side_d a c) (share_n a c x y * side_d b c) (side_d a b) ∙ omega arith))

  -- none is, or all are
  pub cover_off : (s : Bool) → le_z a.x x ≡ s → le_z b.x x ≡ s → le_z c.x x ≡ s → cover_n a b c x y ≡ 0
  unfolding cover_n
  cover_off s e f g = diff_abs (sum_diff (side_d a b) (side_d b c) (side_d c a) (stays a b x y s e f) (stays b c x y s f g) (stays c a x y s g e)) ∙ omega arith

-- ---- by the row
module _ (a b c : Corner) (x y : ℤ) where
  -- the row is below b: it crosses a b and a c
  pub rows-below : le_z a.y y ≡ true → le_z b.y y ≡ false → le_z c.y y ≡ false
      → cover_n a b c x y * between_d a b a c ≡ between_n a b a c x y * cover_d a b c
  rows-below e f g =
      cancelled (row_d b c) (between_d a b a c) (between_n a b a c x y) (cover_n a b c x y) (cover_d a b c) (side_pos (turned b) (turned c))
      (rw (whole-left (turned a) (turned b) (turned c), one_left (turned a) (turned b) (turned c) y x e f g) at (cover_turned a b c x y))

  -- it is not: it crosses b c and a c
  pub rows_above : le_z a.y y ≡ true → le_z b.y y ≡ true → le_z c.y y ≡ false
      → cover_n a b c x y * between_d b c a c ≡ between_n b c a c x y * cover_d a b c
  rows_above e f g =
      cancelled (row_d a b) (between_d b c a c) (between_n b c a c x y) (cover_n a b c x y) (cover_d a b c) (side_pos (turned a) (turned b))
      (rw (whole-right (turned a) (turned b) (turned c), two_left (turned a) (turned b) (turned c) y x e f g) at (cover_turned a b c x y))

  -- it is below or above the triangle
  pub rows-off : (s : Bool) → le_z a.y y ≡ s → le_z b.y y ≡ s → le_z c.y y ≡ s → cover_n a b c x y ≡ 0
  rows-off s e f g =
      let z = cancelled (cover_d (turned a) (turned b) (turned c)) 1 0 (cover_n a b c x y) (cover_d a b c) (cover_pos (turned a) (turned b) (turned c))
      (omega (arith, cover_turned a b c x y, ap (λ (n : ℕ). n * cover_d a b c) (cover_off (turned a) (turned b) (turned c) y x s e f g))) in
      omega arith

  -- nothing outside the box: no corner, or all, to the right of the column, or above the row
  pub outside_box : (s : Bool)
      → ((le_z a.x x ≡ s) × (le_z b.x x ≡ s) × (le_z c.x x ≡ s)) ⊎ ((le_z a.y y ≡ s) × (le_z b.y y ≡ s) × (le_z c.y y ≡ s))
      → cover_n a b c x y ≡ 0
  outside_box s (inl e) = cover_off a b c x y s e.0 e.1 e.2
  outside_box s (inr e) = rows-off s e.0 e.1 e.2

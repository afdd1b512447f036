-- One side of a triangle at one pixel.
use mathlib.Core.Path.{◌≡◌, refl, sym, ◌∙◌, ap, subst}
use mathlib.Core.Bool.{Bool, true, false}
use mathlib.Core.Logic.{⊎_elim}
use Prim.Native.Nat.{ℕ, zero, suc, ◌+◌, ◌*◌, ◌≤◌, ◌<◌}
use native.Mathlib.Nat.{one-mul}
use native.Mathlib.Omega.{arith}
use lib.Dec.{T}
use lib.IntN.{ℤ, pos, neg_ℤ, neg_ℤ-neg_ℤ, nat_abs, ◌+ℤ◌, ◌-ℤ◌}
use lib.Signed.{le_z}
use Rattle.numbers.proofs.Order.{lt_or_le}
use Rattle.numbers.proofs.Integer.{Diff, plus, minus, diff_of, diff_pos, diff_add, diff_minus, diff_shift, diff_abs, diff_le, le_diff}
use Rattle.edges.specs.Edge.{by_zero, under_d, height_at, edge_d}
use Rattle.edges.specs.Area.{Area}
use Rattle.edges.proofs.Under.{whole_slanted}
use Rattle.edges.proofs.Edge.{edge_le, edge_none, edge_full, edge_pos}
use Rattle.edges.proofs.Slices.{edge_area, edge_only}
use Rattle.edges.proofs.Turned.{turned-rising, turned_falling}
use Rattle.sides.specs.Triangle.{Corner, share_n, by_run, side_n, side_d}
use Rattle.sides.specs.inner.Offsets.{turned}

-- ---- tests of coordinates
-- p − z as a difference of naturals
abbrev off : (p z : ℤ) → Diff (p -ℤ z) (plus p + minus z) (minus p + plus z)
off p z = diff_minus (diff_of p) (diff_of z)

not_past : (p z : ℤ) → le_z p z ≡ true → plus p + minus z ≤ minus p + plus z
not_past p z e = omega (arith, diff_le (diff_of p) (diff_of z) (subst T (sym e) tt))

past : (p z : ℤ) → le_z p z ≡ false → minus p + plus z + 1 ≤ plus p + minus z
past p z e =
    ⊎_elim (λ h. omega arith) (λ h. absurd (subst T e (le_diff (diff_of p) (diff_of z) (omega arith)))) (lt_or_le (plus z + minus p) (plus p + minus z))

-- z lies from p to q: i past p, and with m from z + 1 to q
pub record Across (p q z : ℤ) (i m : ℕ) : Type 0 where
  pub low : Diff (p -ℤ z) 0 i
  pub high : Diff (q -ℤ z) (m + 1) 0
  pub wide : nat_abs (q -ℤ p) ≡ i + 1 + m

pub across : (p q z : ℤ) → le_z p z ≡ true → le_z q z ≡ false → Across p q z (nat_abs (z -ℤ p)) (nat_abs (q -ℤ (z +ℤ pos 1)))
across p q z e f =
    let h = not_past p z e in
    let g = past q z f in
    let i = diff_abs (off z p) in
    let m = diff_abs (diff_minus (diff_of q) (diff_add (diff_of z) (diff_pos 1))) in
    record {
      low = diff_shift 0 (nat_abs (z -ℤ p)) (off p z) (omega arith);
      high = diff_shift (nat_abs (q -ℤ (z +ℤ pos 1)) + 1) 0 (off q z) (omega arith);
      wide = diff_abs (off q p) ∙ omega arith;
    }

-- ---- a side that is over the column, a on the left
side_wide : (a b : Corner) (l : ℕ) → nat_abs (b.x -ℤ a.x) ≡ suc l → side_d a b ≡ edge_d 1 (suc l) a.y b.y
unfolding side_d by_zero
side_wide a b l e = rw e

-- heights from any row give the same rise
from_row : (l : ℕ) (p q z : ℤ) → edge_d 1 l (p -ℤ z) (q -ℤ z) ≡ edge_d 1 l p q
unfolding edge_d
from_row l p q z = ap (under_d (1 * l)) (diff_abs (diff_minus (off q z) (off p z)) ∙ omega arith ∙ sym (diff_abs (off q p)))

module _ (a b : Corner) (x y : ℤ) (e : le_z a.x x ≡ true) (f : le_z b.x x ≡ false) where
  its_whole : side_d a b ≡ edge_d 1 (nat_abs (x -ℤ a.x) + 1 + nat_abs (b.x -ℤ (x +ℤ pos 1))) (a.y -ℤ y) (b.y -ℤ y)
  its_whole =
      let i = nat_abs (x -ℤ a.x) in
      let m = nat_abs (b.x -ℤ (x +ℤ pos 1)) in
      let w : nat_abs (b.x -ℤ a.x) ≡ suc (i + m) = (across a.x b.x x e f).wide ∙ omega arith in
      let z : suc (i + m) ≡ i + 1 + m = omega arith in
      side_wide a b (i + m) w ∙ ap (λ (l : ℕ). edge_d 1 l a.y b.y) z ∙ sym (from_row (i + 1 + m) a.y b.y y)

  pub share_le : share_n a b x y ≤ side_d a b
  unfolding share_n
  share_le = rw its_whole (edge_le 1 (nat_abs (x -ℤ a.x)) (nat_abs (b.x -ℤ (x +ℤ pos 1))) (off a.y y) (off b.y y))

  -- both ends are at most at the floor
  pub share_none : le_z a.y y ≡ true → le_z b.y y ≡ true → share_n a b x y ≡ 0
  unfolding share_n
  share_none g h =
      edge_none 1 (nat_abs (x -ℤ a.x)) (nat_abs (b.x -ℤ (x +ℤ pos 1))) (off a.y y) (off b.y y) (not_past a.y y g) (not_past b.y y h)

  -- both ends are above it, and so at least at the ceiling
  pub share_full : le_z a.y y ≡ false → le_z b.y y ≡ false → share_n a b x y ≡ side_d a b
  unfolding share_n
  share_full g h =
      edge_full 1 (nat_abs (x -ℤ a.x)) (nat_abs (b.x -ℤ (x +ℤ pos 1))) (off a.y y) (off b.y y) (past a.y y g) (past b.y y h) ∙ sym its_whole

  -- what is under it is the area, and no other number is, l times its heights being taken at the two sides of the pixel
  abbrev left : ℤ
  left = height_at (nat_abs (x -ℤ a.x)) (nat_abs (b.x -ℤ (x +ℤ pos 1)) + 1) (a.y -ℤ y) (b.y -ℤ y)

  abbrev right : ℤ
  right = height_at (nat_abs (x -ℤ a.x) + 1) (nat_abs (b.x -ℤ (x +ℤ pos 1))) (a.y -ℤ y) (b.y -ℤ y)

  wide_is : 1 * (nat_abs (x -ℤ a.x) + 1 + nat_abs (b.x -ℤ (x +ℤ pos 1))) ≡ nat_abs (b.x -ℤ a.x)
  wide_is = one-mul (nat_abs (x -ℤ a.x) + 1 + nat_abs (b.x -ℤ (x +ℤ pos 1))) ∙ sym (across a.x b.x x e f).wide

  pub side_area : Area (nat_abs (b.x -ℤ a.x)) left right (share_n a b x y) (side_d a b)
  unfolding share_n
  side_area =
      subst (λ (l : ℕ). Area l left right (share_n a b x y) (side_d a b)) wide_is
      (rw its_whole (edge_area 1 (nat_abs (x -ℤ a.x)) (nat_abs (b.x -ℤ (x +ℤ pos 1))) (a.y -ℤ y) (b.y -ℤ y)))

  pub side_only : (n d : ℕ) → Area (nat_abs (b.x -ℤ a.x)) left right n d → n * side_d a b ≡ share_n a b x y * d
  unfolding share_n
  side_only n d area =
      rw its_whole
      (edge_only 1 (nat_abs (x -ℤ a.x)) (nat_abs (b.x -ℤ (x +ℤ pos 1))) (a.y -ℤ y) (b.y -ℤ y) n d (omega arith)
      (subst (λ (l : ℕ). Area l left right n d) (sym wide_is) area))

-- ---- a side of l columns and k rows that is over the column and the row
crossed_whole : (a b : Corner) (l k : ℕ) → 0 < l → 0 < k → nat_abs (b.x -ℤ a.x) ≡ l → nat_abs (b.y -ℤ a.y) ≡ k → side_d a b ≡ 2 * (l * k)
unfolding edge_d
crossed_whole a b zero k p q e f = absurd (omega arith)
crossed_whole a b (suc l) k p q e f = side_wide a b l e ∙ ap (under_d (1 * suc l)) f ∙ whole_slanted (1 * suc l) k q ∙ omega arith

dist_back : (p q : ℤ) → nat_abs (p -ℤ q) ≡ nat_abs (q -ℤ p)
dist_back p q = diff_abs (off p q) ∙ omega arith ∙ sym (diff_abs (off q p))

module _ (a b : Corner) (x y : ℤ) (e : le_z a.x x ≡ true) (f : le_z b.x x ≡ false) where
  pub both_rising : le_z a.y y ≡ true → le_z b.y y ≡ false
      → share_n a b x y * side_d (turned a) (turned b) + share_n (turned a) (turned b) y x * side_d a b ≡ side_d a b * side_d (turned a) (turned b)
  unfolding share_n
  both_rising g h =
      let i = nat_abs (x -ℤ a.x) in
      let m = nat_abs (b.x -ℤ (x +ℤ pos 1)) in
      let j = nat_abs (y -ℤ a.y) in
      let n = nat_abs (b.y -ℤ (y +ℤ pos 1)) in
      let s = across a.x b.x x e f in
      let t = across a.y b.y y g h in
      let l : ℕ = i + 1 + m in
      let k : ℕ = j + 1 + n in
      let d : side_d a b ≡ 2 * (l * k) = crossed_whole a b l k (omega arith) (omega arith) s.wide t.wide in
      let d' : side_d (turned a) (turned b) ≡ 2 * (l * k) = crossed_whole (turned a) (turned b) k l (omega arith) (omega arith) t.wide s.wide ∙ omega arith in
      rw (d, d') (omega (arith, ap (λ (v : ℕ). v * (2 * (l * k))) (turned-rising i m j n t.low t.high s.low s.high)))

  pub both_falling : le_z a.y y ≡ false → le_z b.y y ≡ true
      → share_n a b x y * side_d (turned a) (turned b) ≡ share_n (turned b) (turned a) y x * side_d a b
  unfolding share_n
  both_falling g h =
      let i = nat_abs (x -ℤ a.x) in
      let m = nat_abs (b.x -ℤ (x +ℤ pos 1)) in
      let j = nat_abs (y -ℤ b.y) in
      let n = nat_abs (a.y -ℤ (y +ℤ pos 1)) in
      let s = across a.x b.x x e f in
      let t = across b.y a.y y h g in
      let l : ℕ = i + 1 + m in
      let k : ℕ = j + 1 + n in
      let w : nat_abs (b.y -ℤ a.y) ≡ k = dist_back b.y a.y ∙ t.wide in
      let d : side_d a b ≡ 2 * (l * k) = crossed_whole a b l k (omega arith) (omega arith) s.wide w in
      let d' : side_d (turned a) (turned b) ≡ 2 * (l * k) = crossed_whole (turned a) (turned b) k l (omega arith) (omega arith) w s.wide ∙ omega arith in
      rw (d, d') (ap (λ (v : ℕ). v * (2 * (l * k))) (turned_falling i m j n t.high t.low s.high s.low))

-- ---- a side run back
pub back_whole : (a b : Corner) → side_d b a ≡ side_d a b
unfolding side_d edge_d
back_whole a b = rw (dist_back a.x b.x, dist_back a.y b.y)

pub back : (a b : Corner) (x y : ℤ) → side_n b a x y ≡ neg_ℤ (side_n a b x y)
unfolding side_n by_run
back a b x y = go (le_z a.x x) (le_z b.x x)
  where
    go : (s t : Bool)
        → by_run t s (pos (share_n b a x y)) (neg_ℤ (pos (share_n a b x y))) ≡ neg_ℤ (by_run s t (pos (share_n a b x y)) (neg_ℤ (pos (share_n b a x y))))
    go true false = refl
    go false true = sym (neg_ℤ-neg_ℤ (pos (share_n b a x y)))
    go true true = refl
    go false false = refl

pub side_pos : (a b : Corner) → 0 < side_d a b
unfolding side_d by_zero
side_pos a b = go (nat_abs (b.x -ℤ a.x))
  where
    go : (w : ℕ) → 0 < by_zero w 1 (edge_d 1 w a.y b.y)
    go zero = omega arith
    go (suc l) = edge_pos 1 (suc l) a.y b.y (omega arith) (omega arith)

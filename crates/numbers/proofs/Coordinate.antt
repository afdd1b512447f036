-- Laws of coordinates, of their offsets and of the two bytes of a 16-bit number.
use mathlib.Core.Path.{◌≡◌, refl, sym, ◌∙◌, ap, subst}
use mathlib.Core.Bool.{Bool, true, false, cond, ◌&&◌}
use mathlib.Core.List.{[], ◌∷◌}
use mathlib.Core.Logic.{⊎_elim}
use Prim.Native.Nat.{ℕ, suc, ◌+◌, ◌*◌, ◌-◌, ◌/◌, ◌%◌, ◌≤◌, ◌<◌}
use native.Mathlib.Omega.{arith}
use borrow.Author.Tests.{lt-ltb, le-leb, lt-leb}
use lib.Dec.{T, ltb, leb}
use lib.IntN.{ℤ, pos, negsuc, nat_abs, ◌+ℤ◌, ◌-ℤ◌}
use lib.Signed.{le_z, non_neg, pos-nat_abs}
use mir.Syntax.{w16, w64}
use mir.Val.{SFits, to_z, of_z}
use mir.Facts.{to_z-of_z, of_z-to_z}
use Rattle.numbers.specs.inner.Order.{dist}
use Rattle.numbers.proofs.Order.{lt_or_le}
use Rattle.numbers.specs.Coordinate.{in_range, bits_of, signed_of, word_of, bytes_of}
use Rattle.numbers.specs.inner.Offset.{origin, offset_most, offset_of}
use Rattle.numbers.proofs.Integer.{Diff, plus, minus, diff_of, diff_pos, diff_add, diff_minus, diff_shift, diff_eq, diff_le, le_diff, diff_abs, is_below, non_neg_diff, sfits_diff}

-- ---- the range

both : (a b : Bool) → T (a && b) → T a × T b
both true b t = (tt, t)
both false b t = absurd t

range_parts : (z : ℤ) → T (in_range z) → (plus z < origin + minus z) × (minus z ≤ plus z + origin)
range_parts z t =
    let p = both (le_z (negsuc 4095) z) (le_z z (pos 4095)) t in
    omega (arith, diff_le (diff_of z) (diff_pos 4095) p.1, diff_le (is_below {n = 4095} {a = 0} {b = origin} refl) (diff_of z) p.0)

-- a coordinate and 4,096
module _ (z : ℤ) (t : T (in_range z)) where
  raised : Diff (z +ℤ pos origin) (plus z + origin) (minus z + 0)
  raised = diff_add (diff_of z) (diff_pos origin)

  pub wide_fits : SFits w64 z
  wide_fits = sfits_diff (diff_of z) (omega (arith, range_parts z t)) (omega (arith, range_parts z t))

  pub raised-fits : SFits w64 (z +ℤ pos origin)
  raised-fits = sfits_diff raised (omega (arith, range_parts z t)) (omega (arith, range_parts z t))

  pub raised_non_neg : T (non_neg (z +ℤ pos origin))
  raised_non_neg = non_neg_diff raised (omega (arith, range_parts z t))

-- ---- the offset
pub offset_in : (z : ℤ) → in_range z ≡ true → nat_abs (z +ℤ pos origin) ≡ offset_of z
unfolding offset_of
offset_in z e = rw e

pub offset_out : (z : ℤ) → in_range z ≡ false → offset_most + 1 ≡ offset_of z
unfolding offset_of
offset_out z e = rw e

-- in range the coordinate is its offset less 4,096
pub record InRange (z : ℤ) : Type 0 where
  pub test : in_range z ≡ true
  pub less : offset_of z < offset_most + 1
  pub diff : Diff z (offset_of z) origin

pub in_range_lem : (z : ℤ) → in_range z ≡ true → InRange z
unfolding offset_of
in_range_lem z e =
    let t : T (in_range z) = subst T (sym e) tt in
    let k = diff_eq (pos-nat_abs (z +ℤ pos origin) (raised_non_neg z t)) (diff_pos (nat_abs (z +ℤ pos origin))) (raised z t) in
    record { test = e; less = rw e (omega (arith, range_parts z t)); diff = rw e (diff_shift (nat_abs (z +ℤ pos origin)) origin (diff_of z) (omega arith)) }

-- the range by the offset
pub range_offset : (z : ℤ) → in_range z ≡ ltb (offset_of z) (offset_most + 1)
range_offset z = go (in_range z) refl
  where
    go : (b : Bool) → in_range z ≡ b → b ≡ ltb (offset_of z) (offset_most + 1)
    go true e = sym (lt-ltb (offset_of z) (offset_most + 1) (in_range_lem z e).less)
    go false e = sym (ap (λ (o : ℕ). ltb o (offset_most + 1)) (sym (offset_out z e)))

pub offset_le : (z : ℤ) → offset_of z ≤ offset_most + 1
offset_le z = go (in_range z) refl
  where
    go : (b : Bool) → in_range z ≡ b → offset_of z ≤ offset_most + 1
    go true e = omega (arith, (in_range_lem z e).less)
    go false e = omega (arith, offset_out z e)

-- differences of coordinates by their offsets
module _ {x y : ℤ} (p : InRange x) (q : InRange y) where
  pub offset_diff : Diff (x -ℤ y) (offset_of x) (offset_of y)
  offset_diff = diff_shift (offset_of x) (offset_of y) (diff_minus p.diff q.diff) (omega arith)

  pub offset_dist : nat_abs (x -ℤ y) ≡ dist (offset_of x) (offset_of y)
  offset_dist = diff_abs offset_diff

-- ---- 16 bits: the definitions are the machine's own
pub bits_machine : (z : ℤ) → bits_of z ≡ of_z w16 z
bits_machine (pos n) = refl
bits_machine (negsuc n) = omega arith

pub signed_machine : (b : ℕ) → signed_of b ≡ to_z w16 b
signed_machine b = go (ltb b 32768)
  where
    go : (t : Bool) → cond t (pos b) (negsuc (65535 - b)) ≡ cond t (pos b) (negsuc (65536 - suc b))
    go true = refl
    go false = ap negsuc (omega arith)

-- the two round trips
pub signed_bits : (z : ℤ) → SFits w16 z → signed_of (bits_of z) ≡ z
signed_bits z f = signed_machine (bits_of z) ∙ ap (to_z w16) (bits_machine z) ∙ to_z-of_z f

pub bits_signed : (b : ℕ) → b < 65536 → bits_of (signed_of b) ≡ b
bits_signed b h = bits_machine (signed_of b) ∙ ap (of_z w16) (signed_machine b) ∙ of_z-to_z {w = w16} (record { fits = h })

-- ---- two bytes
pub word_bytes : (w : ℕ) → word_of (w % 256) (w / 256) ≡ w
word_bytes w = omega arith

pub bytes_word : (low high : ℕ) → low < 256 → bytes_of (word_of low high) ≡ low ∷ high ∷ []
bytes_word low high h =
    let l : (low + 256 * high) % 256 ≡ low = omega arith in
    let k : (low + 256 * high) / 256 ≡ high = omega arith in
    rw (l, k)

-- a pixel of a page is in range
pub pixel_in : (n : ℕ) → n ≤ 4095 → in_range (pos n) ≡ true
pixel_in n h = rw (le-leb n 4095 h)

pub pixel_offset : (n : ℕ) → n ≤ 4095 → offset_of (pos n) ≡ n + origin
pixel_offset n h = sym (offset_in (pos n) (pixel_in n h))

-- the order of two coordinates by their offsets
pub le_offset : {x y : ℤ} → InRange x → InRange y → le_z x y ≡ leb (offset_of x) (offset_of y)
le_offset {x} {y} p q =
    go (le_z x y) (λ t. omega (arith, diff_le p.diff q.diff t)) (λ h. le_diff p.diff q.diff (omega arith))
  where
    go : (s : Bool) → (T s → offset_of x ≤ offset_of y) → (offset_of x ≤ offset_of y → T s) → s ≡ leb (offset_of x) (offset_of y)
    go true f g = sym (le-leb (offset_of x) (offset_of y) (f tt))
    go false f g = sym (lt-leb (offset_of x) (offset_of y) (⊎_elim (λ h. h) (λ h. absurd (g h)) (lt_or_le (offset_of y) (offset_of x))))

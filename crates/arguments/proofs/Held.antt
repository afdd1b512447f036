-- A number that the tests of the C interface let pass fits the library's 16 bits.
use mathlib.Core.Path.{◌≡◌, refl, sym}
use mathlib.Core.Bool.{true, false}
use Prim.Native.Nat.{ℕ}
use native.Mathlib.Omega.{arith}
use borrow.Author.Tests.{ltb-true, ltb-false}
use lib.Dec.{T}
use lib.IntN.{ℤ, pos, negsuc, nat_abs}
use lib.Signed.{lt_z, non_neg}
use mir.Syntax.{w16}
use mir.Val.{SFits}
use Rattle.arguments.specs.Taken.{coordinate_of, edge_of, measure_of}

-- a coordinate
module _ (z : ℤ) (below : lt_z z (negsuc 32767) ≡ false) (above : lt_z (pos 32767) z ≡ false) where
  pub held : SFits w16 z
  held = go z below above
    where
      go : (z : ℤ) → lt_z z (negsuc 32767) ≡ false → lt_z (pos 32767) z ≡ false → SFits w16 z
      go (pos n) e f = record { sfits = omega (arith, ltb-false 32767 n f) }
      go (negsuc n) e f = record { sfits = omega (arith, ltb-false 32767 n e) }

  pub held_same : z ≡ coordinate_of z
  unfolding coordinate_of
  held_same = sym (rw (below, above))

-- a radius or a width
pub negative : (z : ℤ) → lt_z z (pos 0) ≡ true → 0 ≡ measure_of z
unfolding measure_of
negative (pos n) e = absurd (omega (arith, ltb-true n 0 e))
negative (negsuc n) e = refl

pub positive : (z : ℤ) → lt_z z (pos 0) ≡ false → T (non_neg z) × (edge_of (nat_abs z) ≡ measure_of z)
unfolding measure_of
positive (pos n) e = (tt, refl)
positive (negsuc n) e = absurd (let q : ◌≡◌ {A = ℕ} 0 1 = cc in omega arith)

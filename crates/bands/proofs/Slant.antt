-- The exact rule by differences of naturals: a row has k where six squares say so.
use mathlib.Core.Path.{◌≡◌}
use Prim.Native.Nat.{ℕ, ◌+◌, ◌*◌, ◌-◌}
use native.Mathlib.Omega.{arith}
use lib.IntN.{ℤ, pos, ◌+ℤ◌, ◌-ℤ◌}
use Rattle.numbers.proofs.Integer.{Diff, diff_pos, diff_add, diff_minus, diff_mul, diff_shift, diff_unique}
use Rattle.edges.proofs.Slant.{sq, slant_diff}
use Rattle.bands.specs.Line.{left_height, right_height, F}

-- F(i, j), where j is n − d and a is x − y
module _ (l s i : ℕ) where
  pub F-diff : {j : ℤ} {n d : ℕ} (x y : ℕ) → Diff j n d → x + 2 * l * n ≡ l + 2 * s * i + 2 * l * d + y
      → Diff (F l s i j) (sq (x + 2 * s - y) + sq (x - (y + 2 * l))) (sq (x - y) + sq (x + 2 * s - (y + 2 * l)))
  unfolding F left_height right_height
  F-diff {j} {n} {d} x y dj e = slant_diff (2 * l) left (diff_shift (x + 2 * s) y (diff_add left (diff_pos (2 * s))) (omega arith))
    where
      left : Diff (left_height l s i j) x y
      left = diff_shift x y (diff_minus (diff_pos (l + 2 * s * i)) (diff_mul (diff_pos (2 * l)) dj)) (omega arith)

  -- the six differences that a row's squares are of
  abbrev pub Six : (x y b a b' a' b'' a'' : ℕ) → Type 0
  Six x y b a b' a' b'' a'' =
      (x + 2 * s - y ≡ b) × (x - y ≡ a) × (x + 2 * s - (y + 2 * l) ≡ b') × (x - (y + 2 * l) ≡ a')
      × (x + 2 * s - (y + 2 * l + 2 * l) ≡ b'') × (x - (y + 2 * l + 2 * l) ≡ a'')

  pub row_is : {j : ℤ} {n d : ℕ} (x y b a b' a' b'' a'' k : ℕ) → Diff j n d → x + 2 * l * n ≡ l + 2 * s * i + 2 * l * d + y
      → Six x y b a b' a' b'' a'' → sq b + sq a' + (sq a' + sq b'') ≡ sq a + sq b' + (sq b' + sq a'') + k
      → F l s i j -ℤ F l s i (j +ℤ pos 1) ≡ pos k
  row_is {n = n} {d = d} x y b a b' a' b'' a'' k dj e six h =
      diff_unique
      (diff_minus (F-diff x y dj e) (F-diff x (y + 2 * l) (diff_shift (n + 1) d (diff_add dj (diff_pos 1)) (omega arith)) (omega arith)))
      (diff_pos k)
      (simp (six.0, six.1, six.2, six.3, six.4, six.5) (omega arith))

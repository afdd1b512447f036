-- Integers as differences of naturals. `Diff z a b` says that z is a − b. Sums, products and negations of differences are differences
-- again, so an equation or an order of integers comes to one of naturals: `diff_unique p q (omega arith)`.
use mathlib.Core.Path.{◌≡◌, ap, subst}
use mathlib.Core.Bool.{Bool, true, false, not, cond}
use Prim.Native.Nat.{ℕ, zero, suc, ◌+◌, ◌*◌, ◌-◌, ◌^◌, ◌≤◌, ◌<◌}
use native.Mathlib.Omega.{arith}
use lib.Dec.{T, ltb, ltb→lt, nltb→le, leb→le, le→leb}
use lib.IntN.{ℤ, pos, negsuc, neg_ℤ, nat_abs, sub_ℕ, ◌+ℤ◌, ◌-ℤ◌, ◌*ℤ◌}
use lib.Signed.{mag, le_z, non_neg}
use mir.Syntax.{Width}
use mir.Val.{SFits, hbits}
use Rattle.numbers.specs.inner.Order.{dist}

-- z is a − b
pub data Diff : ℤ → ℕ → ℕ → Type 0 where
  above : {n a b : ℕ} → a ≡ b + n → Diff (pos n) a b
  below : {n a b : ℕ} → b ≡ a + suc n → Diff (negsuc n) a b

-- the constructors as functions: the goal fixes their implicit arguments before the proof is read
pub is-above : {n a b : ℕ} → a ≡ b + n → Diff (pos n) a b
is-above p = above p

pub is_below : {n a b : ℕ} → b ≡ a + suc n → Diff (negsuc n) a b
is_below p = below p

-- what is above 0 of an integer, and what is below
abbrev pub plus : ℤ → ℕ
plus (pos n) = n
plus (negsuc n) = 0

abbrev pub minus : ℤ → ℕ
minus (pos n) = 0
minus (negsuc n) = suc n

pub diff_of : (z : ℤ) → Diff z (plus z) (minus z)
diff_of (pos n) = is-above (omega arith)
diff_of (negsuc n) = is_below (omega arith)

pub diff_pos : (n : ℕ) → Diff (pos n) n 0
diff_pos n = is-above (omega arith)

-- what holds of both outcomes holds of a − b
sub_cases : (a b : ℕ) (P : ℤ → Type 0) → ((k : ℕ) → a ≡ b + k → P (pos k)) → ((k : ℕ) → b ≡ a + suc k → P (negsuc k)) → P (sub_ℕ a b)
sub_cases a b P f g = go (ltb a b) (λ t. ltb→lt a b t) (λ t. nltb→le a b t)
  where
    go : (t : Bool) → (T t → a < b) → (T (not t) → b ≤ a) → P (cond t (negsuc (b - suc a)) (pos (a - b)))
    go true lt le = let h = lt tt in g (b - suc a) (omega arith)
    go false lt le = let h = le tt in f (a - b) (omega arith)

pub diff_sub : (a b : ℕ) → Diff (sub_ℕ a b) a b
diff_sub a b = sub_cases a b (λ z. Diff z a b) (λ k e. above e) (λ k e. below e)

-- the same integer as another difference
pub diff_shift : {z : ℤ} {a b : ℕ} (c d : ℕ) → Diff z a b → a + d ≡ c + b → Diff z c d
diff_shift c d (above p) e = is-above (omega arith)
diff_shift c d (below p) e = is_below (omega arith)

-- ---- equal differences are equal integers, and the other way
pub diff_unique : {z y : ℤ} {a b c d : ℕ} → Diff z a b → Diff y c d → a + d ≡ c + b → z ≡ y
diff_unique (above p) (above q) e = ap pos (omega arith)
diff_unique (above p) (below q) e = absurd (omega arith)
diff_unique (below p) (above q) e = absurd (omega arith)
diff_unique (below p) (below q) e = ap negsuc (omega arith)

pub diff_same : {z : ℤ} {a b c d : ℕ} → Diff z a b → Diff z c d → a + d ≡ c + b
diff_same (above p) (above q) = omega arith
diff_same (below p) (below q) = omega arith

pub diff_eq : {z y : ℤ} {a b c d : ℕ} → z ≡ y → Diff z a b → Diff y c d → a + d ≡ c + b
diff_eq {a = a} {b = b} e p q = diff_same (subst (λ (x : ℤ). Diff x a b) e p) q

-- ---- the operations
negated : (k a b : ℕ) → b ≡ a + k → Diff (neg_ℤ (pos k)) a b
negated zero a b e = is-above (omega arith)
negated (suc k) a b e = below e

pub diff_neg : {z : ℤ} {a b : ℕ} → Diff z a b → Diff (neg_ℤ z) b a
diff_neg (above {n = n} {a = a} {b = b} p) = negated n b a p
diff_neg (below p) = above p

pub diff_add : {z y : ℤ} {a b c d : ℕ} → Diff z a b → Diff y c d → Diff (z +ℤ y) (a + c) (b + d)
diff_add (above p) (above q) = is-above (omega arith)
diff_add (above {n = m} {a = a} {b = b} p) (below {n = n} {a = c} {b = d} q) =
    sub_cases m (suc n) (λ x. Diff x (a + c) (b + d)) (λ k e. is-above (omega arith)) (λ k e. is_below (omega arith))
diff_add (below {n = m} {a = a} {b = b} p) (above {n = n} {a = c} {b = d} q) =
    sub_cases n (suc m) (λ x. Diff x (a + c) (b + d)) (λ k e. is-above (omega arith)) (λ k e. is_below (omega arith))
diff_add (below p) (below q) = is_below (omega arith)

pub diff_minus : {z y : ℤ} {a b c d : ℕ} → Diff z a b → Diff y c d → Diff (z -ℤ y) (a + d) (b + c)
diff_minus p q = diff_add p (diff_neg q)

pub diff_mul : {z y : ℤ} {a b c d : ℕ} → Diff z a b → Diff y c d → Diff (z *ℤ y) (a * c + b * d) (a * d + b * c)
diff_mul (above p) (above q) = is-above (rw (p, q) (omega arith))
diff_mul (above {n = m} p) (below {n = n} q) = negated (m * suc n) _ _ (rw (p, q) (omega arith))
diff_mul (below {n = m} p) (above {n = n} q) = negated (suc m * n) _ _ (rw (p, q) (omega arith))
diff_mul (below p) (below q) = is-above (rw (p, q) (omega arith))

-- ---- the parts, the absolute value, the sign
pub plus_diff : {z : ℤ} {a b : ℕ} → Diff z a b → plus z ≡ a - b
plus_diff (above p) = omega arith
plus_diff (below p) = omega arith

pub diff_abs : {z : ℤ} {a b : ℕ} → Diff z a b → nat_abs z ≡ dist a b
diff_abs (above p) = omega arith
diff_abs (below p) = omega arith

pub non_neg_diff : {z : ℤ} {a b : ℕ} → Diff z a b → b ≤ a → T (non_neg z)
non_neg_diff (above p) h = tt
non_neg_diff (below p) h = absurd (omega arith)

-- ---- tests of integers
pub diff_le : {z y : ℤ} {a b c d : ℕ} → Diff z a b → Diff y c d → T (le_z z y) → a + d ≤ c + b
diff_le (above {n = m} p) (above {n = n} q) t = omega (arith, leb→le m n t)
diff_le (above p) (below q) t = absurd t
diff_le (below p) (above q) t = omega arith
diff_le (below {n = m} p) (below {n = n} q) t = omega (arith, leb→le n m t)

pub le_diff : {z y : ℤ} {a b c d : ℕ} → Diff z a b → Diff y c d → a + d ≤ c + b → T (le_z z y)
le_diff (above {n = m} p) (above {n = n} q) h = le→leb m n (omega arith)
le_diff (above p) (below q) h = absurd (omega arith)
le_diff (below p) (above q) h = tt
le_diff (below {n = m} p) (below {n = n} q) h = le→leb n m (omega arith)

-- ---- the range of a signed width
pub sfits_diff : {w : Width} {z : ℤ} {a b : ℕ} → Diff z a b → a < b + 2 ^ hbits w → b ≤ a + 2 ^ hbits w → SFits w z
sfits_diff {w} p k l = record { sfits = size p k l }
  where
    size : {z : ℤ} {a b : ℕ} → Diff z a b → a < b + 2 ^ hbits w → b ≤ a + 2 ^ hbits w → mag z < 2 ^ hbits w
    size (above p) k l = omega arith
    size (below p) k l = omega arith

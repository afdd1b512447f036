-- A triangle's coverage is a lawful answer to a query, and the order of its corners does not matter.
use mathlib.Core.Path.{◌≡◌, refl, sym, ◌∙◌, ap}
use mathlib.Core.Bool.{Bool, true, false}
use Rattle.std.proofs.Common.{true≢false}
use Prim.Native.Nat.{ℕ, ◌+◌, ◌*◌, ◌≤◌, ◌<◌}
use native.Mathlib.Nat.{mul-le-mul, mul-le-mul_right}
use native.Mathlib.Omega.{arith}
use lib.IntN.{ℤ, pos, neg_ℤ, nat_abs}
use lib.Signed.{le_z}
use Rattle.numbers.specs.inner.Order.{dist}
use Rattle.numbers.proofs.Integer.{Diff, diff_of, diff_pos, diff_neg, diff_mul, diff_add, diff_unique, diff_abs, diff_shift}
use Rattle.sides.specs.Triangle.{Corner, share_n, by_run, side_n, side_d, sum_n, cover_n, cover_d, Same, AnyOrder}
use Rattle.sides.proofs.Sides.{share_le, back, back_whole, side_pos}

-- ---- a sum of three fractions u − w over d
pub sum_diff : {n₁ n₂ n₃ : ℤ} {u₁ w₁ u₂ w₂ u₃ w₃ : ℕ} (d₁ d₂ d₃ : ℕ) → Diff n₁ u₁ w₁ → Diff n₂ u₂ w₂ → Diff n₃ u₃ w₃
    → Diff (sum_n n₁ d₁ n₂ d₂ n₃ d₃) (u₁ * (d₂ * d₃) + u₂ * (d₁ * d₃) + u₃ * (d₁ * d₂)) (w₁ * (d₂ * d₃) + w₂ * (d₁ * d₃) + w₃ * (d₁ * d₂))
unfolding sum_n
sum_diff {u₁ = u₁} {w₁} {u₂} {w₂} {u₃} {w₃} d₁ d₂ d₃ p q r =
    diff_shift (u₁ * (d₂ * d₃) + u₂ * (d₁ * d₃) + u₃ * (d₁ * d₂)) (w₁ * (d₂ * d₃) + w₂ * (d₁ * d₃) + w₃ * (d₁ * d₂))
    (diff_add (diff_add (diff_mul p (diff_pos (d₂ * d₃))) (diff_mul q (diff_pos (d₁ * d₃)))) (diff_mul r (diff_pos (d₁ * d₂))))
    (omega arith)

-- ---- from 0 to 1
-- what a side gives, by whether its ends are left of the column
data Part : Bool → Bool → ℕ → ℕ → ℕ → Type 0 where
  right : {u d : ℕ} → u ≤ d → Part true false u 0 d
  left : {w d : ℕ} → w ≤ d → Part false true 0 w d
  none : {s t : Bool} {d : ℕ} → s ≡ t → Part s t 0 0 d

record Sided (s t : Bool) (n : ℤ) (d : ℕ) : Type 0 where
  add : ℕ
  take : ℕ
  value : Diff n add take
  part : Part s t add take d

sided : (a b : Corner) (x y : ℤ) → Sided (le_z a.x x) (le_z b.x x) (side_n a b x y) (side_d a b)
unfolding side_n by_run
sided a b x y = go (le_z a.x x) (le_z b.x x) refl refl
  where
    go : (s t : Bool) → le_z a.x x ≡ s → le_z b.x x ≡ t → Sided s t (by_run s t (pos (share_n a b x y)) (neg_ℤ (pos (share_n b a x y)))) (side_d a b)
    go true false e f = record { add = share_n a b x y; take = 0; value = diff_pos (share_n a b x y); part = right (share_le a b x y e f) }
    go false true e f =
        record { add = 0; take = share_n b a x y; value = diff_neg (diff_pos (share_n b a x y)); part = left (rw (back_whole a b) at (share_le b a x y f e)) }
    go true true e f = record { add = 0; take = 0; value = diff_pos 0; part = none refl }
    go false false e f = record { add = 0; take = 0; value = diff_pos 0; part = none refl }

-- at most one side adds and at most one takes away
three : {s t v : Bool} {u₁ w₁ d₁ u₂ w₂ d₂ u₃ w₃ d₃ : ℕ} → Part s t u₁ w₁ d₁ → Part t v u₂ w₂ d₂ → Part v s u₃ w₃ d₃
    → dist (u₁ * (d₂ * d₃) + u₂ * (d₁ * d₃) + u₃ * (d₁ * d₂)) (w₁ * (d₂ * d₃) + w₂ * (d₁ * d₃) + w₃ * (d₁ * d₂)) ≤ d₁ * d₂ * d₃
three {d₁ = d₁} {d₂ = d₂} {d₃ = d₃} (right h) (left g) (none _) = omega (arith, mul-le-mul_right (d₂ * d₃) h, mul-le-mul_right (d₁ * d₃) g)
three {d₁ = d₁} {d₂ = d₂} {d₃ = d₃} (right h) (none _) (left g) = omega (arith, mul-le-mul_right (d₂ * d₃) h, mul-le-mul_right (d₁ * d₂) g)
three {d₁ = d₁} {d₂ = d₂} {d₃ = d₃} (left h) (right g) (none _) = omega (arith, mul-le-mul_right (d₂ * d₃) h, mul-le-mul_right (d₁ * d₃) g)
three {d₁ = d₁} {d₂ = d₂} {d₃ = d₃} (left h) (none _) (right g) = omega (arith, mul-le-mul_right (d₂ * d₃) h, mul-le-mul_right (d₁ * d₂) g)
three {d₁ = d₁} {d₂ = d₂} {d₃ = d₃} (none _) (right h) (left g) = omega (arith, mul-le-mul_right (d₁ * d₃) h, mul-le-mul_right (d₁ * d₂) g)
three {d₁ = d₁} {d₂ = d₂} {d₃ = d₃} (none _) (left h) (right g) = omega (arith, mul-le-mul_right (d₁ * d₃) h, mul-le-mul_right (d₁ * d₂) g)
three (right h) (none e) (none f) = absurd (true≢false (sym (e ∙ f)))
three (left h) (none e) (none f) = absurd (true≢false (e ∙ f))
three (none e) (right h) (none f) = absurd (true≢false (sym (f ∙ e)))
three (none e) (left h) (none f) = absurd (true≢false (f ∙ e))
three (none e) (none f) (right h) = absurd (true≢false (sym (e ∙ f)))
three (none e) (none f) (left h) = absurd (true≢false (e ∙ f))
three (none e) (none f) (none _) = omega arith

pub cover_le : (a b c : Corner) (x y : ℤ) → cover_n a b c x y ≤ cover_d a b c
unfolding cover_n cover_d
cover_le a b c x y =
    let p = sided a b x y in
    let q = sided b c x y in
    let r = sided c a x y in
    rw (diff_abs (sum_diff (side_d a b) (side_d b c) (side_d c a) p.value q.value r.value)) (three p.part q.part r.part)

pub cover_pos : (a b c : Corner) → 0 < cover_d a b c
unfolding cover_d
cover_pos a b c =
    let p : 1 ≤ side_d a b = side_pos a b in
    let q : 1 ≤ side_d b c = side_pos b c in
    let r : 1 ≤ side_d c a = side_pos c a in
    mul-le-mul (mul-le-mul p q) r

-- ---- the corners in another order: one further round, and the other way round
pub cover_round : (a b c : Corner) (x y : ℤ) → Same a b c b c a x y
unfolding cover_n cover_d
cover_round a b c x y =
    let p = diff_of (side_n a b x y) in
    let q = diff_of (side_n b c x y) in
    let r = diff_of (side_n c a x y) in
    let d : ℕ = side_d a b in
    let e : ℕ = side_d b c in
    let f : ℕ = side_d c a in
    record { n = ap nat_abs (diff_unique (sum_diff d e f p q r) (sum_diff e f d q r p) (omega arith)); d = omega arith }

pub cover_back : (a b c : Corner) (x y : ℤ) → Same a b c c b a x y
unfolding cover_n cover_d
cover_back a b c x y =
    let p = diff_of (side_n a b x y) in
    let q = diff_of (side_n b c x y) in
    let r = diff_of (side_n c a x y) in
    let d : ℕ = side_d a b in
    let e : ℕ = side_d b c in
    let f : ℕ = side_d c a in
    record {
      n =
          rw (back b c x y, back a b x y, back c a x y, back_whole b c, back_whole a b, back_whole c a)
          (diff_abs (sum_diff d e f p q r) ∙ omega arith ∙ sym (diff_abs (sum_diff e d f (diff_neg q) (diff_neg p) (diff_neg r))));
      d = rw (back_whole b c, back_whole a b, back_whole c a) (omega arith);
    }

both : {a b c a' b' c' a'' b'' c'' : Corner} {x y : ℤ} → Same a b c a' b' c' x y → Same a' b' c' a'' b'' c'' x y → Same a b c a'' b'' c'' x y
both p q = record { n = p.n ∙ q.n; d = p.d ∙ q.d }

-- so all six orders give the same n and d
pub any_order : (a b c : Corner) (x y : ℤ) → AnyOrder a b c x y
any_order a b c x y =
    let cab = both (cover_round a b c x y) (cover_round b c a x y) in
    record {
      bca = cover_round a b c x y;
      cab = cab;
      cba = cover_back a b c x y;
      bac = both cab (cover_back c a b x y);
      acb = both (cover_round a b c x y) (cover_back b c a x y);
    }

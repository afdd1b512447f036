-- What the kinds of C stand for: 3 and 4 are lines, 5 and 8 discs, 6 and 9 rings, 10 is a triangle.
use Rattle.std.proofs.Common.{◌≡◌, true, false, ◌||◌, List, ℕ, ◌≤◌, ◌<◌, eqb, ℤ, ◌⊎◌, inl, inr, ne_eqb, None, Some, arith}
use Rattle.numbers.proofs.Order.{lt_or_le}
use Rattle.shapes.specs.declared.Shape.TheVariants.{Line as line, Disc as disc, Ring as ring, Triangle as triangle}
use Rattle.arguments.specs.Taken.{line_of, disc_of, ring_of, triangle_of, taken_by}

pub is_line : (k : ℕ) → 3 ≤ k → k < 5 → (eqb k 3 || eqb k 4) ≡ true
is_line k h j = go (lt_or_le k 4)
  where
    go : (k < 4) ⊎ (4 ≤ k) → (eqb k 3 || eqb k 4) ≡ true
    go (inl g) = let e : k ≡ 3 = omega arith in rw e
    go (inr g) = let e : k ≡ 4 = omega arith in rw e

pub no_line : (k : ℕ) → (k ≡ 3 → ⊥) → (k ≡ 4 → ⊥) → (eqb k 3 || eqb k 4) ≡ false
no_line k a b = rw (ne_eqb k 3 a, ne_eqb k 4 b)

pub line_taken : (k : ℕ) (ns : List ℤ) → 3 ≤ k → k < 5 → taken_by k ns ≡ Some (line (line_of (eqb k 3) ns))
line_taken k ns h j = go (lt_or_le k 4)
  where
    go : (k < 4) ⊎ (4 ≤ k) → taken_by k ns ≡ Some (line (line_of (eqb k 3) ns))
    go (inl g) = let e : k ≡ 3 = omega arith in rw e
    go (inr g) = let e : k ≡ 4 = omega arith in rw e

pub disc_taken : (k : ℕ) (ns : List ℤ) → (k ≡ 5) ⊎ (k ≡ 8) → taken_by k ns ≡ Some (disc (disc_of (eqb k 8) ns))
disc_taken k ns (inl e) = rw e
disc_taken k ns (inr e) = rw e

pub ring_taken : (k : ℕ) (ns : List ℤ) → (k ≡ 6) ⊎ (k ≡ 9) → taken_by k ns ≡ Some (ring (ring_of (eqb k 9) ns))
ring_taken k ns (inl e) = rw e
ring_taken k ns (inr e) = rw e

pub triangle_taken : (k : ℕ) (ns : List ℤ) → k ≡ 10 → taken_by k ns ≡ Some (triangle (triangle_of ns))
triangle_taken k ns e = rw e

pub none_taken : (k : ℕ) (ns : List ℤ) → (k ≡ 3 → ⊥) → (k ≡ 4 → ⊥) → ((k ≡ 5) ⊎ (k ≡ 8) → ⊥) → ((k ≡ 6) ⊎ (k ≡ 9) → ⊥) → (k ≡ 10 → ⊥) → taken_by k ns ≡ None
none_taken k ns a b c d t =
    simp (ne_eqb k 3 a, ne_eqb k 4 b, ne_eqb k 5 (λ e. c (inl e)), ne_eqb k 6 (λ e. d (inl e)), ne_eqb k 8 (λ e. c (inr e)), ne_eqb k 9 (λ e. d (inr e)), ne_eqb k 10 t)

-- Laws of the chord rule, for any heights that fall.
use Rattle.std.proofs.Common.{◌≡◌, ℕ, ◌+◌, ◌-◌, ◌*◌, ◌≤◌, ◌<◌, min, max, ◌⊎◌, inl, inr, ⊎_elim, arith}
use native.Mathlib.Nat.{add-le-add}
use Rattle.numbers.proofs.Order.{lt_or_le}
use Rattle.chords.specs.Circle.{chord, chords}
use Rattle.chords.proofs.Chord.{chords_rise, chords_le}
use Rattle.rings.specs.declared.Circles.{Circles}
use Rattle.rings.specs.inner.Heights.{at, between, Heights}
use Rattle.rings.specs.inner.Circles.{Measured}

chord_le : (y z m n : ℕ) → y ≤ z → n ≤ m → min (y - 256 * m) 256 ≤ min (z - 256 * n) 256
chord_le y z m n h k = omega arith

-- coverage never rises outwards
pub chords-falls : {Y : ℕ → ℕ} {R : ℕ} → Heights Y R → (a c b : ℕ) → a ≤ c → chords Y c b ≤ chords Y a b
unfolding chords chord
chords-falls {Y} hs a c b h =
    let m : min a b ≤ min c b = omega arith in
    let n : max a b ≤ max c b = omega arith in
    add-le-add
    (chord_le (Y (min c b)) (Y (min a b)) (max c b) (max a b) (hs.falls (min a b) (min c b) m) n)
    (chord_le (Y (min c b + 1)) (Y (min a b + 1)) (max c b) (max a b) (hs.falls (min a b + 1) (min c b + 1) (omega arith)) n)

-- nothing is covered from the radius on
pub chords_far : {Y : ℕ → ℕ} {R : ℕ} → Heights Y R → (a b : ℕ) → R ≤ max a b → chords Y a b ≡ 0
unfolding chords chord
chords_far {Y} {R} hs a b h = far (Y (min a b)) (Y (min a b + 1)) (max a b) (hs.most (min a b)) (hs.most (min a b + 1)) h
  where
    far : (y z n : ℕ) → y ≤ 256 * R → z ≤ 256 * R → R ≤ n → min (y - 256 * n) 256 + min (z - 256 * n) 256 ≡ 0
    far y z n p q h = omega arith

pub chords-none : {Y : ℕ → ℕ} → Heights Y 0 → (a b : ℕ) → chords Y a b ≡ 0
chords-none hs a b = chords_far hs a b (omega arith)

pub between_far : {Y : ℕ → ℕ} {R : ℕ} → Heights Y R → (Z : ℕ → ℕ) (a b : ℕ) → (R ≤ a) ⊎ (R ≤ b) → between Y Z a b ≡ 0
unfolding between
between_far hs Z a b (inl h) = omega (arith, chords_far hs a b (omega arith))
between_far hs Z a b (inr h) = omega (arith, chords_far hs a b (omega arith))

-- ---- one comparison tells a pixel that is whole, and one a pixel that is not covered

pub chords-whole : {Y : ℕ → ℕ} {R : ℕ} → Heights Y R → (a b : ℕ) → 256 * (max a b + 1) ≤ Y (min a b + 1) → chords Y a b ≡ 512
unfolding chords chord
chords-whole {Y} hs a b h = both (Y (min a b)) (Y (min a b + 1)) (max a b) (hs.falls (min a b) (min a b + 1) (omega arith)) h
  where
    both : (y z n : ℕ) → z ≤ y → 256 * (n + 1) ≤ z → min (y - 256 * n) 256 + min (z - 256 * n) 256 ≡ 512
    both y z n p h = omega arith

pub chords_clear : {Y : ℕ → ℕ} {R : ℕ} → Heights Y R → (a b : ℕ) → Y (min a b) ≤ 256 * max a b → chords Y a b ≡ 0
unfolding chords chord
chords_clear {Y} hs a b h = both (Y (min a b)) (Y (min a b + 1)) (max a b) (hs.falls (min a b) (min a b + 1) (omega arith)) h
  where
    both : (y z n : ℕ) → z ≤ y → y ≤ 256 * n → min (y - 256 * n) 256 + min (z - 256 * n) 256 ≡ 0
    both y z n p h = omega arith

-- ---- a row

-- i pixels of the row at distance b are whole, and none from o on is covered
pub record Reach (Y : ℕ → ℕ) (b i o : ℕ) : Type 0 where
  pub whole : (a : ℕ) → a < i → chords Y a b ≡ 512
  pub clear : (a : ℕ) → o ≤ a → chords Y a b ≡ 0

reach_order : {Y : ℕ → ℕ} {b i o : ℕ} → Reach Y b i o → i ≤ o
reach_order {Y} {b} {i} {o} r = ⊎_elim (λ h. absurd (omega (arith, r.whole o h, r.clear o (omega arith)))) (λ h. h) (lt_or_le o i)

-- the row does not meet the inner circle
pub measured_solid : (circles : Circles) (b i o : ℕ) → circles.ring.hole ≤ b → o ≤ circles.ring.radius → Reach (at circles.outer.now) b i o
    → Measured circles b (record { hole = 0; inner = 0; whole = i; outer = o })
unfolding between
measured_solid circles b i o far h r =
    let none : (a : ℕ) → chords (at circles.inner.now) a b ≡ 0 = λ a. chords_far circles.nested.inner a b (omega arith) in
    record {
      order = (omega arith, omega arith, reach_order r, h);
      hole_none = λ a k. absurd (omega arith);
      whole-all = λ a _ k. omega (arith, r.whole a k, none a);
      outer-none = λ a k. omega (arith, r.clear a k);
    }

-- it does: the inner circle is nowhere wider than the outer one
pub measured_hollow : (circles : Circles) (b i o j e : ℕ) → o ≤ circles.ring.radius → Reach (at circles.outer.now) b i o → Reach (at circles.inner.now) b j e
    → Measured circles b (record { hole = j; inner = min o e; whole = max (min o e) i; outer = o })
unfolding between
measured_hollow circles b i o j e h r s =
    let Y = at circles.outer.now in
    let Z = at circles.inner.now in
    let less : (a : ℕ) → chords Z a b ≤ chords Y a b = λ a. chords_rise Z Y a b circles.nested.within in
    let clear : (a : ℕ) → min o e ≤ a → chords Z a b ≡ 0 =
    λ a k. ⊎_elim (λ z. omega (arith, r.clear a (omega arith), less a)) (λ z. s.clear a (omega arith)) (lt_or_le a e) in
    let hole_order = reach_order (record { whole = s.whole; clear = clear }) in
    record {
      order = (hole_order, omega arith, omega (arith, reach_order r), h);
      hole_none = λ a k. omega (arith, s.whole a k, chords_le Y a b);
      whole-all = λ a k l. omega (arith, clear a k, r.whole a (omega arith));
      outer-none = λ a k. omega (arith, r.clear a k);
    }

-- Laws of the bytes of a record.
use Rattle.std.proofs.Common.{◌≡◌, refl, false, ⊎_elim, List, ℕ, ◌≤◌, ◌<◌, arith, length}
use Rattle.std.proofs.lemmas.Bool.Decides.{nat_tests}
use Rattle.numbers.proofs.Order.{lt_or_le, AllBelow, below}
use Rattle.shapes.specs.declared.Shape.TheVariants.{Line as line, Disc as disc, Ring as ring, Triangle as triangle}
use Rattle.shapes.specs.declared.Setting.TheVariants.{Clip as clip, Level as level, Player as player}
use Rattle.shapes.specs.declared.Record.{Record}
use Rattle.shapes.specs.declared.Record.TheVariants.{End as end, Setting as setting, Shape as shape}
use Rattle.format.specs.Format.{kind_size, off_kind, kind_of, fields_of, decoded, record_bytes}
use Rattle.format.specs.inner.Record.{record_most}

-- ---- sizes

-- the size of a kind is the length of its records
pub record_size_lem : (r : Record) → kind_size (kind_of r) ≡ length (record_bytes r)
unfolding kind_size kind_of fields_of
record_size_lem end = refl
record_size_lem (setting (clip c)) = refl
record_size_lem (setting (level v)) = refl
record_size_lem (setting (player p)) = refl
record_size_lem (shape (line l)) = grind (arith, nat_tests)
record_size_lem (shape (disc d)) = grind (arith, nat_tests)
record_size_lem (shape (ring g)) = grind (arith, nat_tests)
record_size_lem (shape (triangle t)) = refl

-- kinds above 10 are unknown
pub unknown_kind_lem : (k : ℕ) → 10 < k → kind_size k ≡ 0
unfolding kind_size
unknown_kind_lem k h = grind (arith, nat_tests)

-- each kind of a version has a row
pub known-kind : (v k : ℕ) → off_kind v k ≡ false → 0 < kind_size k
unfolding kind_size
known-kind v k e = grind (arith, nat_tests)

-- what holds of the kinds one by one holds of each known kind
pub each-kind : (P : ℕ → Type 0) → AllBelow 11 P → (k : ℕ) → 0 < kind_size k → P k
each-kind P rows k h = ⊎_elim (below 11 P rows k) (λ i. absurd (let z = unknown_kind_lem k (omega arith) in omega arith)) (lt_or_le k 11)

-- a record that was read is of the kind that it was read by
pub kind-found : (k : ℕ) (s : List ℕ) → 0 < kind_size k → kind_of (decoded k s) ≡ k
unfolding kind_of decoded
kind-found k s = each-kind (λ j. kind_of (decoded j s) ≡ j) (((((((((((tt, refl), refl), refl), refl), refl), refl), refl), refl), refl), refl), refl) k

-- none is longer than the array
pub size_most : (k : ℕ) → kind_size k ≤ record_most
unfolding kind_size
size_most k = grind (arith, nat_tests)

pub record_most_lem : (r : Record) → length (record_bytes r) ≤ record_most
record_most_lem r = omega (arith, record_size_lem r, size_most (kind_of r))

-- The two outcomes of a write, and what is known of a record that was written.
use Rattle.std.proofs.Common.{◌≡◌, refl, ◌∙◌, ap, false, ◌||◌, ◌⊎◌, inl, inr, List, ◌++◌, ℕ, ◌+◌, ◌-◌, ◌≤◌, ◌<◌, min, arith, lt-ltb, le-ltb, ltb-false, ltb, length, take, drop, replicate, length-append, length-drop, length-take-le, ne_eqb, Ok, Err}
use Rattle.std.proofs.Math.Seq.{paste, take-append_seam}
use Rattle.numbers.proofs.Order.{lt_or_le}
use Rattle.limits.specs.Limits.{basis_refusal, record_refusal}
use Rattle.shapes.specs.declared.Record.{Record}
use Rattle.format.specs.Format.{list_most, header_size, basis_of, off_kind, kind_of, header_bytes, record_bytes}
use Rattle.format.specs.inner.Record.{record_most, padded}
use Rattle.records.specs.Write.{put_at, too_few, header_write_refusal, record_write_refusal, behind_header, behind_record, header_written, header_list, record_written, record_list}
use Rattle.format.specs.declared.Header.{Header}
use Rattle.records.specs.declared.write.Cursor.{Cursor}
use Rattle.limits.proofs.Limits.{clear, tried_clear, or_clear}

-- the first bytes of an array put into a list
pub put_padded : (l : List ℕ) (place : ℕ) (bs : List ℕ) → paste l place (padded bs) (length bs) ≡ put_at place bs l
put_padded l place bs = rw (take-append_seam bs (replicate (record_most - length bs) 0))

pub put_header : (l : List ℕ) (d : Header) → paste l 0 (padded (header_bytes d)) header_size ≡ put_at 0 (header_bytes d) l
unfolding header_bytes
put_header l d = put_padded l 0 (header_bytes d)

module _ (l : List ℕ) where
  pub header_refused : (d : Header) → 0 < header_write_refusal (length l) d
      → (header_written l d ≡ Err (header_write_refusal (length l) d)) × (header_list l d ≡ l)
  unfolding header_written header_list
  header_refused d h = rw (ne_eqb (header_write_refusal (length l) d) 0 (λ z. omega arith), lt-ltb 0 _ h) (refl, refl)

  pub header_done : (d : Header) → header_write_refusal (length l) d ≡ 0
      → (header_written l d ≡ Ok (behind_header d)) × (header_list l d ≡ put_at 0 (header_bytes d) l)
  unfolding header_written header_list
  header_done d e = rw e (refl, refl)

  module _ (c : Cursor) (r : Record) where
    pub record_refused : 0 < record_write_refusal (length l) c r
        → (record_written l c r ≡ Err (record_write_refusal (length l) c r)) × (record_list l c r ≡ l)
    unfolding record_written record_list
    record_refused h = rw (ne_eqb (record_write_refusal (length l) c r) 0 (λ z. omega arith), lt-ltb 0 _ h) (refl, refl)

    pub record_done : record_write_refusal (length l) c r ≡ 0
        → (record_written l c r ≡ Ok (behind_record c r)) × (record_list l c r ≡ put_at c.place (record_bytes r) l)
    unfolding record_written record_list
    record_done e = rw e (refl, refl)

-- ---- room for what ends at a place
pub record Room (n place size : ℕ) : Type 0 where
  pub behind : header_size ≤ place
  pub inside : place + size ≤ n
  pub most : place + size ≤ list_most

pub room : (n place size : ℕ) → ltb place header_size || too_few n (place + size) ≡ false → Room n place size
room n place size e =
    let both = or_clear (ltb place header_size) (too_few n (place + size)) e in
    let k : place + size ≤ min n list_most = ltb-false _ _ both.1 in
    record { behind = ltb-false _ _ both.0; inside = omega arith; most = omega arith }

-- ---- a record that is written
pub record Writable (n : ℕ) (c : Cursor) (r : Record) : Type 0 where
  pub basis : basis_refusal c.basis ≡ 0
  pub kind : off_kind c.basis.version (kind_of r) ≡ false
  pub lawful : record_refusal c.basis r ≡ 0
  pub room : Room n c.place (length (record_bytes r))

pub writable : (n : ℕ) (c : Cursor) (r : Record) → record_write_refusal n c r ≡ 0 → Writable n c r
unfolding record_write_refusal
writable n c r e =
    let basis = tried_clear (basis_refusal c.basis) _ e in
    let kind = clear (off_kind c.basis.version (kind_of r)) 3 _ basis.1 in
    let lawful = tried_clear (record_refusal c.basis r) _ kind.1 in
    let last = clear (ltb c.place header_size || too_few n (c.place + length (record_bytes r))) 21 0 lawful.1 in
    record { basis = basis.0; kind = kind.0; lawful = lawful.0; room = room n c.place (length (record_bytes r)) last.0 }

-- and a record with room for it is not refused
pub refusal-none : (n : ℕ) (c : Cursor) (r : Record) → Writable n c r → record_write_refusal n c r ≡ 0
unfolding record_write_refusal
refusal-none n c r p =
    simp (p.basis, p.kind, p.lawful, le-ltb c.place header_size p.room.behind, le-ltb (min n list_most) (c.place + length (record_bytes r)) (omega (arith, p.room.inside, p.room.most)))

pub header_room : (n : ℕ) (d : Header) → header_write_refusal n d ≡ 0 → header_size ≤ n
unfolding header_write_refusal
header_room n d e =
    let basis = tried_clear (basis_refusal (basis_of d)) _ e in
    let k : header_size ≤ min n list_most = ltb-false _ _ (clear (too_few n header_size) 21 0 basis.1).0 in
    omega arith

pub header-none : (n : ℕ) (d : Header) → basis_refusal (basis_of d) ≡ 0 → header_size ≤ n → header_write_refusal n d ≡ 0
unfolding header_write_refusal
header-none n d basis long = simp (basis, le-ltb (min n list_most) header_size (omega arith))

-- ---- a write leaves the list as long as it is
-- |take place l| + |bs| + |drop (place + |bs|) l| = |l|
pub put_length : (l : List ℕ) (place : ℕ) (bs : List ℕ) → place + length bs ≤ length l → length (put_at place bs l) ≡ length l
put_length l place bs h =
    let p = length-take-le place l (omega arith) in
    let q = length-append (take place l) bs in
    let r = length-append (take place l ++ bs) (drop (place + length bs) l) in
    let d = length-drop (place + length bs) l in
    omega arith

pub header-length : (l : List ℕ) (d : Header) → length (header_list l d) ≡ length l
unfolding header_bytes
header-length l d = go (lt_or_le 0 (header_write_refusal (length l) d))
  where
    go : (0 < header_write_refusal (length l) d) ⊎ (header_write_refusal (length l) d ≤ 0) → length (header_list l d) ≡ length l
    go (inl h) = ap length (header_refused l d h).1
    go (inr h) =
        let none : header_write_refusal (length l) d ≡ 0 = omega arith in
        let long = header_room (length l) d none in
        ap length (header_done l d none).1 ∙ put_length l 0 (header_bytes d) (omega arith)

pub record_length : (l : List ℕ) (c : Cursor) (r : Record) → length (record_list l c r) ≡ length l
record_length l c r = go (lt_or_le 0 (record_write_refusal (length l) c r))
  where
    go : (0 < record_write_refusal (length l) c r) ⊎ (record_write_refusal (length l) c r ≤ 0) → length (record_list l c r) ≡ length l
    go (inl k) = ap length (record_refused l c r k).1
    go (inr k) =
        let none : record_write_refusal (length l) c r ≡ 0 = omega arith in
        ap length (record_done l c r none).1 ∙ put_length l c.place (record_bytes r) (writable (length l) c r none).room.inside

-- The writer: the list being written, and where it stands, which is the place reached and the version, W and H that are held (R7.7, R8.6).
use Rattle.std.specs.Prelude.{Bool, cond, ◌||◌, List, [], ◌∷◌, ◌++◌, ℕ, ◌+◌, min, ltb, length, take, drop, Result, Ok, Err}
use Rattle.limits.specs.Limits.{first, tried, basis_refusal, record_refusal}
use Rattle.limits.specs.Refusal.{unless}
use Rattle.shapes.specs.declared.Record.{Record}
use Rattle.format.specs.Format.{list_most, header_size, basis_of, off_kind, kind_of, header_bytes, record_bytes}
use Rattle.format.specs.declared.Header.{Header}
use Rattle.records.specs.declared.write.Cursor.{Cursor}

-- the list l with the bytes bs from a place on
abbrev pub put_at : ℕ → List ℕ → List ℕ → List ℕ
put_at place bs l = take place l ++ bs ++ drop (place + length bs) l

-- 22: of n bytes, of which the first 65,536 serve, too few for what ends at a place
abbrev pub too_few : ℕ → ℕ → Bool
too_few n last = ltb (min n list_most) last

-- the refusals of a write to a list of n bytes. A header: 2, 3, 22
unfoldable pub header_write_refusal : ℕ → Header → ℕ
header_write_refusal n d = first (tried (basis_refusal (basis_of d)) ∷ (too_few n header_size, 22) ∷ [])

-- a record, where the writer stands at c: 2; 3; 4; those of 7 to 11, 31 and 33 to 35 that the kind has; 22
unfoldable pub record_write_refusal : ℕ → Cursor → Record → ℕ
record_write_refusal n c r =
    first
    (tried (basis_refusal c.basis)
    ∷ (off_kind c.basis.version (kind_of r), 4)
    ∷ tried (record_refusal c.basis r)
    ∷ (ltb c.place header_size || too_few n (c.place + length (record_bytes r)), 22)
    ∷ [])

-- where the writer stands behind a header and behind a record
abbrev pub behind_header : Header → Cursor
behind_header d = record { place = header_size; basis = basis_of d }

abbrev pub behind_record : Cursor → Record → Cursor
behind_record c r = record { place = c.place + length (record_bytes r); basis = c.basis }

-- the answer: where the writer then stands, or the number of the refusal
unfoldable pub header_written : List ℕ → Header → Result Cursor ℕ
header_written l d = unless (header_write_refusal (length l) d) (behind_header d)

unfoldable pub record_written : List ℕ → Cursor → Record → Result Cursor ℕ
record_written l c r = unless (record_write_refusal (length l) c r) (behind_record c r)

-- where a writer that stood at c stands after an answer: place and basis remain on a refusal
abbrev pub moved_to : Cursor → Result Cursor ℕ → Cursor
moved_to c (Ok next) = next
moved_to c (Err f) = c

-- the list, which remains on a refusal: a header goes to byte 0, a record to the place
unfoldable pub header_list : List ℕ → Header → List ℕ
header_list l d = cond (ltb 0 (header_write_refusal (length l) d)) l (put_at 0 (header_bytes d) l)

unfoldable pub record_list : List ℕ → Cursor → Record → List ℕ
record_list l c r = cond (ltb 0 (record_write_refusal (length l) c r)) l (put_at c.place (record_bytes r) l)

-- the list after some records, one after the other
unfoldable pub records_list : List ℕ → Cursor → List Record → List ℕ
records_list l c [] = l
records_list l c (r ∷ rs) = records_list (record_list l c r) (moved_to c (record_written l c r)) rs

-- the list after a header and then some records
unfoldable pub list_written : List ℕ → Cursor → Header → List Record → List ℕ
list_written l c d rs = records_list (header_list l d) (moved_to c (header_written l d)) rs

-- what follows an answer of a writer that stood at c: after a refusal nothing is written, and it is told where the writer stands
abbrev pub unless_refused : Cursor → Result Cursor ℕ → (Cursor → Result Cursor (ℕ × Cursor)) → Result Cursor (ℕ × Cursor)
unless_refused c (Ok next) then_from = then_from next
unless_refused c (Err f) then_from = Err (f, c)

-- what the writer answers to some records: where it then stands, or the number of the first refusal and where it stands then
unfoldable pub records_written : List ℕ → Cursor → List Record → Result Cursor (ℕ × Cursor)
records_written l c [] = Ok c
records_written l c (r ∷ rs) = unless_refused c (record_written l c r) (λ next. records_written (record_list l c r) next rs)

-- and to a header and then some records
unfoldable pub writer_answer : List ℕ → Cursor → Header → List Record → Result Cursor (ℕ × Cursor)
writer_answer l c d rs = unless_refused c (header_written l d) (λ next. records_written (header_list l d) next rs)

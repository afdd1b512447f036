-- The bytes of a list: both round trips (R10.2).
use Rattle.std.specs.Prelude.{Bool, List, ◌++◌, ◌≡◌, ℕ, ◌+◌, ◌≤◌, length, drop, Ok}
use Rattle.shapes.specs.declared.Record.{Record}
use Rattle.format.specs.Format.{header_at, basis_of, record_bytes}
use Rattle.records.specs.Read.{reading_of, past_record}
use Rattle.records.specs.Write.{record_write_refusal, record_list, list_written, writer_answer}
use Rattle.records.specs.declared.write.Cursor.{Cursor}
use Rattle.lists.specs.List.{accepted, records_of, AllBytes}

pub record Lists : Type 0 where
  -- what is written reads back as the same record (R10.2)
  pub read_written : (l : List ℕ) (c : Cursor) (r : Record) → record_write_refusal (length l) c r ≡ 0
      → reading_of c.basis (drop c.place (record_list l c r)) ≡ Ok r
  -- and the bytes past it, which are those that stood there, are handed back (R7.6)
  pub past_written : (l : List ℕ) (c : Cursor) (r : Record) → record_write_refusal (length l) c r ≡ 0
      → past_record c.basis (drop c.place (record_list l c r)) ≡ drop (c.place + length (record_bytes r)) l
  -- an accepted list s, written again into any list m that is as long at least, gives its own bytes, and those behind them are kept (R10.2)
  pub written_again : (tests : List (Bool × ℕ)) (s : List ℕ) (rs : List Record) → AllBytes s → records_of tests s ≡ accepted rs
      → (m : List ℕ) (c : Cursor) → length s ≤ length m → list_written m c (header_at s) rs ≡ s ++ drop (length s) m
  -- into one of its own length it gives itself (R10.2)
  pub own_bytes : (tests : List (Bool × ℕ)) (s : List ℕ) (rs : List Record) → AllBytes s → records_of tests s ≡ accepted rs
      → (m : List ℕ) (c : Cursor) → length m ≡ length s → list_written m c (header_at s) rs ≡ s
  -- no write is refused, the place ends behind the list, and its own version, W and H are held (R7.7)
  pub answered-again : (tests : List (Bool × ℕ)) (s : List ℕ) (rs : List Record) → AllBytes s → records_of tests s ≡ accepted rs
      → (m : List ℕ) (c : Cursor) → length s ≤ length m → writer_answer m c (header_at s) rs ≡ Ok (record { place = length s; basis = basis_of (header_at s) })

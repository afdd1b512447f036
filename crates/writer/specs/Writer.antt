-- A writer after a header and after a record: the functions of `records` on its list, and where it stands (R7.7).
use Rattle.std.specs.Prelude.{◌≡◌, List, ℕ, length}
use denote.Ref.{at_last}
use Rattle.limits.specs.Limits.{basis_by}
use Rattle.limits.specs.Refusal.{told}
use Rattle.shapes.specs.declared.Record.{Record}
use Rattle.records.specs.Write.{header_write_refusal, record_write_refusal, moved_to, header_written, header_list, record_written, record_list}
use Rattle.format.specs.declared.Header.{Header}
use Rattle.records.specs.declared.write.Cursor.{Cursor}
use Rattle.writer.specs.declared.Writer.{Writer}
use Rattle.writer.specs.declared.Started.{Started}

-- the writer with a list, and where it stands; `at_last` keeps the borrow and changes what it holds
abbrev pub moved : Writer → List ℕ → Cursor → Writer
moved x l c = record { list = at_last x.list l; at = c }

abbrev pub headed : Writer → Header → Writer
headed x d = moved x (header_list x.list.now d) (moved_to x.at (header_written x.list.now d))

abbrev pub recorded : Writer → Record → Writer
recorded x r = moved x (record_list x.list.now x.at r) (moved_to x.at (record_written x.list.now x.at r))

-- a writer at place 0 that holds a version, W and H of 0, and where it stands behind a header
abbrev pub start : Cursor
start = record { place = 0; basis = basis_by 0 0 0 }

abbrev pub header_first : List ℕ → Header → Cursor
header_first l d = moved_to start (header_written l d)

-- what is told of a header by that writer, and of a record behind it: their refusals, and the place that is reached
pub record StartedBy (l : List ℕ) (d : Header) (r : Record) (s : Started) : Type 0 where
  pub header : told s.header ≡ header_write_refusal (length l) d
  pub rec : told s.rec ≡ record_write_refusal (length (header_list l d)) (header_first l d) r
  pub place : s.place ≡ (moved_to (header_first l d) (record_written (header_list l d) (header_first l d) r)).place

abbrev pub started_list : List ℕ → Header → Record → List ℕ
started_list l d r = record_list (header_list l d) (header_first l d) r

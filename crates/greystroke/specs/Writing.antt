-- A header and a record written by the numbers of C, and the list after it (R7.7, R8.7).
use Rattle.std.specs.Prelude.{List, ℕ, Option, None, Some}
use Rattle.shapes.specs.declared.Record.{Record}
use Rattle.shapes.specs.declared.Record.TheVariants.{Shape as shape}
use Rattle.format.specs.declared.Header.{Header}
use Rattle.records.specs.Write.{header_written, record_written, record_list}
use Rattle.records.specs.declared.write.Cursor.{Cursor}
use Rattle.arguments.specs.Taken.{unsigned_of, basis_taken}
use Rattle.arguments.specs.declared.GivenBasis.{GivenBasis}
use Rattle.shapes.specs.declared.Shape.{Shape}
use Rattle.answers.specs.Shape.{call_place}
use Rattle.answers.specs.Record.{write_answer}
use Rattle.answers.specs.declared.record.WriteAnswer.{WriteAnswer}
use Rattle.greystroke.specs.Shape.{unknown_kind}

-- a header by its version, W and H, and its background
abbrev pub header_of : GivenBasis → ℕ → Header
header_of b background =
    record { version = unsigned_of b.version; w = unsigned_of b.w; h = unsigned_of b.h; background = background }

-- where a writer stands by the numbers of C
abbrev pub cursor_of : ℕ → GivenBasis → Cursor
cursor_of place b = record { place = place; basis = basis_taken b }

-- a header, a record and a shape by the numbers of C, into the list l where the basis b is held, and the list after it
unfoldable pub header_put : List ℕ → ℕ → GivenBasis → Header → WriteAnswer
header_put l place b d = write_answer b place (header_written l d)

unfoldable pub record_put : List ℕ → ℕ → GivenBasis → Record → WriteAnswer
record_put l place b r = write_answer b place (record_written l (cursor_of place b) r)

unfoldable pub after_record : List ℕ → ℕ → GivenBasis → Record → List ℕ
after_record l place b r = record_list l (cursor_of place b) r

unfoldable pub shape_put : List ℕ → ℕ → GivenBasis → Option Shape → WriteAnswer
shape_put l place b (Some s) = record_put l place b (shape s)
shape_put l place b None = record { refusal = unknown_kind; place = call_place; next = place; basis = b }

unfoldable pub after_shape : List ℕ → ℕ → GivenBasis → Option Shape → List ℕ
after_shape l place b (Some s) = after_record l place b (shape s)
after_shape l place b None = l

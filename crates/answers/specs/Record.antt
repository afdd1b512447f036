-- The answers about one record in the form that C takes (R7.6, R7.7, R8.3).
use Rattle.std.specs.Prelude.{List, [], ◌∷◌, ℕ, ℤ, pos, length, replicate, Result, Ok, Err}
use Rattle.shapes.specs.declared.Shape.TheVariants.{Line as line, Disc as disc, Ring as ring, Triangle as triangle}
use Rattle.shapes.specs.declared.Setting.TheVariants.{Clip as clip, Level as level, Player as player}
use Rattle.shapes.specs.declared.Record.{Record}
use Rattle.shapes.specs.declared.Record.TheVariants.{End as end, Setting as setting, Shape as shape}
use Rattle.format.specs.Format.{kind_of, record_bytes}
use Rattle.records.specs.declared.write.Cursor.{Cursor}
use Rattle.arguments.specs.Taken.{basis_given}
use Rattle.arguments.specs.declared.GivenBasis.{GivenBasis}
use Rattle.answers.specs.Shape.{call_place}
use Rattle.answers.specs.declared.record.ReadAnswer.{ReadAnswer}
use Rattle.answers.specs.declared.record.WriteAnswer.{WriteAnswer}

-- ---- reading

-- the numbers of a record in the order of its bytes, then zeros
abbrev pub numbers_of : Record → List ℤ
numbers_of end = replicate 6 (pos 0)
numbers_of (setting (clip c)) = pos c.x0 ∷ pos c.y0 ∷ pos c.x1 ∷ pos c.y1 ∷ pos 0 ∷ pos 0 ∷ []
numbers_of (setting (level v)) = pos v ∷ pos 0 ∷ pos 0 ∷ pos 0 ∷ pos 0 ∷ pos 0 ∷ []
numbers_of (setting (player p)) = pos p ∷ pos 0 ∷ pos 0 ∷ pos 0 ∷ pos 0 ∷ pos 0 ∷ []
numbers_of (shape (line l)) = l.x0 ∷ l.y0 ∷ l.x1 ∷ l.y1 ∷ pos 0 ∷ pos 0 ∷ []
numbers_of (shape (disc d)) = d.x ∷ d.y ∷ pos d.radius ∷ pos 0 ∷ pos 0 ∷ pos 0 ∷ []
numbers_of (shape (ring g)) = g.x ∷ g.y ∷ pos g.radius ∷ pos g.width ∷ pos 0 ∷ pos 0 ∷ []
numbers_of (shape (triangle t)) = t.x0 ∷ t.y0 ∷ t.x1 ∷ t.y1 ∷ t.x2 ∷ t.y2 ∷ []

-- how many bytes a record has, its kind and its six numbers
abbrev pub record_answer : Record → ReadAnswer
record_answer r = record { refusal = 0; place = call_place; size = length (record_bytes r); kind = kind_of r; numbers = numbers_of r }

abbrev pub read_answer : Result Record ℕ → ReadAnswer
read_answer (Ok r) = record_answer r
read_answer (Err refusal) =
    record { refusal = refusal; place = call_place; size = 0; kind = 0; numbers = replicate 6 (pos 0) }

-- ---- writing

-- next is where the next record goes. After a refusal it and the basis are those that were given
abbrev pub write_answer : GivenBasis → ℕ → Result Cursor ℕ → WriteAnswer
write_answer b place (Ok at) = record { refusal = 0; place = call_place; next = at.place; basis = basis_given at.basis }
write_answer b place (Err refusal) = record { refusal = refusal; place = call_place; next = place; basis = b }

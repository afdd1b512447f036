-- "A list is tried": the refusals of a whole list in their order, each with its place, and the records and the ceiling of an accepted one (R6.6, R8.2, R8.3).
use Rattle.std.specs.Prelude.{Bool, not, cond, ◌&&◌, List, [], ◌∷◌, ◌≡◌, ℕ, zero, suc, ◌+◌, ◌*◌, ◌<◌, ltb, eqb, length, get_or, drop, Result, Ok, Err}
use Rattle.lights.specs.Lights.{fit}
use Rattle.limits.specs.Limits.{first, tried, basis_refusal}
use Rattle.shapes.specs.declared.Basis.{Basis}
use Rattle.shapes.specs.declared.Record.{Record}
use Rattle.format.specs.Format.{list_most, header_size, mark, header_at, basis_of, kind_at, size_at, record_at}
use Rattle.records.specs.Read.{read_refusal}
use Rattle.settings.specs.Drawing.{drawings}
use Rattle.settings.specs.Ceiling.{ceiling}
use Rattle.format.specs.declared.Header.{Header}
use Rattle.lists.specs.declared.check.Accepted.{Accepted}

-- the records of a list, the end record last; or the number of its first refusal and the place
pub data Records : Type 0 where
  accepted : List Record → Records
  refused : ℕ → ℕ → Records

abbrev pub mark_at : List ℕ → ℕ → Bool
mark_at s i = eqb (get_or s i 0) (get_or mark i 0)

abbrev pub has_mark : List ℕ → Bool
has_mark s = mark_at s 0 && mark_at s 1 && mark_at s 2

-- 12; 5 under 10 bytes; 1; 2; 3; then the tests of what the list is for
unfoldable pub header_refusal : List (Bool × ℕ) → List ℕ → ℕ
header_refusal tests s =
    first
    ((ltb list_most (length s), 12)
    ∷ (ltb (length s) header_size, 5)
    ∷ (not (has_mark s), 1)
    ∷ tried (basis_refusal (basis_of (header_at s)))
    ∷ tests)

-- the tests of a page of n bytes and of lights. 21: the page has fewer than W-as-H; 32: the lights are not fit
abbrev pub page_tests : Header → ℕ → List ℕ → List (Bool × ℕ)
page_tests d n lights = (ltb n (d.w * d.h), 21) ∷ (not (fit lights), 32) ∷ []

-- r in front of the records that follow it
abbrev pub onto : Record → Records → Records
onto r (accepted rs) = accepted (r ∷ rs)
onto r (refused f place) = refused f place

-- behind the end record: 6, at the first surplus byte
abbrev pub behind_end : List ℕ → ℕ → Records
behind_end s place = cond (ltb 0 (length s)) (refused 6 place) (accepted [])

-- the records of the bytes s that begin at a place: 4, 5, 7 to 11, 31 and 33 to 35 of each record, at its first byte.
-- A record has a byte at least, so that the fuel lasts if it is above the length.
unfoldable pub records_from : ℕ → Basis → List ℕ → ℕ → Records
records_from zero b s place = refused 5 place
records_from (suc fuel) b s place =
    cond (ltb 0 (read_refusal b s)) (refused (read_refusal b s) place)
    (onto (record_at s)
    (cond (eqb (kind_at s) 0)
    (behind_end (drop (size_at s) s) (place + size_at s))
    (records_from fuel b (drop (size_at s) s) (place + size_at s))))

-- a whole list s
unfoldable pub records_of : List (Bool × ℕ) → List ℕ → Records
records_of tests s =
    cond (ltb 0 (header_refusal tests s)) (refused (header_refusal tests s) 0)
    (records_from (suc (length s)) (basis_of (header_at s)) (drop header_size s) header_size)

-- what its check answers: the header and the ceiling of the drawings of an accepted list; the number of a refusal and its place
abbrev pub checked_as : Header → Records → Result Accepted (ℕ × ℕ)
checked_as d (accepted rs) = Ok (record { header = d; ceiling = ceiling (drawings (basis_of d) rs) })
checked_as d (refused f place) = Err (f, place)

-- a list s for a page of n bytes in some lights
abbrev pub page_records : List ℕ → ℕ → List ℕ → Records
page_records s n lights = records_of (page_tests (header_at s) n lights) s

abbrev pub checked_of : List ℕ → ℕ → List ℕ → Result Accepted (ℕ × ℕ)
checked_of s n lights = checked_as (header_at s) (page_records s n lights)

-- without a page: 21 and 32 are not tried
abbrev pub pageless_records : List ℕ → Records
pageless_records s = records_of [] s

abbrev pub checked_without_page : List ℕ → Result Accepted (ℕ × ℕ)
checked_without_page s = checked_as (header_at s) (pageless_records s)

-- each element of a list is a byte, as those of a lent one are
abbrev pub AllBytes : List ℕ → Type 0
AllBytes s = (i : ℕ) → get_or s i 0 < 256

-- s is a list of bytes that is accepted, with the records rs, for a page of n bytes in some lights
pub record AcceptedList (lights s : List ℕ) (n : ℕ) (rs : List Record) : Type 0 where
  pub bytes : AllBytes s
  pub is : page_records s n lights ≡ accepted rs

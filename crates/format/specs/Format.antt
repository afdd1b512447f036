-- "Drawing list": the header and the records as bytes. Fields of two bytes go low byte first (`word_of`, `bytes_of`) (R7.1 to R7.3).
use Rattle.std.specs.Prelude.{Bool, true, false, cond, List, [], ◌∷◌, ◌++◌, ℕ, ◌+◌, ltb, eqb, ℤ, get_or}
use Rattle.numbers.specs.Coordinate.{bits_of, signed_of, word_of, bytes_of}
use Rattle.limits.specs.Limits.{basis_by}
use Rattle.shapes.specs.declared.Line.{Line}
use Rattle.shapes.specs.declared.Disc.{Disc}
use Rattle.shapes.specs.declared.Ring.{Ring}
use Rattle.shapes.specs.declared.Triangle.{Triangle}
use Rattle.shapes.specs.declared.Shape.TheVariants.{Line as line, Disc as disc, Ring as ring, Triangle as triangle}
use Rattle.shapes.specs.declared.Clip.{Clip}
use Rattle.shapes.specs.declared.Basis.{Basis}
use Rattle.shapes.specs.declared.Setting.TheVariants.{Clip as clip, Level as level, Player as player}
use Rattle.shapes.specs.declared.Record.{Record}
use Rattle.shapes.specs.declared.Record.TheVariants.{End as end, Setting as setting, Shape as shape}
use Rattle.format.specs.declared.Header.{Header}

-- ---- sizes

-- a list has at most 65,536 bytes
abbrev pub list_most : ℕ
list_most = 65536

abbrev pub header_size : ℕ
header_size = 10

-- ---- the header, the clip and the shapes that stand at the front of the bytes s

abbrev pub word_at : List ℕ → ℕ → ℕ
word_at s i = word_of (get_or s i 0) (get_or s (i + 1) 0)

abbrev pub coordinate_at : List ℕ → ℕ → ℤ
coordinate_at s i = signed_of (word_at s i)

abbrev pub header_at : List ℕ → Header
header_at s = record { version = word_at s 3; w = word_at s 5; h = word_at s 7; background = get_or s 9 0 }

-- what the records behind a header are read against
abbrev pub basis_of : Header → Basis
basis_of d = basis_by d.version d.w d.h

abbrev pub clip_at : List ℕ → Clip
clip_at s = record { x0 = word_at s 1; y0 = word_at s 3; x1 = word_at s 5; y1 = word_at s 7 }

abbrev pub line_at : Bool → List ℕ → Line
line_at exact s =
    record { exact = exact; x0 = coordinate_at s 1; y0 = coordinate_at s 3; x1 = coordinate_at s 5; y1 = coordinate_at s 7 }

-- a radius or a width: two bytes in a big disc or ring, and one in others
abbrev pub measure_at : Bool → List ℕ → ℕ → ℕ
measure_at big s i = cond big (word_at s i) (get_or s i 0)

abbrev pub disc_at : Bool → List ℕ → Disc
disc_at big s = record { x = coordinate_at s 1; y = coordinate_at s 3; radius = measure_at big s 5; big = big }

abbrev pub ring_at : Bool → List ℕ → Ring
ring_at big s =
    record { x = coordinate_at s 1; y = coordinate_at s 3; radius = measure_at big s 5; width = measure_at big s (cond big 7 6); big = big }

abbrev pub triangle_at : List ℕ → Triangle
triangle_at s =
    record { x0 = coordinate_at s 1; y0 = coordinate_at s 3; x1 = coordinate_at s 5; y1 = coordinate_at s 7; x2 = coordinate_at s 9; y2 = coordinate_at s 11 }

-- ---- the kinds

-- a row for each kind: its number, how many bytes a record has, the kind byte with them, and the record at the front of some bytes
pub record Row : Type 0 where
  pub number : ℕ
  pub size : ℕ
  pub found : List ℕ → Record

abbrev row : ℕ → ℕ → (List ℕ → Record) → Row
row k n r = record { number = k; size = n; found = r }

abbrev pub kinds : List Row
kinds =
    row 0 1 (λ s. end)
    ∷ row 1 9 (λ s. setting (clip (clip_at s)))
    ∷ row 2 2 (λ s. setting (level (get_or s 1 0)))
    ∷ row 3 9 (λ s. shape (line (line_at true s)))
    ∷ row 4 9 (λ s. shape (line (line_at false s)))
    ∷ row 5 6 (λ s. shape (disc (disc_at false s)))
    ∷ row 6 7 (λ s. shape (ring (ring_at false s)))
    ∷ row 7 2 (λ s. setting (player (get_or s 1 0)))
    ∷ row 8 7 (λ s. shape (disc (disc_at true s)))
    ∷ row 9 9 (λ s. shape (ring (ring_at true s)))
    ∷ row 10 13 (λ s. shape (triangle (triangle_at s)))
    ∷ []

-- the size and the record by the row of kind k; 0 and an end record where there is none
abbrev pub size_in : List Row → ℕ → ℕ
size_in [] k = 0
size_in (r ∷ rs) k = cond (eqb k r.number) r.size (size_in rs k)

abbrev pub found_in : List Row → ℕ → List ℕ → Record
found_in [] k s = end
found_in (r ∷ rs) k s = cond (eqb k r.number) (r.found s) (found_in rs k s)

unfoldable pub kind_size : ℕ → ℕ
kind_size = size_in kinds

unfoldable pub decoded : ℕ → List ℕ → Record
decoded = found_in kinds

-- a version has the kinds from 0 to its last
abbrev pub last_kind : ℕ → ℕ
last_kind v = cond (eqb v 1) 6 10

-- 4: a kind that version v does not have
abbrev pub off_kind : ℕ → ℕ → Bool
off_kind v k = ltb (last_kind v) k

-- the kind of a record
unfoldable pub kind_of : Record → ℕ
kind_of end = 0
kind_of (setting (clip c)) = 1
kind_of (setting (level v)) = 2
kind_of (setting (player p)) = 7
kind_of (shape (line l)) = cond l.exact 3 4
kind_of (shape (disc d)) = cond d.big 8 5
kind_of (shape (ring g)) = cond g.big 9 6
kind_of (shape (triangle t)) = 10

abbrev pub kind_at : List ℕ → ℕ
kind_at s = get_or s 0 0

abbrev pub size_at : List ℕ → ℕ
size_at s = kind_size (kind_at s)

abbrev pub record_at : List ℕ → Record
record_at s = decoded (kind_at s) s

-- ---- the bytes of a header and of a record

-- the letters INK
abbrev pub mark : List ℕ
mark = 73 ∷ 78 ∷ 75 ∷ []

-- some numbers of two bytes, unsigned and signed
abbrev pub words : List ℕ → List ℕ
words [] = []
words (n ∷ ns) = bytes_of n ++ words ns

abbrev pub coordinates : List ℤ → List ℕ
coordinates [] = []
coordinates (z ∷ zs) = bytes_of (bits_of z) ++ coordinates zs

-- a radius and a width: two bytes each under kinds 8 and 9, one byte each under 5 and 6
abbrev pub measures : Bool → List ℕ → List ℕ
measures big ns = cond big (words ns) ns

unfoldable pub header_bytes : Header → List ℕ
header_bytes d = mark ++ words (d.version ∷ d.w ∷ d.h ∷ []) ++ d.background ∷ []

unfoldable pub fields_of : Record → List ℕ
fields_of end = []
fields_of (setting (clip c)) = words (c.x0 ∷ c.y0 ∷ c.x1 ∷ c.y1 ∷ [])
fields_of (setting (level v)) = v ∷ []
fields_of (setting (player p)) = p ∷ []
fields_of (shape (line l)) = coordinates (l.x0 ∷ l.y0 ∷ l.x1 ∷ l.y1 ∷ [])
fields_of (shape (disc d)) = coordinates (d.x ∷ d.y ∷ []) ++ measures d.big (d.radius ∷ [])
fields_of (shape (ring g)) = coordinates (g.x ∷ g.y ∷ []) ++ measures g.big (g.radius ∷ g.width ∷ [])
fields_of (shape (triangle t)) = coordinates (t.x0 ∷ t.y0 ∷ t.x1 ∷ t.y1 ∷ t.x2 ∷ t.y2 ∷ [])

abbrev pub record_bytes : Record → List ℕ
record_bytes r = kind_of r ∷ fields_of r

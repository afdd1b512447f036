-- "Turning down": which numbers are refused, and in which order they are tried (R8).
use Rattle.std.specs.Prelude.{Bool, not, cond, ◌&&◌, ◌||◌, List, [], ◌∷◌, ℕ, ltb, leb, eqb, ℤ, ◌-ℤ◌, ◌*ℤ◌}
use Rattle.std.specs.Int.Signed.{le_z}
use Rattle.numbers.specs.Coordinate.{in_range}
use Rattle.shapes.specs.Span.{width, height}
use Rattle.shapes.specs.declared.Triangle.{Triangle}
use Rattle.shapes.specs.declared.Shape.{Shape}
use Rattle.shapes.specs.declared.Shape.TheVariants.{Line as line, Disc as disc, Ring as ring, Triangle as triangle}
use Rattle.shapes.specs.declared.Clip.{Clip}
use Rattle.shapes.specs.declared.Basis.{Basis}
use Rattle.shapes.specs.declared.Setting.TheVariants.{Clip as clip, Level as level, Player as player}
use Rattle.shapes.specs.declared.Record.{Record}
use Rattle.shapes.specs.declared.Record.TheVariants.{End as end, Setting as setting, Shape as shape}

-- the first test that holds gives its number; 0 where none does
abbrev pub first : List (Bool × ℕ) → ℕ
first [] = 0
first (t ∷ ts) = cond t.0 t.1 (first ts)

-- a refusal that is given by its number, as a test
abbrev pub tried : ℕ → Bool × ℕ
tried f = (ltb 0 f, f)

-- 2: a version other than 1 or 2
abbrev pub version_most : ℕ
version_most = 2

abbrev pub off_version : ℕ → Bool
off_version v = ltb v 1 || ltb version_most v

-- 3: W or H outside 1 to 1,024
unfoldable pub off_size : ℕ → ℕ → Bool
off_size w h = ltb w 1 || ltb 1024 w || ltb h 1 || ltb 1024 h

-- 7: a coordinate outside its range
abbrev pub outside : ℤ → Bool
outside c = not (in_range c)

unfoldable pub off_range : Shape → Bool
off_range (line l) = outside l.x0 || outside l.y0 || outside l.x1 || outside l.y1
off_range (disc d) = outside d.x || outside d.y
off_range (ring g) = outside g.x || outside g.y
off_range (triangle t) = outside t.x0 || outside t.y0 || outside t.x1 || outside t.y1 || outside t.x2 || outside t.y2

-- 8: a clip out of order or off the page
unfoldable pub off_page : ℕ → ℕ → Clip → Bool
off_page w h c = not (leb c.x0 c.x1 && leb c.x1 w && leb c.y0 c.y1 && leb c.y1 h)

-- a and b are the same number
abbrev pub same : ℤ → ℤ → Bool
same a b = le_z a b && le_z b a

-- the greatest radius; kinds 5 and 6 have one byte for it
abbrev pub radius_most : ℕ
radius_most = 1023

abbrev pub byte_radius_most : ℕ
byte_radius_most = 255

-- the greatest width and height of a triangle
abbrev pub triangle_most : ℕ
triangle_most = 127

-- the sides from corner 0 to the others have one slope: the cross products of their spans agree
unfoldable pub on_one_line : Triangle → Bool
on_one_line t = same ((t.x1 -ℤ t.x0) *ℤ (t.y2 -ℤ t.y0)) ((t.x2 -ℤ t.x0) *ℤ (t.y1 -ℤ t.y0))

-- 31: a player above 7
abbrev pub player_most : ℕ
player_most = 7

abbrev pub off_player : ℕ → Bool
off_player p = ltb player_most p

-- what else is tried of a shape whose radius may be at most m. 9: a line whose ends coincide. 10: a radius of 0. 33: a radius above m.
-- 11: a ring's width of 0 or above the radius. 34: a triangle's width or height above the greatest. 35: its corners on one straight line
unfoldable pub refusals_of : ℕ → Shape → List (Bool × ℕ)
refusals_of m (line l) = (same l.x0 l.x1 && same l.y0 l.y1, 9) ∷ []
refusals_of m (disc d) = (eqb d.radius 0, 10) ∷ (ltb m d.radius, 33) ∷ []
refusals_of m (ring g) = (eqb g.radius 0, 10) ∷ (ltb m g.radius, 33) ∷ (ltb g.width 1 || ltb g.radius g.width, 11) ∷ []
refusals_of m (triangle t) = (ltb triangle_most (width t) || ltb triangle_most (height t), 34) ∷ (on_one_line t, 35) ∷ []

-- the basis of version v and a page of w by h
abbrev pub basis_by : ℕ → ℕ → ℕ → Basis
basis_by v w h = record { version = v; w = w; h = h }

-- what is tried of W and H, of a basis, of a clip, of a player, of a shape and of a record
unfoldable pub size_refusal : ℕ → ℕ → ℕ
size_refusal w h = first ((off_size w h, 3) ∷ [])

unfoldable pub basis_refusal : Basis → ℕ
basis_refusal b = first ((off_version b.version, 2) ∷ tried (size_refusal b.w b.h) ∷ [])

unfoldable pub clip_refusal : ℕ → ℕ → Clip → ℕ
clip_refusal w h c = first ((off_page w h c, 8) ∷ [])

unfoldable pub player_refusal : ℕ → ℕ
player_refusal p = first ((off_player p, 31) ∷ [])

unfoldable pub refusal_within : ℕ → Shape → ℕ
refusal_within m s = first ((off_range s, 7) ∷ refusals_of m s)

-- in a call a disc and a ring may have any radius, whichever kind they are
abbrev pub shape_refusal : Shape → ℕ
shape_refusal = refusal_within radius_most

-- in a record they may have the radius that their kind has room for
abbrev pub circle_room : Bool → ℕ
circle_room big = cond big radius_most byte_radius_most

abbrev pub radius_room : Shape → ℕ
radius_room (line l) = radius_most
radius_room (disc d) = circle_room d.big
radius_room (ring g) = circle_room g.big
radius_room (triangle t) = radius_most

unfoldable pub record_refusal : Basis → Record → ℕ
record_refusal b end = 0
record_refusal b (setting (clip c)) = clip_refusal b.w b.h c
record_refusal b (setting (level v)) = 0
record_refusal b (setting (player p)) = player_refusal p
record_refusal b (shape s) = refusal_within (radius_room s) s

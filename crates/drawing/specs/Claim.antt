-- The claim about a list, whole: what drawing it answers, what it leaves on the page, and how far each byte may be from the exact blend (R10.3).
use Rattle.std.specs.Prelude.{List, [], ℕ, ◌+◌, ◌*◌, ◌<◌, length, get_or, ◌≡◌, Result, Ok, Err}
use Rattle.numbers.specs.Fraction.{Within}
use Rattle.lights.specs.Lights.{light_of}
use Rattle.format.specs.Format.{header_at, basis_of}
use Rattle.lists.specs.List.{Records, accepted, refused, page_records}
use Rattle.settings.specs.Drawing.{Drawing, drawings}
use Rattle.format.specs.declared.Header.{Header}
use Rattle.bound.specs.Exact.{Touch, whole, exact_after, bound_of}
use Rattle.drawing.specs.Touches.{touches_at}
use Rattle.drawing.specs.Page.{drawn_page}
use Rattle.drawing.specs.Counts.{shapes_count, player_counts, Counted}
use Rattle.drawing.specs.declared.Size.{Size}
use Rattle.drawing.specs.Outcome.{Outcome}

-- ---- a list with the header d, and its records or its refusal

-- the answer: W and H, or the refusal and its place
unfoldable pub answer_by : Header → Records → Result Size (ℕ × ℕ)
answer_by d (accepted rs) = Ok (record { w = d.w; h = d.h })
answer_by d (refused f place) = Err (f, place)

-- its drawings; a refused list has none
unfoldable pub drawings_by : Header → Records → List Drawing
drawings_by d (accepted rs) = drawings (basis_of d) rs
drawings_by d (refused f place) = []

-- the page l after it in some lights; after a refusal as it was
unfoldable pub page_by : List ℕ → Header → Records → List ℕ → List ℕ
page_by lights d (accepted rs) l = drawn_page lights d.w d.h d.background (drawings (basis_of d) rs) l
page_by lights d (refused f place) l = l

-- the light of a byte u that some touches leave of the background b is within their bound of the exact blend, from the background's light on
pub record ByteBounded (lights : List ℕ) (u b : ℕ) (ts : List Touch) : Type 0 where
  pub exact_pos : 0 < (exact_after lights (whole (light_of lights b)) ts).den
  pub bound_pos : 0 < (bound_of lights ts).den
  pub within : Within (whole (light_of lights u)) (exact_after lights (whole (light_of lights b)) ts) (bound_of lights ts)

-- every pixel of the page m is
unfoldable pub Bounded : List ℕ → Header → Records → List ℕ → Type 0
Bounded lights d (accepted rs) m =
    (x y : ℕ) → x < d.w → y < d.h → ByteBounded lights (get_or m (y * d.w + x) 0) d.background (touches_at (drawings (basis_of d) rs) x y)
Bounded lights d (refused f place) m = Unit {0}

-- ---- the list s, drawn in some lights on the page l, comes to r and leaves m

pub record ClaimBy (lights : List ℕ) (d : Header) (x : Records) (l : List ℕ) (r : Outcome) (m : List ℕ) : Type 0 where
  -- W and H are told, or the first refusal and its place
  pub answer : r.answer ≡ answer_by d x
  -- each byte is what blending leaves from the background on; past the page, and after a refusal, each is as it was
  pub page : m ≡ page_by lights d x l
  -- the light of each byte is no further from the exact, never rounded blend in light than half the widest gap between neighbouring
  -- lights for each shape that touched the pixel after the last that covered it whole, plus the last light less the first times s/(4·l)
  -- for each approximate line among them
  pub bound : Bounded lights d x m
  -- eight counts are told, each player's own; after a refusal there are none
  pub counts : Counted d.version d.w d.h (drawings_by d x) r.touched

abbrev pub Claim : List ℕ → List ℕ → List ℕ → Outcome → List ℕ → Type 0
Claim lights s l = ClaimBy lights (header_at s) (page_records s (length l) lights) l

-- what comes of the list, and the page that it leaves, by themselves
abbrev pub outcome_by : Header → Records → Outcome
outcome_by d x = record { answer = answer_by d x; touched = player_counts (shapes_count d.w d.h) (drawings_by d x) }

abbrev pub list_outcome : List ℕ → List ℕ → List ℕ → Outcome
list_outcome lights s l = outcome_by (header_at s) (page_records s (length l) lights)

abbrev pub list_page : List ℕ → List ℕ → List ℕ → List ℕ
list_page lights s l = page_by lights (header_at s) (page_records s (length l) lights) l

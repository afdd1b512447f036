-- The claim about a list that is drawn in lights equal to codes, in codes alone: what the claim in light comes to for them (R10.3).
use Rattle.std.specs.Prelude.{cond, List, [], ◌∷◌, ◌≡◌, ℕ, ◌+◌, ◌*◌, ◌%◌, ◌/◌, ◌<◌, ltb, length, get_or}
use Rattle.numbers.specs.Fraction.{Within}
use Rattle.page.specs.Page.{over}
use Rattle.format.specs.Format.{header_at, basis_of}
use Rattle.lists.specs.List.{Records, accepted, refused, records_of}
use Rattle.settings.specs.Drawing.{drawings}
use Rattle.format.specs.declared.Header.{Header}
use Rattle.bound.specs.Exact.{Touch, whole}
use Rattle.bound.specs.Codes.{code_after, exact_code_after, code_bound_of}
use Rattle.drawing.specs.Touches.{touches_at}
use Rattle.drawing.specs.Counts.{Counted}
use Rattle.drawing.specs.Claim.{answer_by, drawings_by}
use Rattle.drawing.specs.Outcome.{Outcome}

-- the page after a list: codes are blended as they stand, from the background on; after a refusal it is as it was
unfoldable pub codes_page : Header → Records → List ℕ → List ℕ
codes_page d (accepted rs) l =
    over (λ k u. cond (ltb k (d.w * d.h)) (code_after d.background (touches_at (drawings (basis_of d) rs) (k % d.w) (k / d.w))) u) l
codes_page d (refused f place) l = l

-- a byte u that some touches leave of the background b is within their bound of the exact blend of codes
pub record CodeBounded (u b : ℕ) (ts : List Touch) : Type 0 where
  pub exact_pos : 0 < (exact_code_after (whole b) ts).den
  pub bound_pos : 0 < (code_bound_of ts).den
  pub within : Within (whole u) (exact_code_after (whole b) ts) (code_bound_of ts)

unfoldable pub CodesBounded : Header → Records → List ℕ → Type 0
CodesBounded d (accepted rs) m =
    (x y : ℕ) → x < d.w → y < d.h → CodeBounded (get_or m (y * d.w + x) 0) d.background (touches_at (drawings (basis_of d) rs) x y)
CodesBounded d (refused f place) m = Unit {0}

pub record CodesClaimBy (d : Header) (x : Records) (l : List ℕ) (r : Outcome) (m : List ℕ) : Type 0 where
  -- W and H are told, or the first refusal and its place
  pub answer : r.answer ≡ answer_by d x
  -- each byte is what blending codes leaves from the background on; past the page, and after a refusal, each is as it was
  pub page : m ≡ codes_page d x l
  -- each byte is no further from the exact, never rounded blend than half a level for each shape that touched the pixel after the last
  -- that covered it whole, plus 255·s/(4·l) for each of those that was an approximate line
  pub bound : CodesBounded d x m
  -- eight counts are told, each player's own; after a refusal there are none
  pub counts : Counted d.version d.w d.h (drawings_by d x) r.touched

-- a list s for a page l, with no lights to try
abbrev pub CodesClaim : List ℕ → List ℕ → Outcome → List ℕ → Type 0
CodesClaim s l =
    let d = header_at s in
    CodesClaimBy d (records_of ((ltb (length l) (d.w * d.h), 21) ∷ []) s) l

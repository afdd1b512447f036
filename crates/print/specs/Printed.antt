-- What is printed for a list (R9).
use Rattle.std.specs.Prelude.{List, ℕ, Result, Ok, Err}
use Rattle.lights.specs.Codes.{codes}
use Rattle.drawing.specs.declared.Size.{Size}
use Rattle.drawing.specs.Outcome.{Outcome}
use Rattle.drawing.specs.Claim.{list_outcome, list_page}
use Rattle.text.specs.Text.{refusal_text, page_text}

-- an answer, with the counts and the page as they are then
unfoldable pub answer_text : Result Size (ℕ × ℕ) → List ℕ → List ℕ → List ℕ
answer_text (Ok size) touched page = page_text size.w size.h touched page
answer_text (Err (f, place)) touched page = refusal_text f place

abbrev pub outcome_text : Outcome → List ℕ → List ℕ
outcome_text r = answer_text r.answer r.touched

-- a list drawn on a page in lights equal to codes
unfoldable pub list_text : List ℕ → List ℕ → List ℕ
list_text list page = outcome_text (list_outcome codes list page) (list_page codes list page)

-- The answers about a whole list in the form that C takes (R7.8, R8.3, R10.3).
use Rattle.std.specs.Prelude.{List, ℕ, Result, Ok, Err}
use Rattle.limits.specs.Limits.{basis_by}
use Rattle.format.specs.Format.{basis_of}
use Rattle.lists.specs.declared.check.Accepted.{Accepted}
use Rattle.drawing.specs.declared.Size.{Size}
use Rattle.drawing.specs.Outcome.{Outcome}
use Rattle.arguments.specs.Taken.{basis_given}
use Rattle.answers.specs.declared.list.CheckAnswer.{CheckAnswer}
use Rattle.answers.specs.declared.list.ListAnswer.{ListAnswer}
use Rattle.answers.specs.declared.list.SqueezeAnswer.{SqueezeAnswer}

-- ---- checking

abbrev pub check_answer : Result Accepted (ℕ × ℕ) → CheckAnswer
check_answer (Ok a) =
    record { refusal = 0; place = 0; basis = basis_given (basis_of a.header); background = a.header.background; ceiling = a.ceiling }
check_answer (Err (refusal, place)) =
    record { refusal = refusal; place = place; basis = basis_given (basis_by 0 0 0); background = 0; ceiling = 0 }

-- ---- drawing

-- an answer with the counts that stand beside it, which are zeros after a refusal
abbrev pub answered_with : List ℕ → Result Size (ℕ × ℕ) → ListAnswer
answered_with touched (Ok size) = record { refusal = 0; place = 0; w = size.w; h = size.h; touched = touched }
answered_with touched (Err (refusal, place)) = record { refusal = refusal; place = place; w = 0; h = 0; touched = touched }

unfoldable pub list_answered : Outcome → ListAnswer
list_answered o = answered_with o.touched o.answer

-- ---- squeezing

abbrev pub squeeze_answered : Result ℕ (ℕ × ℕ) → SqueezeAnswer
squeeze_answered (Ok n) = record { refusal = 0; place = 0; length = n }
squeeze_answered (Err (refusal, place)) = record { refusal = refusal; place = place; length = 0 }

-- The answers about one shape in the form that C takes: a refusal is its number, and 0 stands for none.
use Rattle.std.specs.Prelude.{ℕ, Option, None, Some, Result, Ok, Err}
use Rattle.coverage.specs.declared.Ratio.{Ratio}
use Rattle.answers.specs.declared.shape.DrawAnswer.{DrawAnswer}
use Rattle.answers.specs.declared.shape.CoverageAnswer.{CoverageAnswer}
use Rattle.answers.specs.declared.shape.ColumnAnswer.{ColumnAnswer}

-- R8.3: the place of the refusal of every call but the check and the draw of a list
abbrev pub call_place : ℕ
call_place = 0

abbrev pub answered : Result Ratio ℕ → CoverageAnswer
answered (Ok ratio) = record { refusal = 0; place = call_place; n = ratio.n; d = ratio.d }
answered (Err refusal) = record { refusal = refusal; place = call_place; n = 0; d = 0 }

abbrev pub drawn : Result ℕ ℕ → DrawAnswer
drawn (Ok count) = record { refusal = 0; place = call_place; touched = count }
drawn (Err refusal) = record { refusal = refusal; place = call_place; touched = 0 }

-- found is 1 where there is a column, which is then told
abbrev pub reached : Result (Option ℕ) ℕ → ColumnAnswer
reached (Ok (Some column)) = record { refusal = 0; place = call_place; found = 1; column = column }
reached (Ok None) = record { refusal = 0; place = call_place; found = 0; column = 0 }
reached (Err refusal) = record { refusal = refusal; place = call_place; found = 0; column = 0 }

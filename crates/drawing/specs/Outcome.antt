-- What drawing a list answers, with a refusal by its number (R8.4).
use Rattle.std.specs.Prelude.{List, ℕ, Result}
use Rattle.lists.specs.Refused.{numbered_at}
use Rattle.drawing.specs.declared.Size.{Size}
use Rattle.drawing.specs.declared.Outcome as declared

-- W and H, or the number of the refusal and its place; and how many pixels the shapes of each player touched
pub record Outcome : Type 0 where
  pub answer : Result Size (ℕ × ℕ)
  pub touched : List ℕ

abbrev pub numbered_outcome : declared.Outcome → Outcome
numbered_outcome r = record { answer = numbered_at r.answer; touched = r.touched }

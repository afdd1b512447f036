-- A refusal in a list by its number, and its place.
use Rattle.std.specs.Prelude.{ℕ, Result, Ok, Err}
use Rattle.limits.specs.Refusal.{number_of}
use Rattle.lists.specs.declared.RefusedAt.{RefusedAt}

abbrev pub told_at : RefusedAt → ℕ × ℕ
told_at r = (number_of r.refusal, r.place)

-- its value, or the number of its refusal and the place
abbrev pub numbered_at : {A : Type 0} → Result A RefusedAt → Result A (ℕ × ℕ)
numbered_at (Ok a) = Ok a
numbered_at (Err e) = Err (told_at e)

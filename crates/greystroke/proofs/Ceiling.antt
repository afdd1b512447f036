-- The ceiling that a check tells is that of the list's drawings, and bounds its touches.
use mathlib.Core.Bool.{Bool}
use mathlib.Core.Path.{◌≡◌, refl, sym, ◌∙◌, ap, subst}
use mathlib.Core.List.{List}
use Prim.Native.Nat.{ℕ}
use Rattle.numbers.specs.Sum.{total}
use Rattle.format.specs.Format.{header_at}
use Rattle.lists.specs.List.{Records, accepted, refused, records_of, checked_as}
use Rattle.settings.specs.Ceiling.{ceiling}
use Rattle.format.specs.declared.Header.{Header}
use Rattle.drawing.specs.Claim.{drawings_by}
use Rattle.drawing.specs.Ceiling.{TouchesWithin}
use Rattle.drawing.proofs.Ceiling.{touches-within}
use Rattle.answers.specs.List.{check_answer}
use Rattle.answers.specs.declared.list.CheckAnswer.{CheckAnswer}

told : (d : Header) (x : Records) → (check_answer (checked_as d x)).ceiling ≡ ceiling (drawings_by d x)
unfolding drawings_by total
told d (accepted rs) = refl
told d (refused f place) = refl

pub told_within : (tests : List (Bool × ℕ)) (s : List ℕ) {r : CheckAnswer} → r ≡ check_answer (checked_as (header_at s) (records_of tests s))
    → TouchesWithin (header_at s) (records_of tests s) r.ceiling
told_within tests s e =
    subst (TouchesWithin (header_at s) (records_of tests s)) (sym (ap (λ (a : CheckAnswer). a.ceiling) e ∙ told (header_at s) (records_of tests s))) (touches-within tests s)

-- Laws of refusals: what their numbers tell, and what `?` hands on.
use Rattle.std.proofs.Common.{◌≡◌, ℕ, ◌<◌, refl, arith}
use Rattle.std.specs.Prelude.{Result, Ok, Err, IsErr, IsErrAnd}
use Rattle.std.proofs.lemmas.Bool.Decides.{nat_tests}
use Rattle.limits.specs.Refusal.{number_of, told, numbered, unless}
use Rattle.limits.specs.declared.refusal.Refusal.{Refusal}
use Rattle.limits.specs.declared.refusal.Refusal.TheVariants.{Mark, Version, Size, Kind, Short, Trailing, Range, Clip, Coincident, Radius, Width, Long, Room, Full, Player, Lights, Large, Extent, Straight}

-- no refusal has the number 0, which tells that there is none
pub number_above : (e : Refusal) → 0 < number_of e
number_above Mark = omega arith
number_above Version = omega arith
number_above Size = omega arith
number_above Kind = omega arith
number_above Short = omega arith
number_above Trailing = omega arith
number_above Range = omega arith
number_above Clip = omega arith
number_above Coincident = omega arith
number_above Radius = omega arith
number_above Width = omega arith
number_above Long = omega arith
number_above Room = omega arith
number_above Full = omega arith
number_above Player = omega arith
number_above Lights = omega arith
number_above Large = omega arith
number_above Extent = omega arith
number_above Straight = omega arith

module _ {A : Type 0} where
  -- where nothing is refused there is a value
  pub accepted : (r : Result A Refusal) → told r ≡ 0 → (a : A) × (r ≡ Ok a)
  accepted (Ok a) e = (a, refl)
  accepted (Err e) z = absurd (omega (arith, number_above e))

  -- an error is told by its number, and that is above 0
  pub refused : {r : Result A Refusal} {e : Refusal} → r ≡ Err e → told r ≡ number_of e × (0 < told r)
  refused {r} {e} h = rw h (refl, number_above e)

  -- what `?` hands on is the same error
  pub passed : (r : Result A Refusal) (e : Refusal) → IsErr r × IsErrAnd r (λ f. f ≡ e) → r ≡ Err e
  passed (Ok a) e h = absurd h.1
  passed (Err f) e h = cc

  pub numbered_told : (r : Result A Refusal) (a : A) → numbered r ≡ Ok a → told r ≡ 0
  numbered_told (Ok b) a h = refl
  numbered_told (Err e) a h = absurd cc

  -- what is answered by `unless` is told by its refusal, and where there is a value that is it
  pub unless_told : (r : Result A Refusal) (f : ℕ) (a : A) → numbered r ≡ unless f a → told r ≡ f
  unless_told (Ok b) f a h = grind (arith, nat_tests)
  unless_told (Err e) f a h = grind (arith, nat_tests)

  pub unless_value : (r : Result A Refusal) (f : ℕ) (a x : A) → numbered r ≡ unless f a → r ≡ Ok x → (f ≡ 0) × (x ≡ a)
  unless_value r f a x h k = grind (arith, nat_tests)

  -- the same of an answer that has its refusal as a number
  pub unless_ok : {f : ℕ} {a x : A} → Ok x ≡ unless f a → (f ≡ 0) × (x ≡ a)
  unless_ok e = grind (arith, nat_tests)

  pub unless_err : {f n : ℕ} (a : A) → Err n ≡ unless f a → (n ≡ f) × (0 < f)
  unless_err a e = grind (arith, nat_tests)

-- How the library's methods say the greater and the smaller coordinate, and how far two are apart.
use Rattle.std.proofs.Common.{◌≡◌, refl, ℤ, pos, negsuc, arith, nat_abs}
use Rattle.std.proofs.lemmas.Int.{to_z-of_z}
use Rattle.std.proofs.lemmas.Bool.Decides.{nat_tests}
use Rattle.std.specs.Int.{int_min, int_max}
use Rattle.std.specs.Prelude.{unsigned_abs}
use Rattle.shapes.specs.Span.{greater, smaller}

pub greater_is : (a b : ℤ) → int_max a b ≡ greater a b
greater_is (pos m) (pos n) = grind (arith, nat_tests)
greater_is (pos m) (negsuc n) = refl
greater_is (negsuc m) (pos n) = refl
greater_is (negsuc m) (negsuc n) = grind (arith, nat_tests)

pub smaller_is : (a b : ℤ) → int_min a b ≡ smaller a b
smaller_is (pos m) (pos n) = grind (arith, nat_tests)
smaller_is (pos m) (negsuc n) = refl
smaller_is (negsuc m) (pos n) = refl
smaller_is (negsuc m) (negsuc n) = grind (arith, nat_tests)

pub abs_is : (z : ℤ) → unsigned_abs z ≡ nat_abs z
abs_is (pos n) = refl
abs_is (negsuc n) = refl

-- a coordinate that was passed is what it was
pub ruleset coordinates = (to_z-of_z, greater_is, smaller_is, abs_is)

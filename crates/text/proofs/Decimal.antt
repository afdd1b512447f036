-- The digits that are written stand for the number.
use mathlib.Core.Logic.{◌⊎◌, inl, inr}
use mathlib.Core.Path.{◌≡◌, refl, ap, ◌∙◌}
use mathlib.Core.List.{List, [], ◌∷◌, ◌++◌}
use Prim.Native.Nat.{ℕ, zero, suc, ◌+◌, ◌-◌, ◌*◌, ◌/◌, ◌%◌, ◌^◌, ◌≤◌, ◌<◌}
use native.Mathlib.Nat.{pow-succ'}
use native.Mathlib.Omega.{arith}
use Rattle.numbers.proofs.Order.{lt_or_le}
use Rattle.text.specs.Text.{digit_of, digits, value_from}
use Rattle.text.proofs.Written.{digits_one, digits_more}

value-behind : (n b : ℕ) (bs : List ℕ) → value_from n (bs ++ b ∷ []) ≡ 10 * value_from n bs + (b - 48)
value-behind n b [] = refl
value-behind n b (x ∷ xs) = value-behind (10 * n + (x - 48)) b xs

-- value (digits of n / 10, then the last) = 10 · (n / 10) + n % 10 = n
pub digits_value : (k n : ℕ) → n < 10 ^ k → value_from 0 (digits k n) ≡ n
unfolding digits
digits_value zero n h = let e : 0 ≡ n = omega arith in e
digits_value (suc k) n h = go (digits_value k (n / 10) (omega (arith, pow-succ' 10 k))) (lt_or_le n 10)
  where
    go : value_from 0 (digits k (n / 10)) ≡ n / 10 → (n < 10) ⊎ (10 ≤ n) → value_from 0 (digits (suc k) n) ≡ n
    go before (inl p) = ap (value_from 0) (digits_one (suc k) n (omega arith) p) ∙ (let e : 10 * 0 + (48 + n % 10 - 48) ≡ n = omega arith in e)
    go before (inr p) =
        let less : suc k - 1 ≡ k = omega arith in
        ap (value_from 0) (digits_more (suc k) n (omega arith) p ∙ ap (λ (j : ℕ). digits j (n / 10) ++ digit_of n ∷ []) less)
        ∙ value-behind 0 (digit_of n) (digits k (n / 10))
        ∙ (let e : 10 * value_from 0 (digits k (n / 10)) + (48 + n % 10 - 48) ≡ n = omega (arith, before) in e)

-- no number of 64 bits loses a digit
pub number-value : (n : ℕ) → n < 18446744073709551616 → value_from 0 (digits 20 n) ≡ n
number-value n h = digits_value 20 n (omega arith)

-- Numbers as they are printed (R9.1).
use Rattle.std.specs.Prelude.{◌≡◌, ℕ, ◌<◌}
use Rattle.text.specs.Text.{digits, value_from}

pub record Text : Type 0 where
  -- the digits of a number stand for it: none of 64 bits loses one (R9.1)
  pub number-value : (n : ℕ) → n < 18446744073709551616 → value_from 0 (digits 20 n) ≡ n

-- Numbers as they are printed.
use Rattle.text.proofs.Decimal.{number-value}
use Rattle.theorems.specs.Text.{Text}

pub text : Text
text = record { number-value = number-value }

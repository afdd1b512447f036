-- Fractions of two whole numbers, compared by cross products (R10.3).
use Rattle.std.specs.Prelude.{ℕ, ◌+◌, ◌*◌, ◌≤◌}

pub record Frac : Type 0 where
  pub num : ℕ
  pub den : ℕ

-- num over den
infix 67 ◌over◌
abbrev pub ◌over◌ : ℕ → ℕ → Frac
n over d = record { num = n; den = d }

infixl 65 ◌⊕◌
abbrev pub ◌⊕◌ : Frac → Frac → Frac
p ⊕ q = (p.num * q.den + q.num * p.den) over (p.den * q.den)

-- p is at most q
infix 50 ◌≼◌
abbrev pub ◌≼◌ : Frac → Frac → Type 0
p ≼ q = p.num * q.den ≤ q.num * p.den

-- p and q are at most b apart
abbrev pub Within : Frac → Frac → Frac → Type 0
Within p q b = (p ≼ q ⊕ b) × (q ≼ p ⊕ b)

-- Lights equal to codes (R6.1).
use Rattle.std.specs.Prelude.{ℕ, zero, suc, List, [], ◌∷◌}

-- n lights from k on, each one more than the light before it
unfoldable pub up_from : ℕ → ℕ → List ℕ
up_from k zero = []
up_from k (suc n) = k ∷ up_from (suc k) n

-- 256 lights, each its code
abbrev pub codes : List ℕ
codes = up_from 0 256

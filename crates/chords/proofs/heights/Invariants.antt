-- The heights before k are held, the rest are 0, and y is not below the next one.
use mathlib.Core.Path.{◌≡◌}
use mathlib.Core.List.{List}
use Prim.Native.Nat.{ℕ, ◌+◌, ◌-◌, ◌*◌, ◌≤◌, ◌<◌}
use lib.ListN.{length, get_or}
use Rattle.chords.specs.Circle.{height_of}
use Rattle.chords.proofs.heights.Given as goal

-- the heights before k are held in what was an array of zeros, the others are 0, and y is not below the height at k
abbrev pub Filled : List ℕ → ℕ → ℕ → List ℕ → ℕ → Type 0
Filled zeros R k hs y =
    (y ≤ 256 * R)
    × (262144 * (R * R - k * k) < (2 * y + 1) * (2 * y + 1))
    × (length hs ≡ length zeros)
    × ((j : ℕ) → j < k → get_or hs j 0 ≡ height_of R j)
    × ((j : ℕ) → k ≤ j → get_or hs j 0 ≡ 0)

abbrev pub invariant-loop-k : goal.invariant-loop-k
invariant-loop-k l = Filled l.initial.hs l.radius l.k l.hs l.y

-- Touches that the bound holds of: those of lawful shapes (R10.3, R10.4).
use Rattle.std.specs.Prelude.{List, [], ◌∷◌, ◌≤◌}
use Rattle.numbers.specs.Sound.{Sound}
use Rattle.bound.specs.Exact.{Touch}

-- a touch with a byte for its level, and with what the coverage rules promise
abbrev pub SoundTouch : Touch → Type 0
SoundTouch t = (t.level ≤ 255) × Sound t.drawn t.exact t.off

abbrev pub AllSound : List Touch → Type 0
AllSound [] = Unit {0}
AllSound (t ∷ ts) = SoundTouch t × AllSound ts

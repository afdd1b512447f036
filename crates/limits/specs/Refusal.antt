-- The numbers of the refusals (R8), and what a Result tells of its refusal.
use Rattle.std.specs.Prelude.{ℕ, cond, eqb, Result, Ok, Err}
use Rattle.limits.specs.declared.refusal.Refusal.{Refusal}
use Rattle.limits.specs.declared.refusal.Refusal.TheVariants.{Mark, Version, Size, Kind, Short, Trailing, Range, Clip, Coincident, Radius, Width, Long, Room, Full, Player, Lights, Large, Extent, Straight}

abbrev pub number_of : Refusal → ℕ
number_of Mark = 1
number_of Version = 2
number_of Size = 3
number_of Kind = 4
number_of Short = 5
number_of Trailing = 6
number_of Range = 7
number_of Clip = 8
number_of Coincident = 9
number_of Radius = 10
number_of Width = 11
number_of Long = 12
number_of Room = 21
number_of Full = 22
number_of Player = 31
number_of Lights = 32
number_of Large = 33
number_of Extent = 34
number_of Straight = 35

-- the number of its refusal, or 0
abbrev pub told : {A : Type 0} → Result A Refusal → ℕ
told (Ok a) = 0
told (Err e) = number_of e

-- its value, or the number of its refusal
abbrev pub numbered : {A : Type 0} → Result A Refusal → Result A ℕ
numbered (Ok a) = Ok a
numbered (Err e) = Err (number_of e)

-- a value, or the number of what is refused first
abbrev pub unless : {A : Type 0} → ℕ → A → Result A ℕ
unless refusal a = cond (eqb refusal 0) (Ok a) (Err refusal)

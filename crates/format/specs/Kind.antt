-- The kinds of records by their numbers (R7.3).
use Rattle.std.specs.Prelude.{◌≡◌, ℕ, ◌<◌, Result, MatchResult}
use Rattle.format.specs.declared.Kind.{Kind}
use Rattle.format.specs.declared.Kind.TheVariants.{End, Clip, Level, ExactLine, ApproximateLine, Disc, Ring, Player, BigDisc, BigRing, Triangle}
use Rattle.format.specs.declared.UnknownKind.{UnknownKind}

-- the number of a kind
abbrev pub kind_number : Kind → ℕ
kind_number End = 0
kind_number Clip = 1
kind_number Level = 2
kind_number ExactLine = 3
kind_number ApproximateLine = 4
kind_number Disc = 5
kind_number Ring = 6
kind_number Player = 7
kind_number BigDisc = 8
kind_number BigRing = 9
kind_number Triangle = 10

-- the kind of a number, or an error with a number above that of the last
abbrev pub Numbered : ℕ → Result Kind UnknownKind → Type 0
Numbered k r = MatchResult r (λ kind. kind_number kind ≡ k) (λ e. (e.0 ≡ k) × (10 < k))

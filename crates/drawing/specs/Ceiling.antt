-- No accepted list has more touches than its ceiling (R10.6).
use Rattle.std.specs.Prelude.{ℕ, ◌≤◌}
use Rattle.lists.specs.List.{Records}
use Rattle.format.specs.declared.Header.{Header}
use Rattle.drawing.specs.Counts.{pixels_count}
use Rattle.drawing.specs.Claim.{drawings_by}

-- the touches of a list with the header d, summed over all pixels, are at most n; a refused list has none
abbrev pub TouchesWithin : Header → Records → ℕ → Type 0
TouchesWithin d x n = pixels_count d.w d.h (drawings_by d x) ≤ n

-- How a list is squeezed record by record.
use Rattle.std.specs.Prelude.{Bool, ◌||◌, List, ℕ, eqb}
use Rattle.shapes.specs.declared.Basis.{Basis}
use Rattle.shapes.specs.declared.Record.{Record}
use Rattle.settings.specs.Settings.{start}
use Rattle.lists.specs.inner.Walk.{list_drawings}
use Rattle.squeezed.specs.Squeeze.{kept_from}

-- the records that are kept of the list s
abbrev pub kept_of : Basis → List ℕ → List Record
kept_of b s = kept_from (start b) (list_drawings b s)

-- the kinds of settings
unfoldable pub is_setting : ℕ → Bool
is_setting k = eqb k 1 || eqb k 2 || eqb k 7

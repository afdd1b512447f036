-- A walk over the records of an accepted list.
use Rattle.std.specs.Prelude.{◌≡◌, cond, List, [], ℕ, suc, ◌≤◌, length, drop, eqb}
use Rattle.limits.specs.Limits.{basis_refusal}
use Rattle.shapes.specs.declared.Basis.{Basis}
use Rattle.shapes.specs.declared.Record.{Record}
use Rattle.format.specs.Format.{header_size, list_most}
use Rattle.lists.specs.List.{Records, accepted, refused, records_from}
use Rattle.settings.specs.Drawing.{Drawing, drawings}

unfoldable pub records_in : Records → List Record
records_in (accepted rs) = rs
records_in (refused f place) = []

-- the records of the list s
unfoldable pub list_records : Basis → List ℕ → Records
list_records b s = records_from (suc (length s)) b (drop header_size s) header_size

abbrev pub list_drawings : Basis → List ℕ → List Drawing
list_drawings b s = drawings b (records_in (list_records b s))

-- how many players a version has: in version 1 all is on player 0
abbrev pub players_in : ℕ → ℕ
players_in v = cond (eqb v 1) 1 8

-- a list s that is accepted: its records can be walked over
pub record Walkable (s : List ℕ) (b : Basis) : Type 0 where
  pub basis : basis_refusal b ≡ 0
  pub least : header_size ≤ length s
  pub most : length s ≤ list_most
  pub is : list_records b s ≡ accepted (records_in (list_records b s))

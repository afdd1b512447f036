-- What an accepted list is squeezed to.
use Rattle.std.specs.Prelude.{List, ℕ}
use Rattle.shapes.specs.declared.Record.{Record}
use Rattle.format.specs.Format.{basis_of}
use Rattle.lists.specs.inner.Walk.{list_drawings}
use Rattle.squeezed.specs.Squeeze.{squeezed}
use Rattle.squeeze.specs.inner.Walk.{kept_of}
use Rattle.squeeze.specs.declared.source.Source.{Source}

-- the records that are kept of it
abbrev pub kept_in : Source → List Record
kept_in s = kept_of (basis_of s.header) s.list.now

-- its header and these records
abbrev pub squeezed_source : Source → List ℕ
squeezed_source s = squeezed s.header (list_drawings (basis_of s.header) s.list.now)

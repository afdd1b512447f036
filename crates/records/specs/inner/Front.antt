-- What trying the record at the front of some bytes tells.
use Rattle.std.specs.Prelude.{List, [], ◌∷◌, ℕ, ltb, eqb, length, Result}
use Rattle.limits.specs.Limits.{first}
use Rattle.ceilings.specs.inner.Tried.{tried_by, record_counts, pixels_after}
use Rattle.shapes.specs.declared.Basis.{Basis}
use Rattle.ceilings.specs.declared.Counted.{Counted}
use Rattle.format.specs.Format.{off_kind, kind_at, size_at, record_at}
use Rattle.records.specs.Read.{read_refusal}

-- what is tried behind the basis and before the fields of the record are read: 5 where no byte is lent; 4; 5
unfoldable pub opening_refusal : Basis → List ℕ → ℕ
opening_refusal b s =
    first ((eqb (length s) 0, 5) ∷ (off_kind b.version (kind_at s), 4) ∷ (ltb (length s) (size_at s), 5) ∷ [])

-- what the record counts under a clip of so many pixels, or the number of its refusal
abbrev pub front_tried : Basis → ℕ → List ℕ → Result Counted ℕ
front_tried b pixels s = tried_by (read_refusal b s) (record_counts (record_at s)) (pixels_after pixels (record_at s))

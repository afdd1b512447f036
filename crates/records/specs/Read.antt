-- "The reader of one record", told the version, W and H: its refusals, the record, and the bytes that it hands back (R7.6, R8.5).
use Rattle.std.specs.Prelude.{cond, List, [], ◌∷◌, ℕ, ltb, eqb, length, drop, Result}
use Rattle.limits.specs.Limits.{first, tried, basis_refusal, record_refusal}
use Rattle.limits.specs.Refusal.{unless}
use Rattle.shapes.specs.declared.Basis.{Basis}
use Rattle.shapes.specs.declared.Record.{Record}
use Rattle.format.specs.Format.{off_kind, kind_at, size_at, record_at}

-- 2; 3; 5 where no byte is lent; 4; 5; then those of 7 to 11, 31 and 33 to 35 that the kind has
unfoldable pub read_refusal : Basis → List ℕ → ℕ
read_refusal b s =
    first
    (tried (basis_refusal b)
    ∷ (eqb (length s) 0, 5)
    ∷ (off_kind b.version (kind_at s), 4)
    ∷ (ltb (length s) (size_at s), 5)
    ∷ tried (record_refusal b (record_at s))
    ∷ [])

-- the record, or the number of its refusal
unfoldable pub reading_of : Basis → List ℕ → Result Record ℕ
reading_of b s = unless (read_refusal b s) (record_at s)

-- the bytes past the record; after a refusal all of them
unfoldable pub past_record : Basis → List ℕ → List ℕ
past_record b s = cond (ltb 0 (read_refusal b s)) s (drop (size_at s) s)

-- A list of a header and of lawful records is accepted, with this header and these records.
use mathlib.Core.Path.{◌≡◌, refl, sym, ◌∙◌, ap, ap₂}
use mathlib.Core.Bool.{Bool}
use mathlib.Core.List.{List, [], ◌∷◌, ◌++◌}
use Prim.Native.Nat.{ℕ, zero, suc, ◌+◌, ◌≤◌}
use native.Mathlib.Omega.{arith}
use borrow.Author.Tests.{le-ltb}
use lib.ListN.{length, drop}
use lib.Seq.{drop_at}
use Rattle.numbers.proofs.Coordinate.{word_bytes}
use Rattle.limits.specs.Limits.{first, basis_refusal, record_refusal}
use Rattle.shapes.specs.declared.Basis.{Basis}
use Rattle.shapes.specs.declared.Record.{Record}
use Rattle.shapes.specs.declared.Record.TheVariants.{End as end}
use Rattle.format.specs.Format.{list_most, header_size, kind_size, decoded, last_kind, kind_of, size_at, record_bytes, header_at, basis_of, fields_of, header_bytes}
use Rattle.lists.specs.List.{accepted, onto, header_refusal, records_from, records_of}
use Rattle.format.specs.declared.Header.{Header}
use Rattle.format.proofs.Bytes.{record_size_lem}
use Rattle.lists.proofs.Headers.{not_refused}
use Rattle.records.proofs.ReadBack.{record_back, no_refusal}
use Rattle.lists.proofs.Walk.{at-end, at_record}
use Rattle.squeezed.specs.Squeeze.{all_bytes, list_bytes}
use Rattle.squeezed.specs.inner.Size.{size_of}
use Rattle.squeezed.proofs.Sizes.{size-more}
use Rattle.squeezed.proofs.Lawful.{Lawful, last, more}

-- ---- the records

module _ (b : Basis) (basis : basis_refusal b ≡ 0) where
  end_back : (fuel place : ℕ) → records_from (suc fuel) b (record_bytes end ++ []) place ≡ accepted (end ∷ [])
  unfolding record_refusal kind_of kind_size fields_of decoded
  end_back fuel place =
      let known = le-ltb (last_kind b.version) 0 (omega arith) in
      at-end b fuel (record_bytes end ++ []) place (no_refusal [] b end basis known refl) refl

  -- a record is read from its bytes, and the rest from behind them
  records_back : {rs : List Record} → Lawful b rs → (fuel place : ℕ) → size_of rs ≤ fuel → records_from fuel b (all_bytes rs) place ≡ accepted rs
  unfolding all_bytes
  records_back last zero place h = absurd (omega arith)
  records_back last (suc fuel) place h = end_back fuel place
  records_back (more {r} {rs} k a p) zero place h = absurd (omega (arith, size-more r rs))
  records_back (more {r} {rs} k a p) (suc fuel) place h =
      let t : List ℕ = all_bytes rs in
      let n : ℕ = size_at (record_bytes r ++ t) in
      at_record b fuel (record_bytes r ++ t) place (no_refusal t b r basis a.kind a.none) k
      ∙ ap₂ onto (record_back t b r a.none)
      (ap (λ (s : List ℕ). records_from fuel b s (place + n)) (drop_at (record_bytes r) t n (sym (record_size_lem r)))
      ∙ records_back p fuel (place + n) (omega (arith, size-more r rs)))

-- ---- the header

module _ (d : Header) (rs : List Record) where
  pub list-size : length (list_bytes d rs) ≡ header_size + size_of rs
  unfolding list_bytes header_bytes
  list-size = omega arith

  pub header_back : header_at (list_bytes d rs) ≡ d
  unfolding list_bytes header_bytes
  header_back =
      λ i. record { version = word_bytes d.version i; w = word_bytes d.w i; h = word_bytes d.h i; background = d.background }

  drop-header : drop header_size (list_bytes d rs) ≡ all_bytes rs
  unfolding list_bytes header_bytes
  drop-header = refl

  module _ (basis : basis_refusal (basis_of d) ≡ 0) (most : length (list_bytes d rs) ≤ list_most) where
    pub header_passes : header_refusal [] (list_bytes d rs) ≡ 0
    unfolding header_refusal list_bytes header_bytes
    header_passes =
        simp (
          le-ltb list_most (length (list_bytes d rs)) most,
          le-ltb (length (list_bytes d rs)) header_size (omega (arith, list-size)),
          ap (λ (q : Header). basis_refusal (basis_of q)) header_back ∙ basis,
        )

    pub list_back : (tests : List (Bool × ℕ)) → first tests ≡ 0 → Lawful (basis_of d) rs → records_of tests (list_bytes d rs) ≡ accepted rs
    list_back tests passed p =
        not_refused tests (list_bytes d rs) header_passes passed
        ∙ ap₂ (λ (q : Header) (s : List ℕ). records_from (suc (length (list_bytes d rs))) (basis_of q) s header_size) header_back drop-header
        ∙ records_back (basis_of d) basis p (suc (length (list_bytes d rs))) header_size (omega (arith, list-size))

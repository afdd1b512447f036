-- Lists with the same shape records, byte for byte and in the same order, each under the same settings, with equal headers, come out identical.
use mathlib.Core.Path.{◌≡◌, refl, sym, ◌∙◌, ap, ap₂}
use mathlib.Core.List.{List, [], ◌∷◌, ◌++◌}
use Prim.Native.Nat.{ℕ}
use Rattle.shapes.specs.declared.Record.TheVariants.{End as end, Shape as shape}
use Rattle.format.specs.Format.{record_bytes, header_at, basis_of, header_bytes}
use Rattle.settings.specs.Settings.{start}
use Rattle.settings.specs.Drawing.{Drawing}
use Rattle.lists.specs.List.{pageless_records}
use Rattle.format.specs.declared.Header.{Header}
use Rattle.settings.specs.declared.Settings.{Settings}
use Rattle.drawing.specs.Claim.{drawings_by}
use Rattle.squeezed.specs.Squeeze.{changes, kept_from, all_bytes, list_bytes, squeezed}
use Rattle.squeezed.specs.Claim.{squeezed_of, stored}
use Rattle.squeezed.proofs.Sizes.{all_append}

-- the bytes of what is kept are made from what is stored alone, b being the settings at the shape before
bytes_from : Settings → List (Settings × List ℕ) → List ℕ
bytes_from b [] = all_bytes (end ∷ [])
bytes_from b (g ∷ gs) = all_bytes (changes b g.0) ++ (g.1 ++ bytes_from g.0 gs)

bytes-kept : (b : Settings) (ds : List Drawing) → all_bytes (kept_from b ds) ≡ bytes_from b (stored ds)
unfolding kept_from all_bytes bytes_from stored
bytes-kept b [] = refl
bytes-kept b (d ∷ ds) =
    all_append (changes b d.settings) (shape d.shape ∷ kept_from d.settings ds)
    ∙ ap (λ (bs : List ℕ). all_bytes (changes b d.settings) ++ (record_bytes (shape d.shape) ++ bs)) (bytes-kept d.settings ds)

bytes-squeezed : (d : Header) (ds : List Drawing) → squeezed d ds ≡ header_bytes d ++ bytes_from (start (basis_of d)) (stored ds)
unfolding list_bytes
bytes-squeezed d ds = ap (λ (bs : List ℕ). header_bytes d ++ bs) (bytes-kept (start (basis_of d)) ds)

-- the drawings of an accepted list
abbrev drawings_in : List ℕ → List Drawing
drawings_in s = drawings_by (header_at s) (pageless_records s)

module _ (s t : List ℕ) (header : header_at s ≡ header_at t) where
  pub alike-bytes : stored (drawings_in s) ≡ stored (drawings_in t) → squeezed_of s ≡ squeezed_of t
  alike-bytes e =
      bytes-squeezed (header_at s) (drawings_in s)
      ∙ ap₂ (λ (d : Header) (gs : List (Settings × List ℕ)). header_bytes d ++ bytes_from (start (basis_of d)) gs) header e
      ∙ sym (bytes-squeezed (header_at t) (drawings_in t))

  -- so do lists with the same drawings
  pub alike : drawings_in s ≡ drawings_in t → squeezed_of s ≡ squeezed_of t
  alike e = ap₂ squeezed header e

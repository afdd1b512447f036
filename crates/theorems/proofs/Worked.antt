-- The worked strokes and lists.
use mathlib.Core.Bool.{Bool, true}
use mathlib.Core.List.{List, [], ◌∷◌}
use mathlib.Core.Path.{◌≡◌, refl, ◌∙◌, ap, ap₂, subst}
use Prim.Native.Nat.{ℕ, ◌+◌, ◌*◌, ◌≤◌, ◌<◌}
use native.Mathlib.Omega.{arith}
use borrow.Author.Tests.{le-ltb}
use lib.IntN.{pos}
use Rattle.std.specs.Prelude.{Ok}
use lib.ListN.{length, get_or, replicate}
use Rattle.numbers.specs.Sum.{total}
use Rattle.shapes.specs.Span.{span_x, span_y, longer}
use Rattle.limits.specs.Limits.{first, off_size, size_refusal, basis_refusal, refusal_within, off_range, refusals_of, record_refusal}
use Rattle.ceilings.specs.Ceiling.{shape_ceiling, clip_pixels, ceiling_under}
use Rattle.shapes.specs.declared.Record.TheVariants.{End as end}
use Rattle.sides.proofs.Examples.{corners}
use Rattle.coverage.specs.Coverage.{rules_of}
use Rattle.coverage.proofs.Strokes.{strokes, row_lines}
use Rattle.lights.specs.Lights.{fit}
use Rattle.blending.proofs.Examples.{half_codes, half_squares}
use Rattle.bound.specs.Exact.{after, byte_after}
use Rattle.format.specs.Format.{kind_size, decoded, kind_of, fields_of, header_bytes, basis_of}
use Rattle.records.specs.Read.{read_refusal}
use Rattle.format.specs.declared.Header.{Header}
use Rattle.settings.specs.Settings.{start, in_force}
use Rattle.settings.specs.Drawing.{drawing_of, drawings_from}
use Rattle.lists.specs.List.{Records, accepted, header_refusal, page_tests, records_from, records_of, checked_as, checked_without_page}
use Rattle.drawing.specs.Touches.{touches_at}
use Rattle.drawing.specs.Counts.{own_of}
use Rattle.drawing.specs.Claim.{drawings_by, page_by, ClaimBy, Claim}
use Rattle.drawing.specs.Outcome.{Outcome}
use Rattle.drawing.proofs.Bytes.{byte-is}
use Rattle.squeezed.specs.Squeeze.{all_bytes, list_bytes}
use Rattle.squeezed.proofs.Lawful.{last}
use Rattle.squeezed.proofs.ListBack.{header_back, list_back}
use Rattle.theorems.specs.Worked.{Has, cornered, alone, printed, Worked}

triangle_has : Has cornered (pos 0) (pos 0) 408 576 × Has cornered (pos 2) (pos 1) 528 576 × Has cornered (pos 3) (pos 2) 0 576
unfolding rules_of
triangle_has = (λ i. (corners.0 i, corners.3 i), λ i. (corners.1 i, corners.3 i), λ i. (corners.2 i, corners.3 i))

-- ---- a header and an end record alone
module _ (d : Header) (basis : basis_refusal (basis_of d) ≡ 0) where
  alone_records : (tests : List (Bool × ℕ)) → first tests ≡ 0 → records_of tests (alone d) ≡ accepted (end ∷ [])
  unfolding header_bytes list_bytes all_bytes kind_of fields_of
  alone_records tests passed = list_back d (end ∷ []) basis (omega arith) tests passed last

  alone-accepted : checked_without_page (alone d) ≡ Ok (record { header = d; ceiling = 0 })
  unfolding list_bytes all_bytes kind_of fields_of drawings_from drawing_of total
  alone-accepted = ap₂ checked_as (header_back d (end ∷ [])) (alone_records [] refl)

  module _ (lights l : List ℕ) (room : d.w * d.h ≤ length l) (e : fit lights ≡ true) where
    passed : first (page_tests d (length l) lights) ≡ 0
    passed = rw (le-ltb (length l) (d.w * d.h) room, e) refl

    claimed : {r : Outcome} {m : List ℕ} → Claim lights (alone d) l r m → ClaimBy lights d (accepted (end ∷ [])) l r m
    unfolding list_bytes all_bytes kind_of fields_of
    claimed {r} {m} c =
        subst (λ (x : Records). ClaimBy lights d x l r m) (alone_records (page_tests d (length l) lights) passed)
        (subst (λ (q : Header). ClaimBy lights q (records_of (page_tests q (length l) lights) (alone d)) l r m) (header_back d (end ∷ [])) c)

    alone-drawn : {r : Outcome} {m : List ℕ} → Claim lights (alone d) l r m
        → (r.touched ≡ replicate 8 0) × ((x y : ℕ) → x < d.w → y < d.h → get_or m (y * d.w + x) 0 ≡ d.background)
    unfolding drawings_by drawings_from drawing_of page_by own_of total touches_at byte_after after
    alone-drawn c = (
      (claimed c).counts.shapes,
      λ x y i j.
          ap (λ (q : List ℕ). get_or q (y * d.w + x) 0) (claimed c).page
          ∙ byte-is lights d.w d.h d.background [] l x y room i j,
    )

-- ---- the printed list
printed-ceiling : checked_without_page printed ≡ Ok (record { header = record { version = 1; w = 4; h = 3; background = 0 }; ceiling = 6 })
unfolding size_refusal basis_refusal off_size refusal_within off_range refusals_of record_refusal kind_size decoded read_refusal header_refusal records_from records_of
    start in_force drawing_of drawings_from total span_x span_y longer shape_ceiling clip_pixels ceiling_under
printed-ceiling = refl

pub worked : Worked
unfolding refusal_within off_range refusals_of
worked =
    record {
      exact_2_1 = (strokes.0, strokes.1, strokes.2, strokes.3);
      exact_1_1 = (strokes.4, strokes.5, strokes.6);
      approximate_1_1 = (strokes.7, strokes.8, strokes.9);
      exact_3_2 = (strokes.10, strokes.11, strokes.12, strokes.13, strokes.14, strokes.15);
      disc_1 = strokes.16;
      disc_2 = (strokes.17, strokes.18, strokes.19);
      disc_5 = strokes.20;
      row_lines = row_lines;
      triangle_corners = triangle_has;
      half_codes = half_codes;
      half_squares = half_squares;
      radius-most = (refl, refl);
      coordinate_most = (refl, refl);
      alone-accepted = alone-accepted;
      alone-drawn = λ lights l d r m basis room e c. alone-drawn d basis lights l room e c;
      printed-ceiling = printed-ceiling;
    }

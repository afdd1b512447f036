-- No accepted list has more touches than its ceiling.
use mathlib.Core.Bool.{Bool}
use mathlib.Core.Path.{◌≡◌, refl, subst}
use mathlib.Core.List.{List, [], ◌∷◌, ◌++◌}
use Prim.Native.Nat.{ℕ, ◌≤◌}
use native.Mathlib.Omega.{arith}
use lib.ListN.{length}
use Rattle.numbers.specs.Sum.{total}
use Rattle.numbers.proofs.Sum.{total_le}
use Rattle.limits.specs.Limits.{shape_refusal, record_refusal}
use Rattle.limits.proofs.Limits.{record_shape}
use Rattle.shapes.specs.declared.Basis.{Basis}
use Rattle.shapes.specs.declared.Record.{Record}
use Rattle.shapes.specs.declared.Record.TheVariants.{End as end, Setting as setting, Shape as shape}
use Rattle.format.specs.Format.{header_at, basis_of, record_at}
use Rattle.lists.specs.List.{Records, accepted, refused, page_tests, records_of, page_records}
use Rattle.settings.specs.Settings.{start, in_force}
use Rattle.settings.specs.Drawing.{Drawing, drawing_of, drawings_from, drawings}
use Rattle.settings.specs.Ceiling.{drawing_ceiling, ceiling}
use Rattle.format.specs.declared.Header.{Header}
use Rattle.settings.specs.declared.Settings.{Settings}
use Rattle.lists.proofs.Accepted.{Holds, last, more, list_holds}
use Rattle.records.proofs.Refusals.{readable}
use Rattle.touches.proofs.Ceiling.{touches-ceiling}
use Rattle.drawing.specs.Counts.{drawing_count, shapes_count}
use Rattle.drawing.specs.Claim.{drawings_by, Claim}
use Rattle.drawing.specs.Ceiling.{TouchesWithin}
use Rattle.drawing.specs.Outcome.{Outcome}
use Rattle.drawing.proofs.Shapes.{counts_same}

-- no shape has a refusal
unfoldable pub ShapesLawful : List Drawing → Type 0
ShapesLawful [] = Unit {0}
ShapesLawful (d ∷ ds) = (shape_refusal d.shape ≡ 0) × ShapesLawful ds

-- any lawful drawings, so also those of one player
pub counts-within : (w h : ℕ) (ds : List Drawing) → ShapesLawful ds → shapes_count w h ds ≤ ceiling ds
unfolding ShapesLawful
counts-within w h = total_le ShapesLawful (drawing_count w h) drawing_ceiling (λ d ds l. (touches-ceiling w h d.settings.clip d.shape l.0, l.1))

-- ---- the drawings of an accepted list are lawful

lawful_then : (b : Basis) (f : Settings) (r : Record) (ds : List Drawing) → record_refusal b r ≡ 0 → ShapesLawful ds → ShapesLawful (drawing_of f r ++ ds)
unfolding record_refusal drawing_of ShapesLawful
lawful_then b f end ds z l = l
lawful_then b f (setting g) ds z l = l
lawful_then b f (shape s) ds z l = (record_shape s z, l)

records_lawful : {b : Basis} {s : List ℕ} {rs : List Record} → Holds b s rs → (f : Settings) → ShapesLawful (drawings_from f rs)
unfolding drawings_from ShapesLawful
records_lawful {b} (last {s} none k all) f = lawful_then b f (record_at s) [] (readable b s none).lawful tt
records_lawful {b} (more {s} {rs} none k p) f =
    lawful_then b f (record_at s) (drawings_from (in_force f (record_at s)) rs) (readable b s none).lawful (records_lawful p (in_force f (record_at s)))

-- ---- a list s, whatever the tests are
module _ (tests : List (Bool × ℕ)) (s : List ℕ) where
  abbrev d : Header
  d = header_at s

  abbrev ds : List Drawing
  ds = drawings_by d (records_of tests s)

  list_lawful : ShapesLawful ds
  unfolding drawings_by ShapesLawful
  list_lawful = go (records_of tests s) (λ rs e. records_lawful (list_holds tests s rs e) (start (basis_of d)))
    where
      go : (x : Records) → ((rs : List Record) → x ≡ accepted rs → ShapesLawful (drawings (basis_of d) rs)) → ShapesLawful (drawings_by d x)
      go (accepted rs) f = f rs refl
      go (refused n place) f = tt

  pub touches-within : TouchesWithin d (records_of tests s) (ceiling ds)
  touches-within = subst (λ (n : ℕ). n ≤ ceiling ds) (counts_same d.w d.h ds) (counts-within d.w d.h ds list_lawful)

-- so the counts of a list that is drawn add up to no more
pub counts-ceiling : (lights s l m : List ℕ) {r : Outcome} → Claim lights s l r m
    → total (λ n. n) r.touched ≤ ceiling (drawings_by (header_at s) (page_records s (length l) lights))
counts-ceiling lights s l m c = omega (arith, c.counts.sum-pixels, touches-within (page_tests (header_at s) (length l) lights) s)

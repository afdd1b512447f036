-- All that is told and drawn of two lists with one header is the same where they have one refusal, or the same drawings.
use mathlib.Core.Path.{◌≡◌, refl, ◌∙◌, ap, subst}
use mathlib.Core.List.{List}
use Prim.Native.Nat.{ℕ, ◌+◌, ◌*◌}
use lib.ListN.{get_or}
use Rattle.shapes.specs.declared.Record.{Record}
use Rattle.format.specs.Format.{basis_of}
use Rattle.settings.specs.Drawing.{Drawing, drawings}
use Rattle.settings.specs.Ceiling.{ceiling}
use Rattle.lists.specs.List.{Records, accepted, refused, checked_as}
use Rattle.format.specs.declared.Header.{Header}
use Rattle.std.proofs.Common.{Ok}
use Rattle.drawing.specs.Touches.{touches_at}
use Rattle.drawing.specs.Page.{drawn_page}
use Rattle.drawing.specs.Counts.{shapes_count, player_counts, Counted}
use Rattle.drawing.specs.Claim.{answer_by, drawings_by, page_by, ByteBounded, Bounded, ClaimBy, outcome_by}
use Rattle.drawing.specs.Outcome.{Outcome}

-- two lists with the header d are both accepted, with the same drawings, or neither is, with one refusal at one place
pub data Same (d : Header) : Records → Records → Type 0 where
  both : {rs qs : List Record} → drawings (basis_of d) rs ≡ drawings (basis_of d) qs → Same d (accepted rs) (accepted qs)
  neither : {f place : ℕ} → Same d (refused f place) (refused f place)

module _ {d : Header} where
  pub same-checked : {x y : Records} → Same d x y → checked_as d x ≡ checked_as d y
  same-checked (both e) = ap (λ (ds : List Drawing). Ok (record { header = d; ceiling = ceiling ds })) e
  same-checked neither = refl

  same_answer : {x y : Records} → Same d x y → answer_by d x ≡ answer_by d y
  unfolding answer_by
  same_answer (both e) = refl
  same_answer neither = refl

  pub same-drawings : {x y : Records} → Same d x y → drawings_by d x ≡ drawings_by d y
  unfolding drawings_by
  same-drawings (both e) = e
  same-drawings neither = refl

  pub same_outcome : {x y : Records} → Same d x y → outcome_by d x ≡ outcome_by d y
  same_outcome p =
      λ i. record { answer = same_answer p i; touched = player_counts (shapes_count d.w d.h) (same-drawings p i) }

  pub same-page : (lights l : List ℕ) {x y : Records} → Same d x y → page_by lights d x l ≡ page_by lights d y l
  unfolding page_by
  same-page lights l (both e) = ap (λ (ds : List Drawing). drawn_page lights d.w d.h d.background ds l) e
  same-page lights l neither = refl

  same-bound : (lights m : List ℕ) {x y : Records} → Same d x y → Bounded lights d x m → Bounded lights d y m
  unfolding Bounded
  same-bound lights m (both e) p =
      λ x y h k. subst (λ (ds : List Drawing). ByteBounded lights (get_or m (y * d.w + x) 0) d.background (touches_at ds x y)) e (p x y h k)
  same-bound lights m neither p = p

  pub same-claim : (lights l : List ℕ) {r : Outcome} {m : List ℕ} {x y : Records} → Same d x y → ClaimBy lights d x l r m → ClaimBy lights d y l r m
  same-claim lights l {r} {m} q p =
      record {
        answer = p.answer ∙ same_answer q;
        page = p.page ∙ same-page lights l q;
        bound = same-bound lights m q p.bound;
        counts = subst (λ (ds : List Drawing). Counted d.version d.w d.h ds r.touched) (same-drawings q) p.counts;
      }

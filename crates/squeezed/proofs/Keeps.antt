-- A squeezed list is accepted with the same header and the same drawings, and all that is kept follows from these.
use mathlib.Core.Path.{◌≡◌, refl, sym, ◌∙◌, ap, subst}
use mathlib.Core.Bool.{Bool, true, false, cond}
use mathlib.Core.Logic.{◌⊎◌, inl, inr}
use mathlib.Core.List.{List, [], ◌++◌}
use Prim.Native.Nat.{ℕ, ◌≤◌, ◌<◌}
use native.Mathlib.Omega.{arith}
use borrow.Author.Tests.{le-ltb}
use lib.Dec.{ltb}
use lib.ListN.{length, drop}
use lib.Seq.{take-append_seam}
use Rattle.numbers.proofs.Order.{lt_or_le}
use Rattle.limits.specs.Limits.{first}
use Rattle.shapes.specs.declared.Basis.{Basis}
use Rattle.shapes.specs.declared.Record.{Record}
use Rattle.format.specs.Format.{list_most, header_at, basis_of}
use Rattle.settings.specs.Settings.{start}
use Rattle.settings.specs.Drawing.{Drawing, drawings}
use Rattle.lists.specs.List.{Records, accepted, refused, header_refusal, page_tests, records_of, checked_as, pageless_records}
use Rattle.format.specs.declared.Header.{Header}
use Rattle.lists.proofs.Headers.{Headed, headed, refused-next, not_refused}
use Rattle.lists.proofs.Accepted.{list-headed, list_holds, AcceptedAs}
use Rattle.lists.proofs.Walkable.{list_walkable, drawings_are}
use Rattle.drawing.specs.Claim.{drawings_by, page_by, ClaimBy, outcome_by}
use Rattle.squeezed.specs.Squeeze.{kept, squeezed, fitted, filled, squeeze_answer, squeeze_output}
use Rattle.squeezed.specs.Claim.{squeezed_of, Keeps, KeepsBy}
use Rattle.std.proofs.Common.{Result, Ok, Err}
use Rattle.squeezed.specs.inner.Size.{size_of}
use Rattle.squeezed.proofs.Changes.{drawings-kept}
use Rattle.squeezed.proofs.Lawful.{holds_lawful, kept-lawful}
use Rattle.squeezed.proofs.Shorter.{kept-few}
use Rattle.squeezed.proofs.ListBack.{list-size, header_back, header_passes, list_back}
use Rattle.squeezed.proofs.Same.{Same, both, neither, same-checked, same-drawings, same_outcome, same-page, same-claim}

-- ---- a list s that is accepted with the records rs

module _ (s : List ℕ) (rs : List Record) (e : pageless_records s ≡ accepted rs) where
  abbrev d : Header
  d = header_at s

  abbrev b : Basis
  b = basis_of d

  -- the records that are kept, and their list
  abbrev ks : List Record
  ks = kept d (drawings b rs)

  abbrev t : List ℕ
  t = squeezed d (drawings b rs)

  -- 10 + the bytes of what is kept ≤ the length of s
  no_longer : length t ≤ length s
  no_longer =
      let p : AcceptedAs [] s d = record { records = rs; is = e; header = refl } in
      let same = ap (λ (ds : List Drawing). size_of (kept d ds)) (drawings_are p) in
      omega (arith, kept-few s b (list_walkable p), same, list-size d ks)

  -- what t is read as: the header, the records, and from them the drawings
  header-same : header_at t ≡ d
  header-same = header_back d ks

  drawings-same : drawings b rs ≡ drawings b ks
  drawings-same = sym (drawings-kept (start b) (drawings b rs))

  none : header_refusal [] s ≡ 0
  none = list-headed [] s rs e

  fine : Headed [] s
  fine = headed [] s none

  most : length t ≤ list_most
  most = omega (arith, no_longer, fine.most)

  accepted_t : (tests : List (Bool × ℕ)) → first tests ≡ 0 → records_of tests t ≡ accepted ks
  accepted_t tests passed = list_back d ks fine.basis most tests passed (kept-lawful b (holds_lawful (list_holds [] s rs e)))

  -- where the tests pass, both are accepted; else both are refused with the number of the first that does not
  same_records : (tests : List (Bool × ℕ)) → Same d (records_of tests s) (records_of tests t)
  same_records tests = go (lt_or_le 0 (first tests))
    where
      go : (0 < first tests) ⊎ (first tests ≤ 0) → Same d (records_of tests s) (records_of tests t)
      go (inl h) = rw (refused-next tests s none refl h, refused-next tests t (header_passes d ks fine.basis most) refl h) neither
      go (inr h) =
          let passed : first tests ≡ 0 = omega arith in
          let accepted_s : records_of tests s ≡ accepted rs = not_refused tests s none passed ∙ sym (not_refused [] s none refl) ∙ e in
          rw (accepted_s, accepted_t tests passed) (both drawings-same)

  on_page : (lights l : List ℕ) → Same d (records_of (page_tests d (length l) lights) s) (records_of (page_tests d (length l) lights) t)
  on_page lights l = same_records (page_tests d (length l) lights)

  pub squeezed-keeps : Keeps s (squeezed (header_at s) (drawings (basis_of (header_at s)) rs))
  unfolding drawings_by
  squeezed-keeps =
      record {
        header = header-same;
        drawings = λ tests. ap (λ (q : Header). drawings_by q (records_of tests t)) header-same ∙ sym (same-drawings (same_records tests));
        checked = λ tests. ap (λ (q : Header). checked_as q (records_of tests t)) header-same ∙ sym (same-checked (same_records tests));
        outcome =
            λ lights l.
            ap (λ (q : Header). outcome_by q (records_of (page_tests q (length l) lights) t)) header-same
            ∙ sym (same_outcome (on_page lights l));
        page =
            λ lights l.
            ap (λ (q : Header). page_by lights q (records_of (page_tests q (length l) lights) t) l) header-same
            ∙ sym (same-page lights l (on_page lights l));
        claim =
            λ lights l r m p.
            subst (λ (q : Header). ClaimBy lights q (records_of (page_tests q (length l) lights) t) l r m) (sym header-same)
            (same-claim lights l (on_page lights l) p);
        no_longer = no_longer;
        again =
            ap (λ (q : Header). squeezed q (drawings_by q (pageless_records t))) header-same
            ∙ ap (λ (x : Records). squeezed d (drawings_by d x)) (accepted_t [] refl)
            ∙ ap (squeezed d) (sym drawings-same);
      }

-- ---- the answer and the output

-- bytes that fit are the first of the output
fitted-keeps : (s bs l : List ℕ) → Keeps s bs → KeepsBy s (fitted (length l) bs) (filled l bs)
unfolding KeepsBy
fitted-keeps s bs l p = go (ltb (length l) (length bs))
  where
    go : (short : Bool) → KeepsBy s (cond short (Err (22, 0)) (Ok (length bs))) (cond short l (bs ++ drop (length bs) l))
    go true = tt
    go false = subst (Keeps s) (sym (take-append_seam bs (drop (length bs) l))) p

pub keeps_by : (s l m : List ℕ) {r : Result ℕ (ℕ × ℕ)} → r ≡ squeeze_answer (length l) (header_at s) (pageless_records s)
    → m ≡ squeeze_output l (header_at s) (pageless_records s) → KeepsBy s r m
unfolding KeepsBy squeeze_answer squeeze_output
keeps_by s l m {r} answer output =
    subst (λ (a : Result ℕ (ℕ × ℕ)). KeepsBy s a m) (sym answer)
    (subst (KeepsBy s (squeeze_answer (length l) (header_at s) (pageless_records s))) (sym output) (go (pageless_records s) refl))
  where
    go : (x : Records) → pageless_records s ≡ x → KeepsBy s (squeeze_answer (length l) (header_at s) x) (squeeze_output l (header_at s) x)
    go (accepted rs) e = fitted-keeps s (squeezed (header_at s) (drawings (basis_of (header_at s)) rs)) l (squeezed-keeps s rs e)
    go (refused f place) e = tt

-- an output as long as the list is never too short
pub room_enough : (s : List ℕ) (rs : List Record) → pageless_records s ≡ accepted rs → (n : ℕ) → length s ≤ n
    → squeeze_answer n (header_at s) (pageless_records s) ≡ Ok (length (squeezed_of s))
unfolding squeeze_answer drawings_by
room_enough s rs e n h =
    let bs : List ℕ = squeezed (header_at s) (drawings (basis_of (header_at s)) rs) in
    rw (e, le-ltb n (length bs) (omega (arith, (squeezed-keeps s rs e).no_longer))) refl

-- A walk over the records of an accepted list: what is left of it at a place, where the settings f are in force.
use Rattle.std.proofs.Common.{◌≡◌, sym, ◌∙◌, ap, subst, false, List, [], ◌∷◌, ◌++◌, ℕ, suc, ◌+◌, ◌-◌, ◌≤◌, ◌<◌, le_of_eq, arith, length, get_or, take, drop, length-drop, take_all, drop-drop, get_or-drop}
use Rattle.limits.specs.Limits.{basis_refusal, clip_refusal, record_refusal}
use Rattle.shapes.specs.declared.Basis.{Basis}
use Rattle.shapes.specs.declared.Record.{Record}
use Rattle.shapes.specs.declared.Record.TheVariants.{End as end}
use Rattle.format.specs.Format.{list_most, header_size, kind_size, off_kind, kind_of, kind_at, size_at, decoded, record_at}
use Rattle.format.specs.inner.Record.{Whole}
use Rattle.format.proofs.Bytes.{kind-found}
use Rattle.records.proofs.Refusals.{Readable}
use Rattle.lists.proofs.InForce.{start-clip, clip-kept, start-player, player-kept}
use Rattle.lists.proofs.Accepted.{Holds, holds, holds_readable, holds_end, Next, holds_next}
use Rattle.settings.specs.Settings.{start, in_force}
use Rattle.settings.specs.Drawing.{drawing_of, drawings_from}
use Rattle.lists.specs.inner.Walk.{records_in, list_records, players_in, Walkable}
use Rattle.settings.specs.declared.Settings.{Settings}

-- ---- what is left

pub end_record : (s : List ℕ) → kind_at s ≡ 0 → record_at s ≡ end
unfolding decoded
end_record s z = rw z

pub record Left (b : Basis) (list : List ℕ) (place : ℕ) (f : Settings) (records : List Record) : Type 0 where
  pub holds : Holds b (drop place list) records
  pub clip : clip_refusal b.w b.h f.clip ≡ 0
  pub player : f.player < players_in b.version
  pub most : length list ≤ list_most

-- at the start all is left
pub left-start : (b : Basis) (list : List ℕ) → Walkable list b → Left b list header_size (start b) (records_in (list_records b list))
unfolding list_records
left-start b list d =
    record { holds = holds b (suc (length list)) (drop header_size list) header_size _ d.is; clip = start-clip b; player = start-player b; most = d.most }

module _ {b : Basis} {place : ℕ} {list : List ℕ} {f : Settings} {records : List Record} (p : Left b list place f records) where
  abbrev here : List ℕ
  here = drop place list

  pub left-kind : kind_at here ≡ get_or list place 0
  left-kind = get_or-drop place list 0 0 ∙ ap (λ (i : ℕ). get_or list i 0) (omega arith)

  readable_here : Readable b here
  readable_here = holds_readable b here records p.holds

  pub left-basis : basis_refusal b ≡ 0
  left-basis = readable_here.basis

  pub left-inside : (place < length list) × (kind_size (get_or list place 0) + place ≤ length list) × (0 < kind_size (get_or list place 0))
  left-inside =
      let known = readable_here.whole.known in
      let fits = readable_here.whole.fits in
      let e = ap kind_size left-kind in
      let k = length-drop place list in
      (omega arith, omega arith, omega arith)

  -- the end record is the last
  pub left_end : get_or list place 0 ≡ 0 → records ≡ end ∷ []
  left_end z = holds_end b here records p.holds (left-kind ∙ z) ∙ ap (λ (r : Record). r ∷ []) (end_record here (left-kind ∙ z))

  all_here : take (length list - place) (drop place list) ≡ here
  all_here = take_all (length list - place) (drop place list) (le_of_eq (length-drop place list))

  -- a record r stands whole
  pub left_stands : Whole here
  left_stands = readable_here.whole

  pub left-whole : Whole (take (length list - place) (drop place list))
  left-whole = rw all_here left_stands

  module _ {r : Record} (found : r ≡ record_at (take (length list - place) (drop place list))) where
    pub left-found : r ≡ record_at here
    left-found = found ∙ ap record_at all_here

    pub left-lawful : record_refusal b r ≡ 0
    left-lawful = ap (record_refusal b) left-found ∙ readable_here.lawful

    left-known : off_kind b.version (kind_of r) ≡ false
    left-known =
        ap (λ (q : Record). off_kind b.version (kind_of q)) left-found
        ∙ ap (off_kind b.version) (kind-found (kind_at here) here readable_here.whole.known) ∙ readable_here.kind

    -- and is no end: the rest is left
    module _ (some : get_or list place 0 ≡ 0 → ⊥) {after : ℕ} {g : Settings} (next : g ≡ in_force f r) (past : after ≡ place + kind_size (get_or list place 0)) where
      rest : Next b here records
      rest = holds_next b here records p.holds (λ e. some (sym left-kind ∙ e))

      pub record Step : Type 0 where
        pub records_left : List Record
        pub drawings : drawings_from f records ≡ drawing_of f r ++ drawings_from g records_left
        pub left : Left b list after g records_left

      drawings_then : drawings_from f records ≡ drawing_of f r ++ drawings_from g rest.rest
      unfolding drawings_from
      drawings_then =
          ap (drawings_from f) (rest.same ∙ ap (λ (q : Record). q ∷ rest.rest) (sym left-found))
          ∙ ap (λ (q : Settings). drawing_of f r ++ drawings_from q rest.rest) (sym next)

      -- what holds at the place holds behind the record: drop (place + n) list = drop n (drop place list)
      pub left-next : Step
      left-next =
          record {
            records_left = rest.rest;
            drawings = drawings_then;
            left =
                record {
                  holds =
                      subst (λ (s : List ℕ). Holds b s rest.rest)
                      (drop-drop (size_at here) place list ∙ ap (λ (j : ℕ). drop (place + j) list) (ap kind_size left-kind) ∙ ap (λ (j : ℕ). drop j list) (sym past))
                      rest.left;
                  clip = subst (λ (q : Settings). clip_refusal b.w b.h q.clip ≡ 0) (sym next) (clip-kept b f r left-lawful p.clip);
                  player = subst (λ (q : Settings). q.player < players_in b.version) (sym next) (player-kept b f r left-known left-lawful p.player);
                  most = p.most;
                };
          }

-- The records that a list may have, and that what is kept of them is such records.
use mathlib.Core.Path.{◌≡◌, refl, sym, ◌∙◌, ap, subst}
use mathlib.Core.Bool.{Bool, true, false, cond}
use mathlib.Core.List.{List, [], ◌∷◌, ◌++◌}
use Prim.Native.Nat.{ℕ, ◌≤◌, ◌<◌}
use native.Mathlib.Omega.{arith}
use borrow.Author.Tests.{le-ltb, eq-eqb}
use lib.Dec.{ltb, eqb}
use Rattle.limits.specs.Limits.{clip_refusal, player_refusal, record_refusal}
use Rattle.shapes.specs.declared.Basis.{Basis}
use Rattle.shapes.specs.declared.Setting.{Setting}
use Rattle.shapes.specs.declared.Setting.TheVariants.{Clip as clip, Level as level, Player as player}
use Rattle.shapes.specs.declared.Record.{Record}
use Rattle.shapes.specs.declared.Record.TheVariants.{End as end, Setting as setting, Shape as shape}
use Rattle.format.specs.Format.{off_kind, kind_of, kind_at}
use Rattle.settings.specs.Settings.{start, in_force}
use Rattle.settings.specs.Drawing.{drawing_of, drawings_from, drawings}
use Rattle.lists.specs.inner.Walk.{players_in}
use Rattle.settings.specs.declared.Settings.{Settings}
use Rattle.format.proofs.Bytes.{kind-found}
use Rattle.records.proofs.Refusals.{readable}
use Rattle.lists.proofs.InForce.{start-clip, clip-kept, start-player, player-kept}
use Rattle.lists.proofs.Accepted.{Holds, last as at_last, more as and-more}
use Rattle.lists.proofs.Left.{end_record}
use Rattle.squeezed.specs.Squeeze.{same_clip, change, changes, kept_from}
use Rattle.squeezed.proofs.Changes.{level_change, player_change, one_by_one}

-- a record of a kind that the version has, and without a refusal
pub record Allowed (b : Basis) (r : Record) : Type 0 where
  pub kind : off_kind b.version (kind_of r) ≡ false
  pub none : record_refusal b r ≡ 0

-- such records, the end record last and nowhere else
pub data Lawful (b : Basis) : List Record → Type 0 where
  last : Lawful b (end ∷ [])
  more : {r : Record} {rs : List Record} → (kind_of r ≡ 0 → ⊥) → Allowed b r → Lawful b rs → Lawful b (r ∷ rs)

-- ---- the records of an accepted list

pub holds_lawful : {b : Basis} {s : List ℕ} {rs : List Record} → Holds b s rs → Lawful b rs
holds_lawful {b} (at_last {s} none k all) = subst (λ (r : Record). Lawful b (r ∷ [])) (sym (end_record s k)) last
holds_lawful {b} (and-more {s} none k p) =
    let q = readable b s none in
    let found = kind-found (kind_at s) s q.whole.known in
    more (λ e. k (sym found ∙ e)) (record { kind = ap (off_kind b.version) found ∙ q.kind; none = q.lawful }) (holds_lawful p)

-- ---- the settings in force

-- the clip is on the page, and the player is one of the version's
record Usable (b : Basis) (f : Settings) : Type 0 where
  clip : clip_refusal b.w b.h f.clip ≡ 0
  player : f.player < players_in b.version

-- every version has the kinds to 6
low-kind : (v k : ℕ) → k ≤ 6 → off_kind v k ≡ false
low-kind v k h = go (eqb v 1)
  where
    go : (one : Bool) → ltb (cond one 6 10) k ≡ false
    go true = le-ltb 6 k h
    go false = le-ltb 10 k (omega arith)

-- a setting is no end record
setting_kind : (g : Setting) → kind_of (setting g) ≡ 0 → ⊥
unfolding kind_of
setting_kind (clip c) k = omega arith
setting_kind (level v) k = omega arith
setting_kind (player p) k = omega arith

module _ (b : Basis) where
  usable_start : Usable b (start b)
  usable_start = record { clip = start-clip b; player = start-player b }

  usable_after : (f : Settings) (r : Record) → Allowed b r → Usable b f → Usable b (in_force f r)
  usable_after f r a u =
      record { clip = clip-kept b f r a.none u.clip; player = player-kept b f r a.kind a.none u.player }

  -- each may be set by a record; the player where two differ, since the version then has eight
  clip_allowed : (f : Settings) → Usable b f → Allowed b (setting (clip f.clip))
  unfolding kind_of record_refusal
  clip_allowed f u = record { kind = low-kind b.version 1 (omega arith); none = u.clip }

  level_allowed : (f : Settings) → Allowed b (setting (level f.level))
  unfolding kind_of record_refusal
  level_allowed f = record { kind = low-kind b.version 2 (omega arith); none = refl }

  player_allowed : (e f : Settings) → Usable b e → Usable b f → eqb e.player f.player ≡ false → Allowed b (setting (player f.player))
  unfolding kind_of record_refusal player_refusal
  player_allowed e f t u differ =
      let k = go (eqb b.version 1) t.player u.player in
      record { kind = k.0; none = rw (le-ltb 7 f.player k.1) }
    where
      go : (one : Bool) → e.player < cond one 1 8 → f.player < cond one 1 8 → (ltb (cond one 6 10) 7 ≡ false) × (f.player ≤ 7)
      go true h k = absurd (let z : ◌≡◌ {A = ℕ} 0 1 = cc (eq-eqb e.player f.player (omega arith)) in omega arith)
      go false h k = (refl, omega arith)

  -- ---- what is kept

  change-lawful : (same : Bool) (g : Setting) (rs : List Record) → (same ≡ false → Allowed b (setting g)) → Lawful b rs → Lawful b (change same g ++ rs)
  unfolding change
  change-lawful true g rs a p = p
  change-lawful false g rs a p = more (setting_kind g) (a refl) p

  changes-lawful : (e f : Settings) (rs : List Record) → Usable b e → Usable b f → Lawful b rs → Lawful b (changes e f ++ rs)
  changes-lawful e f rs t u p =
      subst (Lawful b) (sym (one_by_one e f rs))
      (change-lawful (same_clip e.clip f.clip) (clip f.clip) (level_change e f ++ (player_change e f ++ rs)) (λ differ. clip_allowed f u)
      (change-lawful (eqb e.level f.level) (level f.level) (player_change e f ++ rs) (λ differ. level_allowed f)
      (change-lawful (eqb e.player f.player) (player f.player) rs (player_allowed e f t u) p)))

  -- of some records, where f is in force and e at the shape before
  abbrev KeptLawful : List Record → Type 0
  KeptLawful rs = (e f : Settings) → Usable b e → Usable b f → Lawful b (kept_from e (drawings_from f rs))

  one_more : (r : Record) (rs : List Record) → (kind_of r ≡ 0 → ⊥) → Allowed b r → KeptLawful rs → KeptLawful (r ∷ rs)
  unfolding drawings_from drawing_of kept_from
  one_more end rs k a p e f t u = p e (in_force f end) t (usable_after f end a u)
  one_more (setting g) rs k a p e f t u = p e (in_force f (setting g)) t (usable_after f (setting g) a u)
  one_more (shape s) rs k a p e f t u =
      changes-lawful e f _ t u (more k a (p f (in_force f (shape s)) u (usable_after f (shape s) a u)))

  lawful_from : {rs : List Record} → Lawful b rs → KeptLawful rs
  unfolding drawings_from drawing_of kept_from
  lawful_from last e f t u = last
  lawful_from (more {r} {rs} k a p) e f t u = one_more r rs k a (lawful_from p) e f t u

  pub kept-lawful : {rs : List Record} → Lawful b rs → Lawful b (kept_from (start b) (drawings b rs))
  kept-lawful p = lawful_from p (start b) (start b) usable_start usable_start

-- The settings in force along a walk over lawful records.
use Rattle.std.proofs.Common.{◌≡◌, Bool, true, false, cond, ◌<◌, arith, le-leb, ltb-false, ltb, eqb}
use Rattle.limits.specs.Limits.{off_page, clip_refusal, player_refusal, record_refusal}
use Rattle.limits.proofs.Limits.{clear}
use Rattle.shapes.specs.declared.Basis.{Basis}
use Rattle.shapes.specs.declared.Record.{Record}
use Rattle.shapes.specs.declared.Setting.TheVariants.{Clip as clip, Level as level, Player as player}
use Rattle.shapes.specs.declared.Record.TheVariants.{End as end, Setting as setting, Shape as shape}
use Rattle.format.specs.Format.{off_kind, kind_of}
use Rattle.settings.specs.Settings.{start, in_force}
use Rattle.lists.specs.inner.Walk.{players_in}
use Rattle.settings.specs.declared.Settings.{Settings}

-- ---- the clip in force stays on the page

-- the clip at the start is the whole page
pub start-clip : (b : Basis) → clip_refusal b.w b.h (start b).clip ≡ 0
unfolding clip_refusal off_page start
start-clip b = simp (le-leb 0 b.w (omega arith), le-leb b.w b.w (omega arith), le-leb 0 b.h (omega arith), le-leb b.h b.h (omega arith))

pub clip-kept : (b : Basis) (f : Settings) (r : Record) → record_refusal b r ≡ 0 → clip_refusal b.w b.h f.clip ≡ 0 → clip_refusal b.w b.h (in_force f r).clip ≡ 0
unfolding record_refusal in_force
clip-kept b f end z k = k
clip-kept b f (setting (clip c)) z k = z
clip-kept b f (setting (level v)) z k = k
clip-kept b f (setting (player p)) z k = k
clip-kept b f (shape s) z k = k

-- ---- the player in force is one of the version's

pub start-player : (b : Basis) → (start b).player < players_in b.version
unfolding start
start-player b = go (eqb b.version 1)
  where
    go : (one : Bool) → 0 < cond one 1 8
    go true = omega arith
    go false = omega arith

-- a version that has kind 7 has eight players
pub player-kept : (b : Basis) (f : Settings) (r : Record) → off_kind b.version (kind_of r) ≡ false → record_refusal b r ≡ 0
    → f.player < players_in b.version → (in_force f r).player < players_in b.version
unfolding kind_of record_refusal player_refusal in_force
player-kept b f end o z k = k
player-kept b f (setting (clip c)) o z k = k
player-kept b f (setting (level v)) o z k = k
player-kept b f (setting (player p)) o z k = go (eqb b.version 1) o
  where
    go : (one : Bool) → ltb (cond one 6 10) 7 ≡ false → p < cond one 1 8
    go true e = absurd (let h = ltb-false 6 7 e in omega arith)
    go false e = let h = ltb-false 7 p (clear (ltb 7 p) 30 0 z).0 in omega arith
player-kept b f (shape s) o z k = k

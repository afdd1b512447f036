-- The bytes of some records, and how many they are.
use mathlib.Core.Path.{◌≡◌, refl, sym, ◌∙◌, ap}
use mathlib.Core.Bool.{Bool, true, false, cond}
use mathlib.Core.List.{List, [], ◌∷◌, ◌++◌, append_assoc, append-nil}
use Prim.Native.Nat.{ℕ, ◌+◌, ◌≤◌}
use native.Mathlib.Omega.{arith}
use lib.ListN.{length, length-append}
use Rattle.shapes.specs.declared.Setting.{Setting}
use Rattle.shapes.specs.declared.Setting.TheVariants.{Level as level, Player as player}
use Rattle.shapes.specs.declared.Record.{Record}
use Rattle.shapes.specs.declared.Record.TheVariants.{Setting as setting}
use Rattle.format.specs.Format.{kind_of, fields_of, record_bytes}
use Rattle.settings.specs.declared.Settings.{Settings}
use Rattle.squeezed.specs.Squeeze.{change, changes, all_bytes}
use Rattle.squeezed.specs.inner.Size.{size_of}
use Rattle.squeezed.proofs.Changes.{clip_change, level_change, player_change, changes_are, no_changes}

-- ---- some records and others behind them

pub all_append : (rs qs : List Record) → all_bytes (rs ++ qs) ≡ all_bytes rs ++ all_bytes qs
unfolding all_bytes
all_append [] qs = refl
all_append (r ∷ rs) qs =
    ap (λ (bs : List ℕ). record_bytes r ++ bs) (all_append rs qs) ∙ sym (append_assoc (record_bytes r) (all_bytes rs) (all_bytes qs))

pub size-append : (rs qs : List Record) → size_of (rs ++ qs) ≡ size_of rs + size_of qs
size-append rs qs = ap length (all_append rs qs) ∙ length-append (all_bytes rs) (all_bytes qs)

-- a record in front of some
pub size-more : (r : Record) (rs : List Record) → size_of (r ∷ rs) ≡ length (record_bytes r) + size_of rs
unfolding all_bytes
size-more r rs = length-append (record_bytes r) (all_bytes rs)

size_none : size_of [] ≡ 0
unfolding all_bytes
size_none = refl

-- one record
pub size_one : (r : Record) → size_of (r ∷ []) ≡ length (record_bytes r)
size_one r = omega (arith, size-more r [], size_none)

-- ---- changes

-- a change has at most the bytes of the setting
pub change-few : (same : Bool) (g : Setting) → size_of (change same g) ≤ length (record_bytes (setting g))
unfolding change
change-few true g = omega (arith, size_none)
change-few false g = omega (arith, size_one (setting g))

pub size-changes : (b f : Settings)
    → size_of (changes b f) ≡ size_of (clip_change b f) + size_of (level_change b f) + size_of (player_change b f)
size-changes b f =
    let two : List Record = clip_change b f ++ level_change b f in
    omega (arith, ap size_of (changes_are b f), size-append two (player_change b f), size-append (clip_change b f) (level_change b f))

-- from some settings to themselves there are none
pub no_size : (f : Settings) → size_of (changes f f) ≡ 0
no_size f = ap size_of (no_changes f) ∙ size_none

-- ---- the bytes of a change

-- none where the value is the same, else those of the setting
pub change-none : {same : Bool} (g : Setting) → same ≡ true → all_bytes (change same g) ≡ []
unfolding change all_bytes
change-none g e = rw e

pub change-some : {same : Bool} (g : Setting) → same ≡ false → all_bytes (change same g) ≡ record_bytes (setting g)
unfolding change all_bytes
change-some g e = rw e (append-nil (record_bytes (setting g)))

pub change-size : (same : Bool) (g : Setting) → size_of (change same g) ≡ cond same 0 (length (record_bytes (setting g)))
change-size true g = ap length (change-none g refl)
change-size false g = ap length (change-some g refl)

-- a level or a player has its kind and its value
pub level-bytes : (same : Bool) (v : ℕ) → all_bytes (change same (level v)) ≡ cond same [] (2 ∷ v ∷ [])
unfolding change all_bytes kind_of fields_of
level-bytes true v = refl
level-bytes false v = refl

pub player-bytes : (same : Bool) (v : ℕ) → all_bytes (change same (player v)) ≡ cond same [] (7 ∷ v ∷ [])
unfolding change all_bytes kind_of fields_of
player-bytes true v = refl
player-bytes false v = refl

pub changes-bytes : (b f : Settings)
    → all_bytes (changes b f) ≡ all_bytes (clip_change b f) ++ all_bytes (level_change b f) ++ all_bytes (player_change b f)
changes-bytes b f =
    let two : List Record = clip_change b f ++ level_change b f in
    ap all_bytes (changes_are b f)
    ∙ all_append two (player_change b f)
    ∙ ap (λ (bs : List ℕ). bs ++ all_bytes (player_change b f)) (all_append (clip_change b f) (level_change b f))

-- The settings that are kept bring those of each shape in force, so that a squeezed list has the drawings that it was made from.
use mathlib.Core.Path.{◌≡◌, refl, sym, ◌∙◌, ap}
use mathlib.Core.Bool.{Bool, true, false}
use mathlib.Core.List.{List, [], ◌∷◌, ◌++◌, append_assoc}
use Prim.Native.Nat.{ℕ}
use borrow.Author.Tests.{eqb-true, eq-eqb}
use lib.Dec.{eqb}
use Rattle.std.proofs.Common.{arith}
use Rattle.std.proofs.lemmas.Bool.Decides.{nat_tests}
use Rattle.shapes.specs.declared.Clip.{Clip}
use Rattle.shapes.specs.declared.Setting.{Setting}
use Rattle.shapes.specs.declared.Setting.TheVariants.{Clip as clip, Level as level, Player as player}
use Rattle.shapes.specs.declared.Record.{Record}
use Rattle.shapes.specs.declared.Record.TheVariants.{Setting as setting, Shape as shape}
use Rattle.settings.specs.Settings.{in_force}
use Rattle.settings.specs.Drawing.{Drawing, drawing_of, drawings_from}
use Rattle.settings.specs.declared.Settings.{Settings}
use Rattle.squeezed.specs.Squeeze.{same_clip, change, changes, kept_from}

-- ---- equal clips

pub same-clip : (a b : Clip) → same_clip a b ≡ true → a ≡ b
unfolding same_clip
same-clip a b e =
    let x0 : a.x0 ≡ b.x0 = grind (arith, nat_tests) in
    let y0 : a.y0 ≡ b.y0 = grind (arith, nat_tests) in
    let x1 : a.x1 ≡ b.x1 = grind (arith, nat_tests) in
    let y1 : a.y1 ≡ b.y1 = grind (arith, nat_tests) in
    λ i. record { x0 = x0 i; y0 = y0 i; x1 = x1 i; y1 = y1 i }

clip_itself : (c : Clip) → same_clip c c ≡ true
unfolding same_clip
clip_itself c =
    rw (eq-eqb c.x0 c.x0 refl, eq-eqb c.y0 c.y0 refl, eq-eqb c.x1 c.x1 refl, eq-eqb c.y1 c.y1 refl)

-- ---- the changes from b to f

-- nothing changes from some settings to themselves
pub no_changes : (f : Settings) → changes f f ≡ []
unfolding changes change
no_changes f = rw (clip_itself f.clip, eq-eqb f.level f.level refl, eq-eqb f.player f.player refl)

-- the change of each setting, in front of other records: a clip, then a level, then a player
module _ (b f : Settings) where
  abbrev pub clip_change : List Record
  clip_change = change (same_clip b.clip f.clip) (clip f.clip)

  abbrev pub level_change : List Record
  level_change = change (eqb b.level f.level) (level f.level)

  abbrev pub player_change : List Record
  player_change = change (eqb b.player f.player) (player f.player)

  pub changes_are : changes b f ≡ clip_change ++ level_change ++ player_change
  unfolding changes
  changes_are = refl

  pub one_by_one : (rs : List Record) → changes b f ++ rs ≡ clip_change ++ (level_change ++ (player_change ++ rs))
  unfolding changes
  one_by_one rs =
      append_assoc (clip_change ++ level_change) player_change rs ∙ append_assoc clip_change level_change (player_change ++ rs)

-- ---- what they bring in force

-- a change is in force behind it, whether it is a record or the value was the same before
change_then : (b : Settings) (same : Bool) (g : Setting) (rs : List Record) → (same ≡ true → in_force b (setting g) ≡ b)
    → drawings_from b (change same g ++ rs) ≡ drawings_from (in_force b (setting g)) rs
unfolding change drawings_from drawing_of
change_then b true g rs e = ap (λ (f : Settings). drawings_from f rs) (sym (e refl))
change_then b false g rs e = refl

-- b, b with the clip of f, b with its clip and its level, f
changes_then : (b f : Settings) (rs : List Record) → drawings_from b (changes b f ++ rs) ≡ drawings_from f rs
unfolding in_force
changes_then b f rs =
    ap (drawings_from b) (one_by_one b f rs)
    ∙ change_then b (same_clip b.clip f.clip) (clip f.clip) (level_change b f ++ (player_change b f ++ rs))
    (λ e. ap (λ (c : Clip). record { clip = c; level = b.level; player = b.player }) (sym (same-clip b.clip f.clip e)))
    ∙ change_then (record { clip = f.clip; level = b.level; player = b.player }) (eqb b.level f.level) (level f.level) (player_change b f ++ rs)
    (λ e. ap (λ (v : ℕ). record { clip = f.clip; level = v; player = b.player }) (sym (eqb-true b.level f.level e)))
    ∙ change_then (record { clip = f.clip; level = f.level; player = b.player }) (eqb b.player f.player) (player f.player) rs
    (λ e. ap (λ (p : ℕ). record { clip = f.clip; level = f.level; player = p }) (sym (eqb-true b.player f.player e)))

-- the drawings of what is kept of some drawings are these
pub drawings-kept : (b : Settings) (ds : List Drawing) → drawings_from b (kept_from b ds) ≡ ds
unfolding kept_from drawings_from drawing_of in_force
drawings-kept b [] = refl
drawings-kept b (d ∷ ds) =
    changes_then b d.settings (shape d.shape ∷ kept_from d.settings ds)
    ∙ ap (λ (es : List Drawing). d ∷ es) (drawings-kept d.settings ds)

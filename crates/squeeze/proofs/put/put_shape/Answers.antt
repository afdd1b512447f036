-- The clip, behind it the level, behind it the player, each where it differs, and behind them the shape.
use Rattle.std.proofs.Common.{◌≡◌, ◌∙◌, refl, sym, ap, Bool, true, false, not, true≢false, List, ◌++◌, ℕ, arith, length, length-append, eq-eqb, ne_eqb}
use Rattle.shapes.specs.declared.Setting.TheVariants.{Clip as clip, Level as level, Player as player}
use Rattle.format.specs.Format.{kind_of, fields_of}
use Rattle.squeezed.specs.Squeeze.{all_bytes, changes, same_clip}
use Rattle.squeezed.proofs.Changes.{clip_change, level_change, player_change}
use Rattle.squeezed.proofs.Sizes.{changes-bytes}
use Rattle.squeeze.specs.inner.Target.{Took}
use Rattle.squeeze.proofs.Took.{took_is, took_then, took_changed, took_same}
use Rattle.squeeze.proofs.put.put_shape.Goals as goal
use Rattle.squeeze.proofs.put.put_shape.Goals.{then-not-same_clip, else-not-same_clip, then-before-settings, else-before-settings, then-before-settings-2, else-before-settings-2}

differs : (b : Bool) → true ≡ not b → b ≡ false
differs true e = absurd (true≢false e)
differs false e = refl

same : (b : Bool) → false ≡ not b → b ≡ true
same true e = refl
same false e = absurd (true≢false (sym e))

pub returns : goal.returns
unfolding same_clip kind_of fields_of
returns g c =
    let t = g.T.Target in
    let none = g.met.T.Target.none in
    let b = c.args.before in
    let f = c.args.settings in
    let s = c.args.target.now in
    let one : Took t.end t.most t.Wrote s (all_bytes (clip_change b f)) c.if-not-same_clip.target =
    elim c.if-not-same_clip.branch [
      | then-not-same_clip w ↦ rw w.target-is (took_changed (clip f.clip) (sym c.same_clip.ensures ∙ w.if-not-same_clip.true) w.put_setting.ensures)
      | else-not-same_clip w ↦ took_same (clip f.clip) (sym c.same_clip.ensures ∙ w.if-not-same_clip.false) (none s) w.target-is
    ] in
    let two : Took t.end t.most t.Wrote c.if-not-same_clip.target (all_bytes (level_change b f)) c.if-before-settings.target =
    elim c.if-before-settings.branch [
      | then-before-settings w ↦ rw w.target-is (took_changed (level f.level) (ne_eqb _ _ w.if-before-settings.true) w.put_setting-then-before-settings.ensures)
      | else-before-settings w ↦ took_same (level f.level) (eq-eqb _ _ w.if-before-settings.false) (none _) w.target-is
    ] in
    let three : Took t.end t.most t.Wrote c.if-before-settings.target (all_bytes (player_change b f)) c.if-before-settings-2.target =
    elim c.if-before-settings-2.branch [
      | then-before-settings-2 w ↦ rw w.target-is (took_changed (player f.player) (ne_eqb _ _ w.if-before-settings-2.true) w.put_setting-then-before-settings-2.ensures)
      | else-before-settings-2 w ↦ took_same (player f.player) (eq-eqb _ _ w.if-before-settings-2.false) (none _) w.target-is
    ] in
    let joins = g.met.T.Target.joins in
    let bytes : List ℕ = c.args.bytes.now in
    let x : List ℕ = all_bytes (clip_change b f) in
    let y : List ℕ = all_bytes (level_change b f) in
    let z : List ℕ = all_bytes (player_change b f) in
    let told = changes-bytes b f in
    let size = length-append (all_bytes (changes b f)) bytes in
    let long = ap length told in
    let two_sizes = length-append x y in
    let three_sizes = length-append (x ++ y) z in
    let four_sizes = length-append (x ++ y ++ z) bytes in
    let all = took_then joins (omega (arith, c.requires)) (took_then joins (omega (arith, c.requires)) (took_then joins (omega (arith, c.requires)) one two) three) c.put_run.ensures in
    took_is (sym (ap (λ (bs : List ℕ). bs ++ bytes) told)) all

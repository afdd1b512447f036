-- What holds of every lawful shape at every pixel: no coverage is above the whole, both coverages touch the same pixels and are whole
-- in the same, and the one that is drawn is near the exact one.
use mathlib.Core.Path.{◌≡◌, refl}
use mathlib.Core.Bool.{Bool, true, false, cond}
use mathlib.Core.Logic.{◌↔◌}
use Prim.Native.Nat.{ℕ, ◌*◌, ◌≤◌, ◌<◌}
use native.Mathlib.Omega.{arith}
use lib.Dec.{ltb}
use lib.IntN.{ℤ, pos, negsuc, nat_abs}
use Rattle.numbers.specs.Fraction.{◌over◌, Within}
use Rattle.numbers.specs.Sound.{Sound}
use Rattle.numbers.proofs.Fraction.{within_same}
use Rattle.limits.specs.Limits.{shape_refusal}
use Rattle.shapes.specs.declared.Line.{Line}
use Rattle.shapes.specs.declared.Shape.{Shape}
use Rattle.shapes.specs.declared.Shape.TheVariants.{Line as line, Disc as disc, Ring as ring, Triangle as triangle}
use Rattle.limits.proofs.Limits.{LawfulLine, line_lawful}
use Rattle.bands.specs.Line.{exact_row, exact_whole, approx_row, approx_whole}
use Rattle.shapes.specs.Span.{longer, shorter}
use Rattle.bands.specs.Frame.{column_of, frame_row}
use Rattle.chords.specs.Circle.{disc_cover, ring_cover}
use Rattle.coverage.specs.Coverage.{in_columns, line_cover, Rule, Rules, alike, exact_rule, chord_rule, triangle_rule, line_rules, rules_of, exact_n, exact_d, drawn_n, drawn_d}
use Rattle.bands.proofs.Closed.{whole-some}
use Rattle.bands.proofs.Column.{part_lt, same-touched, near}
use Rattle.limits.proofs.Span.{some_span, span_le}
use Rattle.sides.specs.Triangle.{first, second, third}
use Rattle.chords.proofs.Chord.{disc_le, ring_le}
use Rattle.sides.proofs.Round.{cover_le, cover_pos}

-- a relation that holds of 0 and 0, and in every column
columns : (R : ℕ → ℕ → Type 0) (l : ℕ) (e a : ℕ → ℤ) → R 0 0 → ((i : ℕ) → R (nat_abs (e i)) (nat_abs (a i)))
    → (z : ℤ) → R (nat_abs (in_columns l e z)) (nat_abs (in_columns l a z))
unfolding in_columns
columns R l e a none each (pos i) = go (ltb i l)
  where
    go : (t : Bool) → R (nat_abs (cond t (e i) (pos 0))) (nat_abs (cond t (a i) (pos 0)))
    go true = each i
    go false = none
columns R l e a none each (negsuc i) = none

module _ (n : Line) (w : LawfulLine n) (x y : ℤ) where
  abbrev l : ℕ
  l = longer n

  abbrev s : ℕ
  s = shorter n

  long : 0 < l
  long = some_span n w

  both : (R : ℕ → ℕ → Type 0) → R 0 0 → ((i : ℕ) → R (nat_abs (exact_row l s i (frame_row n x y))) (nat_abs (approx_row l s i (frame_row n x y))))
      → R (line_cover exact_row n x y) (line_cover approx_row n x y)
  unfolding line_cover
  both R none each = columns R l (λ i. exact_row l s i (frame_row n x y)) (λ i. approx_row l s i (frame_row n x y)) none each (column_of n x y)

  line_exact_lt : line_cover exact_row n x y < exact_whole l s
  line_exact_lt = both (λ (e a : ℕ). e < exact_whole l s) (whole-some true l s long) (λ i. part_lt true l s i (frame_row n x y) long (span_le n))

  line_approx_lt : line_cover approx_row n x y < approx_whole l
  line_approx_lt = both (λ (e a : ℕ). a < approx_whole l) (whole-some false l s long) (λ i. part_lt false l s i (frame_row n x y) long (span_le n))

  line_touched : (0 < line_cover exact_row n x y) ↔ (0 < line_cover approx_row n x y)
  line_touched = both (λ (e a : ℕ). (0 < e) ↔ (0 < a)) (λ h. h, λ h. h) (λ i. same-touched l s i (frame_row n x y) long (span_le n))

  line_near : Within (line_cover approx_row n x y over approx_whole l) (line_cover exact_row n x y over exact_whole l s) (s over 4 * l)
  line_near =
      both (λ (e a : ℕ). Within (a over approx_whole l) (e over exact_whole l s) (s over 4 * l))
      (within_same (0 over approx_whole l) (0 over exact_whole l s) (s over 4 * l) (omega arith))
      (λ i. near l s i (frame_row n x y) long (span_le n))

-- a pixel under the rules of a shape
abbrev pub SoundAt : Rules → ℤ → ℤ → Type 0
SoundAt r x y = Sound (r.drawn.part x y over r.drawn.whole) (r.exact.part x y over r.exact.whole) r.off

-- a shape that is drawn with its exact coverage
alike-sound : (r : Rule) (x y : ℤ) → r.part x y ≤ r.whole → 0 < r.whole → SoundAt (alike r) x y
alike-sound r x y h p =
    record {
      exact_le = h;
      exact_pos = p;
      drawn_le = h;
      drawn_pos = p;
      off_pos = omega arith;
      touched = (λ k. k, λ k. k);
      near = within_same (r.part x y over r.whole) (r.part x y over r.whole) (0 over 1) refl;
      covers = (λ e. e, λ e. e);
    }

line_sound : (n : Line) → LawfulLine n → (x y : ℤ) (t : Bool) → SoundAt (line_rules t n) x y
unfolding line_rules approx_whole
line_sound n w x y true = alike-sound (exact_rule n) x y (omega (arith, line_exact_lt n w x y)) (whole-some true (longer n) (shorter n) (long n w x y))
line_sound n w x y false =
    let p = long n w x y in
    record {
      exact_le = omega (arith, line_exact_lt n w x y);
      exact_pos = whole-some true (longer n) (shorter n) p;
      drawn_le = omega (arith, line_approx_lt n w x y);
      drawn_pos = whole-some false (longer n) (shorter n) p;
      off_pos = omega arith;
      touched = line_touched n w x y;
      near = line_near n w x y;
      covers = (λ e. absurd (omega (arith, line_exact_lt n w x y)), λ e. absurd (omega (arith, line_approx_lt n w x y)));
    }

pub sound : (s : Shape) (x y : ℤ) → shape_refusal s ≡ 0 → SoundAt (rules_of s) x y
unfolding rules_of
sound (line n) x y z = line_sound n (line_lawful n z) x y n.exact
sound (disc d) x y z = alike-sound (chord_rule (disc_cover d.radius d.x d.y)) x y (disc_le d.radius d.x d.y x y) (omega arith)
sound (ring g) x y z = alike-sound (chord_rule (ring_cover g.radius g.width g.x g.y)) x y (ring_le g.radius g.width g.x g.y x y) (omega arith)
sound (triangle t) x y z =
    alike-sound (triangle_rule t) x y (cover_le (first t) (second t) (third t) x y) (cover_pos (first t) (second t) (third t))

-- a line, exact or approximate, covers no pixel whole
pub never_whole : (n : Line) (x y : ℤ) → shape_refusal (line n) ≡ 0 → exact_n (line n) x y < exact_d (line n)
unfolding rules_of line_rules
never_whole n x y z = go n.exact
  where
    go : (t : Bool) → (line_rules t n).exact.part x y < (line_rules t n).exact.whole
    go true = line_exact_lt n (line_lawful n z) x y
    go false = line_exact_lt n (line_lawful n z) x y

-- nor does the coverage that it is drawn with
pub drawn_never_whole : (n : Line) (x y : ℤ) → shape_refusal (line n) ≡ 0 → drawn_n (line n) x y < drawn_d (line n)
unfolding rules_of line_rules
drawn_never_whole n x y z = go n.exact
  where
    go : (t : Bool) → (line_rules t n).drawn.part x y < (line_rules t n).drawn.whole
    go true = line_exact_lt n (line_lawful n z) x y
    go false = line_approx_lt n (line_lawful n z) x y

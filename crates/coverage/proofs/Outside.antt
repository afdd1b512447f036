-- Where a shape covers nothing: outside the columns of a line and three rows of each, and outside the box of any other shape.
use mathlib.Core.Path.{◌≡◌, refl, sym, ◌∙◌, ap}
use mathlib.Core.Bool.{Bool, true, false, cond}
use mathlib.Core.Logic.{◌⊎◌, inl, inr, ⊎_elim}
use Prim.Native.Nat.{ℕ, ◌+◌, ◌*◌, ◌≤◌, ◌<◌, min, max}
use native.Mathlib.Omega.{arith}
use borrow.Author.Tests.{le-leb, lt-leb}
use lib.Dec.{T, ltb}
use lib.IntN.{ℤ, pos, negsuc, nat_abs, ◌+ℤ◌, ◌-ℤ◌}
use lib.Signed.{le_z}
use Rattle.numbers.proofs.Order.{lt_or_le}
use Rattle.numbers.proofs.Integer.{Diff, plus, minus, diff_of, diff_pos, diff_neg, diff_add, diff_minus, diff_abs, diff_le, le_diff}
use Rattle.numbers.proofs.Sum.{Beyond, beyond_diff}
use Rattle.shapes.specs.Span.{longer, shorter, steep, greater, smaller, greatest, smallest, width, height}
use Rattle.shapes.specs.declared.Line.{Line}
use Rattle.shapes.specs.declared.Disc.{Disc}
use Rattle.shapes.specs.declared.Ring.{Ring}
use Rattle.shapes.specs.declared.Triangle.{Triangle}
use Rattle.shapes.specs.declared.Shape.TheVariants.{Line as line, Disc as disc, Ring as ring, Triangle as triangle}
use Rattle.limits.proofs.Limits.{LawfulLine}
use Rattle.limits.proofs.Span.{some_span, span_le}
use Rattle.sides.specs.Triangle.{first, second, third}
use Rattle.sides.proofs.TwoSides.{outside_box}
use Rattle.bands.specs.Line.{exact_row, row_of, rest_of}
use Rattle.bands.specs.Frame.{framed, falls, mirrored, column_of, straight_row, frame_row}
use Rattle.chords.specs.Circle.{height_of, folded, chord, chords, disc_cover, ring_cover}
use Rattle.coverage.specs.Coverage.{in_columns, line_cover, line_rules, rules_of, exact_n}
use Rattle.bands.specs.inner.Rows.{rows_of, at_row}
use Rattle.bands.specs.declared.Rows.{Rows}
use Rattle.bands.proofs.Closed.{row_from, row_below, row-above}
use Rattle.bands.proofs.Column.{part-is}
use Rattle.coverage.proofs.Pixel.{out_left, out_right}
use Rattle.chords.proofs.Height.{height-most}
use Rattle.chords.proofs.Chord.{folded_diff}

-- pixel (x, y) is outside the box of so many columns from x0 on and so many rows from y0 on
abbrev pub OffBox : ℤ → ℤ → ℕ → ℕ → ℕ → ℕ → Type 0
OffBox x0 y0 columns rows x y = Beyond x0 columns x ⊎ Beyond y0 rows y

-- ---- lines

-- a row other than q + 1, q and q − 1; k is the row less q
no_row : (c : Rows) {k : ℤ} {a b : ℕ} → Diff k a b → (a + 1 < b) ⊎ (b + 2 ≤ a) → at_row c k ≡ 0
no_row c {k} {a} {b} d (inl h) = row_from c a b d ∙ sym (row_below c a b h)
no_row c {k} {a} {b} d (inr h) = row_from c a b d ∙ sym (row-above c a b h)

-- the column of a pixel to which the rule gives nothing there
no_part : (l : ℕ) (rule : ℕ → ℤ) (z : ℤ) → nat_abs (rule (plus z)) ≡ 0 → nat_abs (in_columns l rule z) ≡ 0
unfolding in_columns
no_part l rule (pos i) e = go (ltb i l)
  where
    go : (t : Bool) → nat_abs (cond t (rule i) (pos 0)) ≡ 0
    go true = e
    go false = refl
no_part l rule (negsuc i) e = refl

module _ (n : Line) (p : ℕ) where
  -- the column at p along the longer span, and its row q
  abbrev column : ℤ
  column = pos p -ℤ (framed n).x0

  abbrev middle : ℕ
  middle = row_of (longer n) (shorter n) (plus column)

  -- the first of its three rows: q − 1, or q + 1 where the line is mirrored
  abbrev first_by : Bool → ℤ
  first_by falls = cond falls ((framed n).y0 -ℤ pos (middle + 2)) ((framed n).y0 +ℤ pos middle -ℤ pos 1)

  abbrev pub first_row : ℤ
  first_row = first_by (falls n)

  -- and the pixel at r across it
  module _ (r : ℕ) where
    abbrev row : Bool → ℤ
    row falls = cond falls (mirrored (pos r -ℤ (framed n).y0)) (pos r -ℤ (framed n).y0)

    abbrev ruled : ℕ → ℤ
    ruled i = exact_row (longer n) (shorter n) i (row (falls n))

    off-columns : Beyond (framed n).x0 (longer n) p → nat_abs (in_columns (longer n) ruled column) ≡ 0
    off-columns o = ap nat_abs (go o)
      where
        at : Diff column (p + minus (framed n).x0) (0 + plus (framed n).x0)
        at = diff_minus (diff_pos p) (diff_of (framed n).x0)

        go : Beyond (framed n).x0 (longer n) p → in_columns (longer n) ruled column ≡ pos 0
        go (inl h) = out_left (longer n) ruled at (omega arith)
        go (inr h) = out_right (longer n) ruled at (omega arith)

    off-rows : LawfulLine n → Beyond first_row 3 r → nat_abs (in_columns (longer n) ruled column) ≡ 0
    unfolding mirrored
    off-rows w o =
        no_part (longer n) ruled column
        (part-is true (longer n) (shorter n) (plus column) (row (falls n)) (some_span n w) (span_le n) ∙ go (falls n) o)
      where
        at : Diff (pos r -ℤ (framed n).y0) (r + minus (framed n).y0) (0 + plus (framed n).y0)
        at = diff_minus (diff_pos r) (diff_of (framed n).y0)

        go : (t : Bool) → Beyond (first_by t) 3 r → at_row (rows_of true (longer n) (shorter n) (rest_of (longer n) (shorter n) (plus column))) (row t -ℤ pos middle) ≡ 0
        go true o =
            no_row _ (diff_minus (diff_minus (diff_neg at) (diff_pos 1)) (diff_pos middle))
            (⊎_elim (λ h. inr (omega arith)) (λ h. inl (omega arith)) (beyond_diff 3 r (diff_minus (diff_of (framed n).y0) (diff_pos (middle + 2))) o))
        go false o =
            no_row _ (diff_minus at (diff_pos middle))
            (⊎_elim (λ h. inl (omega arith)) (λ h. inr (omega arith))
            (beyond_diff 3 r (diff_minus (diff_add (diff_of (framed n).y0) (diff_pos middle)) (diff_pos 1)) o))

cond_pos : (t : Bool) (a b : ℕ) → cond t (pos a) (pos b) ≡ pos (cond t a b)
cond_pos true a b = refl
cond_pos false a b = refl

-- the pixel by x and y, exchanged where y is the longer
module _ (n : Line) (x y : ℕ) where
  abbrev along : ℕ
  along = cond (steep n) y x

  abbrev across : ℕ
  across = cond (steep n) x y

  exact-is : exact_n (line n) (pos x) (pos y) ≡ nat_abs (in_columns (longer n) (ruled n along across) (column n along))
  unfolding rules_of line_rules line_cover column_of frame_row straight_row
  exact-is = go n.exact ∙ rw (cond_pos (steep n) y x, cond_pos (steep n) x y)
    where
      go : (t : Bool) → (line_rules t n).exact.part (pos x) (pos y) ≡ line_cover exact_row n (pos x) (pos y)
      go true = refl
      go false = refl

  -- nothing outside the columns of a line, nor outside three rows of each
  pub line_outside : LawfulLine n → OffBox (framed n).x0 (first_row n along) (longer n) 3 along across → exact_n (line n) (pos x) (pos y) ≡ 0
  line_outside w o = exact-is ∙ ⊎_elim (off-columns n along across) (off-rows n along across w) o

-- ---- discs and rings

-- outside the 2·R places around c
far : (R : ℕ) (c : ℤ) (x : ℕ) → Beyond (c -ℤ pos R) (2 * R) x → R ≤ folded (pos x -ℤ c)
far R c x o =
    let e = folded_diff (diff_minus (diff_pos x) (diff_of c)) in
    ⊎_elim (λ h. omega arith) (λ h. omega arith) (beyond_diff (2 * R) x (diff_minus (diff_of c) (diff_pos R)) o)

-- no height is above 256·R, so that no chord reaches as far
no_chord : (R a b : ℕ) → R ≤ max a b → chords (height_of R) a b ≡ 0
unfolding chords chord
no_chord R a b h = omega (arith, height-most R (min a b), height-most R (min a b + 1))

circle_outside : (R : ℕ) (cx cy : ℤ) (x y : ℕ) → OffBox (cx -ℤ pos R) (cy -ℤ pos R) (2 * R) (2 * R) x y → disc_cover R cx cy (pos x) (pos y) ≡ 0
unfolding disc_cover
circle_outside R cx cy x y o =
    no_chord R (folded (pos x -ℤ cx)) (folded (pos y -ℤ cy)) (⊎_elim (λ h. omega (arith, far R cx x h)) (λ h. omega (arith, far R cy y h)) o)

-- nothing outside the box of 2·R by 2·R around the centre
pub disc_outside : (d : Disc) (x y : ℕ) → OffBox (d.x -ℤ pos d.radius) (d.y -ℤ pos d.radius) (2 * d.radius) (2 * d.radius) x y
    → exact_n (disc d) (pos x) (pos y) ≡ 0
unfolding rules_of
disc_outside d x y = circle_outside d.radius d.x d.y x y

pub ring_outside : (g : Ring) (x y : ℕ) → OffBox (g.x -ℤ pos g.radius) (g.y -ℤ pos g.radius) (2 * g.radius) (2 * g.radius) x y
    → exact_n (ring g) (pos x) (pos y) ≡ 0
unfolding rules_of ring_cover
ring_outside g x y o = omega (arith, circle_outside g.radius g.x g.y x y o)

-- ---- triangles

-- a ≤ b, by their parts
abbrev UpTo : ℤ → ℤ → Type 0
UpTo a b = plus a + minus b ≤ plus b + minus a

between_two : (a b : ℤ) → UpTo a (greater a b) × UpTo b (greater a b) × UpTo (smaller a b) a × UpTo (smaller a b) b
between_two a b = go (le_z a b) (diff_le (diff_of a) (diff_of b)) (le_diff (diff_of a) (diff_of b))
  where
    go : (t : Bool) → (T t → UpTo a b) → (UpTo a b → T t) → UpTo a (cond t b a) × UpTo b (cond t b a) × UpTo (cond t a b) a × UpTo (cond t a b) b
    go true f g = let h = f tt in (h, omega arith, omega arith, h)
    go false f g =
        let h : UpTo b a = ⊎_elim (λ k. omega arith) (λ k. absurd (g k)) (lt_or_le (plus b + minus a) (plus a + minus b)) in
        (omega arith, h, h, omega arith)

test_true : (z : ℤ) (x : ℕ) → plus z ≤ x + minus z → le_z z (pos x) ≡ true
test_true (pos a) x h = le-leb a x (omega arith)
test_true (negsuc a) x h = refl

test_false : (z : ℤ) (x : ℕ) → x + minus z < plus z → le_z z (pos x) ≡ false
test_false (pos a) x h = lt-leb a x (omega arith)
test_false (negsuc a) x h = absurd (omega arith)

-- all of a, b and c come up to x, or none does
record OneSide (a b c : ℤ) (x : ℕ) : Type 0 where
  all : Bool
  tests : (le_z a (pos x) ≡ all) × (le_z b (pos x) ≡ all) × (le_z c (pos x) ≡ all)

one_side : (a b c : ℤ) (x : ℕ) → Beyond (smallest a b c) (nat_abs (greatest a b c -ℤ smallest a b c)) x → OneSide a b c x
one_side a b c x (inl h) =
    let m = between_two a b in
    let l = between_two (smaller a b) c in
    record { all = false; tests = (test_false a x (omega arith), test_false b x (omega arith), test_false c x (omega arith)) }
one_side a b c x (inr h) =
    let m = between_two a b in
    let g = between_two (greater a b) c in
    let e = diff_abs (diff_minus (diff_of (greatest a b c)) (diff_of (smallest a b c))) in
    record { all = true; tests = (test_true a x (omega arith), test_true b x (omega arith), test_true c x (omega arith)) }

-- nothing outside the box of its width by its height
pub triangle_outside : (t : Triangle) (x y : ℕ)
    → OffBox (smallest t.x0 t.x1 t.x2) (smallest t.y0 t.y1 t.y2) (width t) (height t) x y
    → exact_n (triangle t) (pos x) (pos y) ≡ 0
unfolding rules_of width height
triangle_outside t x y (inl o) =
    let s = one_side t.x0 t.x1 t.x2 x o in
    outside_box (first t) (second t) (third t) (pos x) (pos y) s.all (inl s.tests)
triangle_outside t x y (inr o) =
    let s = one_side t.y0 t.y1 t.y2 y o in
    outside_box (first t) (second t) (third t) (pos x) (pos y) s.all (inr s.tests)

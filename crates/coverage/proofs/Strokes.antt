-- The starred reference strokes, from the definitions, as rows under one theorem, and heights that are rounded to a row line.
use mathlib.Core.Path.{◌≡◌, refl}
use mathlib.Core.Bool.{Bool, true, false}
use Prim.Native.Nat.{ℕ, ◌+◌, ◌-◌, ◌*◌, ◌<◌}
use lib.Dec.{T, leb, ltb, lit<, lit≤}
use lib.IntN.{ℤ, pos, negsuc}
use Rattle.shapes.specs.declared.Shape.TheVariants.{Line as line, Disc as disc}
use Rattle.edges.specs.Edge.{P, slant}
use Rattle.bands.specs.Line.{left_height, right_height, F, level_row, exact_row, exact_whole, row_of, rest_of, three_rows, excess, flat_rows, crossed_rows, approx_row, approx_whole}
use Rattle.shapes.specs.Span.{span_x, span_y, longer, shorter, steep}
use Rattle.bands.specs.Frame.{exchanged, rising, framed, falls, mirrored, column_of, straight_row, frame_row}
use Rattle.chords.specs.Circle.{height_of, folded, chord, chords, disc_cover}
use Rattle.coverage.specs.Coverage.{in_columns, line_cover, line_rules, rules_of, drawn_n, drawn_d}
use Rattle.chords.proofs.Height.{height-is, height_beyond}

-- a line from (0, 0) to (x1, y1), exact or not, has n over d at (x, y)
abbrev Line : Bool → ℤ → ℤ → ℤ → ℤ → ℕ → ℕ → Type 0
Line e x1 y1 x y n d =
    let s = line (record { exact = e; x0 = pos 0; y0 = pos 0; x1 = x1; y1 = y1 }) in
    ◌≡◌ {A = ℕ × ℕ} (drawn_n s x y, drawn_d s) (n, d)

-- a disc of radius R at (0, 0) has n over 512 at (x, y)
abbrev Disc : ℕ → ℤ → ℤ → ℕ → Type 0
Disc R x y n =
    let s = disc (record { x = pos 0; y = pos 0; radius = R; big = false }) in
    ◌≡◌ {A = ℕ × ℕ} (drawn_n s x y, drawn_d s) (n, 512)

-- the heights that those rows use
height : (R k y : ℕ) → T (leb y (256 * R)) → T (leb ((2 * y - 1) * (2 * y - 1)) (262144 * (R * R - k * k))) → T (ltb (262144 * (R * R - k * k)) ((2 * y + 1) * (2 * y + 1)))
    → height_of R k ≡ y
height R k y a b c = height-is R k y (lit≤ a) (lit≤ b) (lit< c)

pub strokes :
    Line true (pos 2) (pos 1) (pos 0) (pos 0) 12 16
    × Line true (pos 2) (pos 1) (pos 0) (negsuc 0) 4 16
    × Line true (pos 2) (pos 1) (pos 1) (pos 1) 4 16
    × Line true (pos 2) (pos 1) (pos 1) (pos 0) 12 16
    × Line true (pos 1) (pos 1) (pos 0) (pos 1) 1 8
    × Line true (pos 1) (pos 1) (pos 0) (pos 0) 6 8
    × Line true (pos 1) (pos 1) (pos 0) (negsuc 0) 1 8
    × Line false (pos 1) (pos 1) (pos 0) (pos 1) 1 4
    × Line false (pos 1) (pos 1) (pos 0) (pos 0) 2 4
    × Line false (pos 1) (pos 1) (pos 0) (negsuc 0) 1 4
    × Line true (pos 3) (pos 2) (pos 0) (pos 1) 1 48
    × Line true (pos 3) (pos 2) (pos 0) (pos 0) 38 48
    × Line true (pos 3) (pos 2) (pos 0) (negsuc 0) 9 48
    × Line true (pos 3) (pos 2) (pos 2) (pos 2) 9 48
    × Line true (pos 3) (pos 2) (pos 2) (pos 1) 38 48
    × Line true (pos 3) (pos 2) (pos 2) (pos 0) 1 48
    × Disc 1 (pos 0) (pos 0) 256
    × (height_of 2 1 ≡ 443)
    × Disc 2 (pos 0) (pos 1) 443
    × Disc 2 (pos 1) (pos 1) 187
    × Disc 5 (pos 3) (pos 3) 256
unfolding P slant left_height right_height F level_row exact_row exact_whole row_of rest_of three_rows excess flat_rows crossed_rows approx_row approx_whole
    span_x span_y longer shorter steep exchanged rising framed falls mirrored column_of straight_row frame_row folded chord chords disc_cover in_columns line_cover line_rules rules_of
strokes = (
  refl,
  refl,
  refl,
  refl,
  refl,
  refl,
  refl,
  refl,
  refl,
  refl,
  refl,
  refl,
  refl,
  refl,
  refl,
  refl,
  rw (height 1 0 256 tt tt tt, height_beyond 1 1 (lit≤ tt)),
  height 2 1 443 tt tt tt,
  rw (height 2 0 512 tt tt tt, height 2 1 443 tt tt tt),
  rw (height 2 1 443 tt tt tt, height_beyond 2 2 (lit≤ tt)),
  rw (height 5 3 1024 tt tt tt, height 5 4 768 tt tt tt),
)

-- Above radius 256 the chord rule and the true circle may differ on which row lines are reached.
-- 257² − 1² is below 257², so over line 1 the circle does not reach row line 257; the height does, and the pixel below it is whole.
-- 273² − 52² is 268² + 1, so over line 52 the circle passes row line 268; the height is that line, and the pixel above it has nothing
pub row_lines :
    (257 * 257 - 1 * 1 < 257 * 257)
    × (height_of 257 1 ≡ 256 * 257)
    × Disc 257 (pos 0) (pos 256) 512
    × (268 * 268 < 273 * 273 - 52 * 52)
    × (height_of 273 52 ≡ 256 * 268)
    × Disc 273 (pos 52) (pos 268) 0
unfolding folded chord chords disc_cover rules_of
row_lines = (
  lit< tt,
  height 257 1 65792 tt tt tt,
  rw (height 257 0 65792 tt tt tt, height 257 1 65792 tt tt tt),
  lit< tt,
  height 273 52 68608 tt tt tt,
  rw (height 273 52 68608 tt tt tt, height 273 53 68558 tt tt tt),
)

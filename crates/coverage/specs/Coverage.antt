-- The coverage of a pixel by a shape, and what a coverage query answers (R6.3, R8.4).
use Rattle.std.specs.Prelude.{Result, Bool, true, false, cond, ◌||◌, ◌∷◌, ℕ, ◌*◌, ltb, ℤ, pos, negsuc, nat_abs}
use Rattle.numbers.specs.Fraction.{Frac, ◌over◌}
use Rattle.shapes.specs.declared.Line.{Line}
use Rattle.shapes.specs.declared.Shape.{Shape}
use Rattle.shapes.specs.declared.Shape.TheVariants.{Line as line, Disc as disc, Ring as ring, Triangle as triangle}
use Rattle.limits.specs.Refusal.{unless}
use Rattle.limits.specs.Limits.{first, outside, off_range, refusals_of, radius_most}
use Rattle.bands.specs.Line.{exact_row, exact_whole, approx_row, approx_whole}
use Rattle.shapes.specs.Span.{longer, shorter}
use Rattle.bands.specs.Frame.{column_of, frame_row}
use Rattle.chords.specs.Circle.{disc_cover, ring_cover}
use Rattle.sides.specs.Triangle.{triangle_cover, triangle_whole}
use Rattle.shapes.specs.declared.Triangle.{Triangle}
use Rattle.numbers.specs.declared.Ratio.{Ratio}

-- columns outside 0 to l − 1 have 0
unfoldable pub in_columns : ℕ → (ℕ → ℤ) → ℤ → ℤ
in_columns l rule (pos i) = cond (ltb i l) (rule i) (pos 0)
in_columns l rule (negsuc i) = pos 0

-- the coverage of pixel (x, y) by a line under one of the two rules
unfoldable pub line_cover : (ℕ → ℕ → ℕ → ℤ → ℤ) → Line → ℤ → ℤ → ℕ
line_cover rule n x y = nat_abs (in_columns (longer n) (λ i. rule (longer n) (shorter n) i (frame_row n x y)) (column_of n x y))

-- a rule of coverage: n of each pixel (x, y), over one d
pub record Rule : Type 0 where
  pub part : ℤ → ℤ → ℕ
  pub whole : ℕ

-- the rule that a shape is drawn with, the exact one, and how far the two may be apart
pub record Rules : Type 0 where
  pub drawn : Rule
  pub exact : Rule
  pub off : Frac

abbrev pub alike : Rule → Rules
alike r = record { drawn = r; exact = r; off = 0 over 1 }

abbrev pub exact_rule : Line → Rule
exact_rule n = record { part = line_cover exact_row n; whole = exact_whole (longer n) (shorter n) }

-- an approximate line may be s/(4l) off
unfoldable pub line_rules : Bool → Line → Rules
line_rules true n = alike (exact_rule n)
line_rules false n =
    record {
      drawn = record { part = line_cover approx_row n; whole = approx_whole (longer n) };
      exact = exact_rule n;
      off = shorter n over 4 * longer n;
    }

-- of a disc or a ring the exact coverage is that of the chord rule
abbrev pub chord_rule : (ℤ → ℤ → ℕ) → Rule
chord_rule at = record { part = at; whole = 512 }

-- a triangle is drawn with its exact coverage
abbrev pub triangle_rule : Triangle → Rule
triangle_rule t = record { part = triangle_cover t; whole = triangle_whole t }

unfoldable pub rules_of : Shape → Rules
rules_of (line n) = line_rules n.exact n
rules_of (disc d) = alike (chord_rule (disc_cover d.radius d.x d.y))
rules_of (ring g) = alike (chord_rule (ring_cover g.radius g.width g.x g.y))
rules_of (triangle t) = alike (triangle_rule t)

abbrev pub exact_n : Shape → ℤ → ℤ → ℕ
exact_n s = (rules_of s).exact.part

abbrev pub exact_d : Shape → ℕ
exact_d s = (rules_of s).exact.whole

abbrev pub drawn_n : Shape → ℤ → ℤ → ℕ
drawn_n s = (rules_of s).drawn.part

abbrev pub drawn_d : Shape → ℕ
drawn_d s = (rules_of s).drawn.whole

-- a query is tried 7 (shape, then pixel), then as the shape is
unfoldable pub query_refusal : Shape → ℤ → ℤ → ℕ
query_refusal s x y = first ((off_range s, 7) ∷ (outside x || outside y, 7) ∷ refusals_of radius_most s)

-- n and d, unreduced, of the rule that the shape is drawn with
abbrev pub ratio_of : Shape → ℤ → ℤ → Ratio
ratio_of s x y = record { n = drawn_n s x y; d = drawn_d s }

-- the answer to a query: n and d, or the number of the first refusal
abbrev pub queried : Shape → ℤ → ℤ → Result Ratio ℕ
queried s x y = unless (query_refusal s x y) (ratio_of s x y)

-- A number that is taken is refused where the given one is: what 16 bits do not hold stands for nothing lawful.
use Rattle.std.proofs.Common.{◌≡◌, refl, Bool, true, false, cond, ◌&&◌, ◌||◌, ℕ, ◌≤◌, ◌<◌, ltb, leb, eqb, ℤ, pos, negsuc, arith}
use Rattle.std.proofs.lemmas.Bool.Decides.{nat_tests}
use Rattle.limits.specs.Limits.{first, off_size, outside, off_range, off_page, refusals_of, radius_most, basis_by, size_refusal, basis_refusal, clip_refusal, refusal_within, shape_refusal}
use Rattle.shapes.specs.declared.Shape.{Shape}
use Rattle.shapes.specs.declared.Shape.TheVariants.{Line as line, Disc as disc, Ring as ring, Triangle as triangle}
use Rattle.limits.proofs.Limits.{or_clear}
use Rattle.arguments.specs.Taken.{coordinate_of, unsigned_of, measure_of, edge_of}

-- 7: a coordinate
pub coordinate_refused : (z : ℤ) → outside (coordinate_of z) ≡ outside z
unfolding coordinate_of
coordinate_refused (pos n) = grind (arith, nat_tests)
coordinate_refused (negsuc n) = grind (arith, nat_tests)

inunsigned_same : (z : ℤ) → outside z ≡ false → coordinate_of z ≡ z
unfolding coordinate_of
inunsigned_same (pos n) e = grind (arith, nat_tests)
inunsigned_same (negsuc n) e = grind (arith, nat_tests)

-- 2, 3: a version, W or H, with the greatest that is lawful
pub unsigned_refused : (most n : ℕ) → most ≤ 65535 → (ltb (unsigned_of n) 1 || ltb most (unsigned_of n)) ≡ (ltb n 1 || ltb most n)
unfolding unsigned_of
unsigned_refused most n k = grind (arith, nat_tests)

-- 10, 33, 11: a radius or a width that is 0, and one that is above the greatest that is lawful; a negative one is refused as 0 is
pub measure_none : (n : ℕ) → eqb (measure_of (pos n)) 0 ≡ eqb n 0
unfolding measure_of edge_of
measure_none n = grind (arith, nat_tests)

measure_least : (n : ℕ) → ltb (measure_of (pos n)) 1 ≡ ltb n 1
unfolding measure_of edge_of
measure_least n = grind (arith, nat_tests)

pub measure_under : (m n : ℕ) → m < 65535 → ltb m (measure_of (pos n)) ≡ ltb m n
unfolding measure_of edge_of
measure_under m n h = grind (arith, nat_tests)

pub negative_none : (n : ℕ) → measure_of (negsuc n) ≡ 0
unfolding measure_of
negative_none n = refl

-- a radius that passed its test is the one that was given
measure_same : (m n : ℕ) → m < 65535 → ltb m n ≡ false → measure_of (pos n) ≡ n
unfolding measure_of edge_of
measure_same m n h e = grind (arith, nat_tests)

-- 8: two numbers of a clip on a page with a side of w
pub edges_refused : (w a b : ℕ) → w ≤ 1024 → (leb (edge_of a) (edge_of b) && leb (edge_of b) w) ≡ (leb a b && leb b w)
unfolding edge_of
edges_refused w a b k = grind (arith, nat_tests)

-- ---- shapes: what is refused of the shape that is taken is refused of the shape with the given numbers

module _ (exact : Bool) (a b c d : ℤ) where
  abbrev taken : Shape
  taken = line (record { exact = exact; x0 = coordinate_of a; y0 = coordinate_of b; x1 = coordinate_of c; y1 = coordinate_of d })

  abbrev given : Shape
  given = line (record { exact = exact; x0 = a; y0 = b; x1 = c; y1 = d })

  pub line_refused : shape_refusal taken ≡ shape_refusal given
  unfolding refusal_within off_range refusals_of
  line_refused = grind (arith, nat_tests, coordinate_refused, inunsigned_same)

-- where a number is told of both or of neither, only the rest is left to compare
told : (k : ℕ) (a b : Bool) (n m : ℕ) → a ≡ b → (b ≡ false → n ≡ m) → cond a k n ≡ cond b k m
told k a true n m e f = rw e
told k a false n m e f = rw e (f refl)

module _ (a b c d e f : ℤ) where
  abbrev taken_triangle : Shape
  taken_triangle =
      triangle (record { x0 = coordinate_of a; y0 = coordinate_of b; x1 = coordinate_of c; y1 = coordinate_of d; x2 = coordinate_of e; y2 = coordinate_of f })

  abbrev given_triangle : Shape
  given_triangle = triangle (record { x0 = a; y0 = b; x1 = c; y1 = d; x2 = e; y2 = f })

  pub triangle_refused : shape_refusal taken_triangle ≡ shape_refusal given_triangle
  unfolding refusal_within off_range refusals_of
  triangle_refused =
      let range : off_range taken_triangle ≡ off_range given_triangle =
      rw (coordinate_refused a, coordinate_refused b, coordinate_refused c, coordinate_refused d, coordinate_refused e, coordinate_refused f) in
      told 7 (off_range taken_triangle) (off_range given_triangle) (first (refusals_of radius_most taken_triangle)) (first (refusals_of radius_most given_triangle)) range (λ z.
      let p = or_clear (outside a || outside b || outside c || outside d || outside e) (outside f) z in
      let q = or_clear (outside a || outside b || outside c || outside d) (outside e) p.0 in
      let r = or_clear (outside a || outside b || outside c) (outside d) q.0 in
      let s = or_clear (outside a || outside b) (outside c) r.0 in
      let t = or_clear (outside a) (outside b) s.0 in
      rw (inunsigned_same a t.0, inunsigned_same b t.1, inunsigned_same c s.1, inunsigned_same d r.1, inunsigned_same e q.1, inunsigned_same f p.1))

-- in a call and in a record, whichever radius is the greatest
module _ (m : ℕ) (h : m < 65535) (x y : ℤ) (n : ℕ) (big : Bool) where
  pub disc_refused :
      refusal_within m (disc (record { x = coordinate_of x; y = coordinate_of y; radius = measure_of (pos n); big = big }))
      ≡ refusal_within m (disc (record { x = x; y = y; radius = n; big = big }))
  unfolding refusal_within off_range refusals_of
  disc_refused = rw (coordinate_refused x, coordinate_refused y, measure_none n, measure_under m n h)

  pub ring_refused : (w : ℕ)
      → refusal_within m (ring (record { x = coordinate_of x; y = coordinate_of y; radius = measure_of (pos n); width = measure_of (pos w); big = big }))
      ≡ refusal_within m (ring (record { x = x; y = y; radius = n; width = w; big = big }))
  unfolding refusal_within off_range refusals_of measure_of edge_of
  ring_refused w = rw (coordinate_refused x, coordinate_refused y) (grind (arith, nat_tests))

-- ---- bases and clips

pub size-refused : (w h : ℕ) → size_refusal (unsigned_of w) (unsigned_of h) ≡ size_refusal w h
unfolding size_refusal off_size unsigned_of
size-refused w h = grind (arith, nat_tests)

pub basis-refused : (v w h : ℕ) → basis_refusal (basis_by (unsigned_of v) (unsigned_of w) (unsigned_of h)) ≡ basis_refusal (basis_by v w h)
unfolding basis_refusal
basis-refused v w h = rw (unsigned_refused 2 v (omega arith), size-refused w h)

pub clip-refused : (w h x0 y0 x1 y1 : ℕ) → w ≤ 1024 → h ≤ 1024
    → clip_refusal w h (record { x0 = edge_of x0; y0 = edge_of y0; x1 = edge_of x1; y1 = edge_of y1 })
    ≡ clip_refusal w h (record { x0 = x0; y0 = y0; x1 = x1; y1 = y1 })
unfolding clip_refusal off_page edge_of
clip-refused w h x0 y0 x1 y1 k j = grind (arith, nat_tests)

-- The numbers of C (R8.7): what is taken of a number that its field cannot hold is refused as the number itself is.
use Rattle.std.specs.Prelude.{Bool, ◌≡◌, ℕ, ◌≤◌, ◌<◌, ℤ, pos, negsuc}
use Rattle.limits.specs.Limits.{basis_by, size_refusal, basis_refusal, clip_refusal, refusal_within, shape_refusal}
use Rattle.shapes.specs.declared.Shape.TheVariants.{Line as line, Disc as disc, Ring as ring, Triangle as triangle}
use Rattle.arguments.specs.Taken.{coordinate_of, unsigned_of, edge_of, measure_of}

pub record Numbers : Type 0 where
  -- W and H, and a version with them (R8.7)
  pub size-refused : (w h : ℕ) → size_refusal (unsigned_of w) (unsigned_of h) ≡ size_refusal w h
  pub basis-refused : (v w h : ℕ) → basis_refusal (basis_by (unsigned_of v) (unsigned_of w) (unsigned_of h)) ≡ basis_refusal (basis_by v w h)
  -- a clip on a page of a lawful size (R8.7)
  pub clip-refused : (w h x0 y0 x1 y1 : ℕ) → w ≤ 1024 → h ≤ 1024
      → clip_refusal w h (record { x0 = edge_of x0; y0 = edge_of y0; x1 = edge_of x1; y1 = edge_of y1 })
      ≡ clip_refusal w h (record { x0 = x0; y0 = y0; x1 = x1; y1 = y1 })
  -- a line and a triangle (R8.7)
  pub line_refused : (exact : Bool) (a b c d : ℤ)
      → shape_refusal (line (record { exact = exact; x0 = coordinate_of a; y0 = coordinate_of b; x1 = coordinate_of c; y1 = coordinate_of d }))
      ≡ shape_refusal (line (record { exact = exact; x0 = a; y0 = b; x1 = c; y1 = d }))
  pub triangle_refused : (a b c d e f : ℤ)
      → shape_refusal
      (triangle (record { x0 = coordinate_of a; y0 = coordinate_of b; x1 = coordinate_of c; y1 = coordinate_of d; x2 = coordinate_of e; y2 = coordinate_of f }))
      ≡ shape_refusal (triangle (record { x0 = a; y0 = b; x1 = c; y1 = d; x2 = e; y2 = f }))
  -- a disc and a ring, whichever radius m is the greatest (R8.7)
  pub disc_refused : (m : ℕ) → m < 65535 → (x y : ℤ) (n : ℕ) (big : Bool)
      → refusal_within m (disc (record { x = coordinate_of x; y = coordinate_of y; radius = measure_of (pos n); big = big }))
      ≡ refusal_within m (disc (record { x = x; y = y; radius = n; big = big }))
  pub ring_refused : (m : ℕ) → m < 65535 → (x y : ℤ) (n : ℕ) (big : Bool) (w : ℕ)
      → refusal_within m (ring (record { x = coordinate_of x; y = coordinate_of y; radius = measure_of (pos n); width = measure_of (pos w); big = big }))
      ≡ refusal_within m (ring (record { x = x; y = y; radius = n; width = w; big = big }))
  -- a radius or a width below 0 is refused as one of 0 (R8.7)
  pub negative_none : (n : ℕ) → measure_of (negsuc n) ≡ 0

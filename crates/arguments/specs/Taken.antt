-- The numbers of C as the library takes them: what 16 bits do not hold becomes a number that is refused (R8.1).
use Rattle.std.specs.Prelude.{Bool, true, false, cond, ◌||◌, List, ℕ, min, ltb, eqb, ℤ, pos, negsuc, get_or, Option, Some, None}
use Rattle.std.specs.Int.Signed.{lt_z}
use Rattle.limits.specs.Limits.{basis_by}
use Rattle.shapes.specs.declared.Basis.{Basis}
use Rattle.shapes.specs.declared.Clip.{Clip}
use Rattle.shapes.specs.declared.Line.{Line}
use Rattle.shapes.specs.declared.Disc.{Disc}
use Rattle.shapes.specs.declared.Ring.{Ring}
use Rattle.shapes.specs.declared.Triangle.{Triangle}
use Rattle.shapes.specs.declared.Shape.{Shape}
use Rattle.shapes.specs.declared.Shape.TheVariants.{Line as line, Disc as disc, Ring as ring, Triangle as triangle}
use Rattle.arguments.specs.declared.GivenBasis.{GivenBasis}
use Rattle.arguments.specs.declared.GivenClip.{GivenClip}
use Rattle.arguments.specs.declared.GivenShape.{GivenShape}

-- a coordinate of a shape or a pixel; 32,767 is refused by 7
unfoldable pub coordinate_of : ℤ → ℤ
coordinate_of z = cond (lt_z z (negsuc 32767) || lt_z (pos 32767) z) (pos 32767) z

-- a version, W or H; 0 is refused by 2 and 3
unfoldable pub unsigned_of : ℕ → ℕ
unsigned_of n = cond (ltb 65535 n) 0 n

-- a number of a clip; 65,535 is refused by 8
unfoldable pub edge_of : ℕ → ℕ
edge_of n = min n 65535

-- a radius or a ring's width, which C gives with a sign; 65,535 is refused by 33 and 11, and a negative number becomes 0, refused by 10 and 11
unfoldable pub measure_of : ℤ → ℕ
measure_of (pos n) = edge_of n
measure_of (negsuc n) = 0

-- a version, W and H as the library takes them, and back in the form that C takes
abbrev pub basis_taken : GivenBasis → Basis
basis_taken b = basis_by (unsigned_of b.version) (unsigned_of b.w) (unsigned_of b.h)

abbrev pub basis_given : Basis → GivenBasis
basis_given b = record { version = b.version; w = b.w; h = b.h }

unfoldable pub clip_of : GivenClip → Clip
clip_of c = record { x0 = edge_of c.x0; y0 = edge_of c.y0; x1 = edge_of c.x1; y1 = edge_of c.y1 }

-- ---- a shape by its numbers

abbrev pub given_number : List ℤ → ℕ → ℤ
given_number ns i = get_or ns i (pos 0)

abbrev pub given_coordinate : List ℤ → ℕ → ℤ
given_coordinate ns i = coordinate_of (given_number ns i)

abbrev pub given_measure : List ℤ → ℕ → ℕ
given_measure ns i = measure_of (given_number ns i)

abbrev pub line_of : Bool → List ℤ → Line
line_of exact ns = record { exact = exact; x0 = given_coordinate ns 0; y0 = given_coordinate ns 1; x1 = given_coordinate ns 2; y1 = given_coordinate ns 3 }

abbrev pub disc_of : Bool → List ℤ → Disc
disc_of big ns = record { x = given_coordinate ns 0; y = given_coordinate ns 1; radius = given_measure ns 2; big = big }

abbrev pub ring_of : Bool → List ℤ → Ring
ring_of big ns =
    record { x = given_coordinate ns 0; y = given_coordinate ns 1; radius = given_measure ns 2; width = given_measure ns 3; big = big }

abbrev pub triangle_of : List ℤ → Triangle
triangle_of ns =
    record {
      x0 = given_coordinate ns 0;
      y0 = given_coordinate ns 1;
      x1 = given_coordinate ns 2;
      y1 = given_coordinate ns 3;
      x2 = given_coordinate ns 4;
      y2 = given_coordinate ns 5;
    }

-- the shape of a kind by its numbers, or none for a number of no kind
abbrev pub taken_by : ℕ → List ℤ → Option Shape
taken_by k ns =
    cond (eqb k 3) (Some (line (line_of true ns)))
    (cond (eqb k 4) (Some (line (line_of false ns)))
    (cond (eqb k 5) (Some (disc (disc_of false ns)))
    (cond (eqb k 6) (Some (ring (ring_of false ns)))
    (cond (eqb k 8) (Some (disc (disc_of true ns)))
    (cond (eqb k 9) (Some (ring (ring_of true ns)))
    (cond (eqb k 10) (Some (triangle (triangle_of ns))) None))))))

unfoldable pub taken_of : GivenShape → Option Shape
taken_of s = taken_by s.kind s.numbers

-- What of a ring lies at some distances from its centre: on the two sides of a row, and in the four quarters.
use Rattle.std.specs.Prelude.{◌≡◌, List, ℕ, ◌+◌, ◌≤◌, ◌<◌, get_or, set}
use Rattle.numbers.specs.inner.Offset.{origin}
use Rattle.page.specs.inner.Paint.{dot, clipped, Drawn}
use Rattle.page.specs.declared.View.{View}
use Rattle.chords.specs.inner.Circle.{apart}
use Rattle.rings.specs.inner.Circles.{cover}
use Rattle.rings.specs.inner.Placed.{around}
use Rattle.rings.specs.declared.Circles.{Circles}
use Rattle.rings.specs.declared.Ring.{Ring}

-- byte k blended by an ink at coverage n, and bytes j and k
abbrev pub dotted : (ℕ → ℕ → ℕ) → ℕ → ℕ → List ℕ → List ℕ
dotted ink n k l = set l k (dot ink n (get_or l k 0))

abbrev pub paired : (ℕ → ℕ → ℕ) → ℕ → ℕ → ℕ → List ℕ → List ℕ
paired ink n j k l = dotted ink n k (dotted ink n j l)

-- ---- the sides of a row

-- the clip has row y, and its columns nearer than d to the centre
pub record Sides (view : View) (ring : Ring) (y d : ℕ) : Type 0 where
  pub row : (view.y0 ≤ y) × (y < view.y1)
  pub left : view.x0 + origin + d ≤ ring.cx
  pub right : ring.cx + d ≤ view.x1 + origin

-- a coverage by the distance from the centre's column, and by the row
abbrev pub sided : Ring → (ℕ → ℕ → ℕ) → ℕ → ℕ → ℕ
sided ring n x y = n (apart ring.cx (x + origin)) y

-- what of row y lies p to q away from the centre's column, of a coverage by that distance
abbrev pub row_sides : Ring → (ℕ → ℕ → ℕ) → ℕ → ℕ → ℕ → ℕ → ℕ → ℕ
row_sides ring n y p q = sided ring (clipped p y q (y + 1) n)

-- the coverage of row y at distance a from the centre's column
abbrev pub cover_in : Circles → ℕ → ℕ → ℕ
cover_in circles a y = cover circles a (apart circles.ring.cy (y + origin))

abbrev pub SidesDrawn : (ℕ → ℕ → ℕ) → View → Circles → ℕ → ℕ → ℕ → List ℕ → List ℕ → ℕ → Type 0
SidesDrawn ink view circles y p q l m t = Drawn view.w view.h ink (row_sides circles.ring (cover_in circles) y p q) l m t

-- it is drawn if its coverage is d
abbrev pub FilledSides : (ℕ → ℕ → ℕ) → ℕ → View → Ring → ℕ → ℕ → ℕ → List ℕ → List ℕ → ℕ → Type 0
FilledSides ink d view ring y p q l m t =
    (n : ℕ → ℕ → ℕ) → ((a : ℕ) → p ≤ a → a < q → n a y ≡ d) → Drawn view.w view.h ink (row_sides ring n y p q) l m t

-- ---- the quarters of a ring

-- rows y and z are at distance b, and the clip has both, and their columns nearer than d to the centre
pub record Quarters (view : View) (ring : Ring) (b y z d : ℕ) : Type 0 where
  pub lower : Sides view ring y d
  pub upper : Sides view ring z d
  pub lower-is : y + origin ≡ ring.cy + b
  pub upper_is : z + origin + b + 1 ≡ ring.cy

-- the clip has all that is nearer to the centre than the radius
pub record Enclosed (view : View) (ring : Ring) : Type 0 where
  pub left : view.x0 + origin + ring.radius ≤ ring.cx
  pub right : ring.cx + ring.radius ≤ view.x1 + origin
  pub top : view.y0 + origin + ring.radius ≤ ring.cy
  pub bottom : ring.cy + ring.radius ≤ view.y1 + origin

-- what lies p to q away from the centre's column and b to c away from its row is drawn
abbrev pub QuartersDrawn : (ℕ → ℕ → ℕ) → View → Circles → ℕ → ℕ → ℕ → ℕ → List ℕ → List ℕ → ℕ → Type 0
QuartersDrawn ink view circles p b q c l m t = Drawn view.w view.h ink (around circles.ring (clipped p b q c (cover circles))) l m t

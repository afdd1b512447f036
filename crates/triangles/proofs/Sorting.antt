-- The corners in another order have the same coverage.
use mathlib.Core.Path.{◌≡◌, refl, sym, ◌∙◌}
use Prim.Native.Nat.{ℕ, ◌≤◌, ◌<◌, min, max}
use native.Mathlib.Omega.{arith}
use lib.IntN.{pos}
use mathlib.Core.Logic.{⊎_elim}
use borrow.Author.Tests.{le-leb, lt-leb}
use Rattle.shapes.specs.declared.Corners.{Corners}
use Rattle.shapes.specs.declared.Point.{Point}
use Rattle.sides.specs.inner.Offsets.{at, Near, NearCorners}
use Rattle.numbers.proofs.Order.{lt_or_le}
use Rattle.sides.specs.Triangle.{AnyOrder}
use Rattle.sides.proofs.Round.{any_order}
use Rattle.triangles.specs.inner.Order.{corners, rising, Reordered, Sorted}

near_back : {xa ya xb yb : ℕ} → Near xa ya xb yb → Near xb yb xa ya
near_back n =
    record { wide = omega (arith, n.wide); high = omega (arith, n.high); x_in = n.x_in'; y_in = n.y_in'; x_in' = n.x_in; y_in' = n.y_in }

module _ (c : Corners) (n : NearCorners c) where
  orders : (x y : ℕ) → AnyOrder (at c.x0 c.y0) (at c.x1 c.y1) (at c.x2 c.y2) (pos x) (pos y)
  orders x y = any_order (at c.x0 c.y0) (at c.x1 c.y1) (at c.x2 c.y2) (pos x) (pos y)

  kept : Reordered c c
  kept = record { near = n; same = λ x y. refl; over = refl }

  first_swapped : Reordered c (record { x0 = c.x1; y0 = c.y1; x1 = c.x0; y1 = c.y0; x2 = c.x2; y2 = c.y2 })
  first_swapped =
      record {
        near = record { first = near_back n.first; second = near_back n.third; third = near_back n.second };
        same = λ x y. sym (orders x y).bac.n;
        over = sym (orders 0 0).bac.d;
      }

  last_swapped : Reordered c (record { x0 = c.x0; y0 = c.y0; x1 = c.x2; y1 = c.y2; x2 = c.x1; y2 = c.y1 })
  last_swapped =
      record {
        near = record { first = near_back n.third; second = near_back n.second; third = near_back n.first };
        same = λ x y. sym (orders x y).acb.n;
        over = sym (orders 0 0).acb.d;
      }

module _ (a b c : Point) (n : NearCorners (corners a b c)) where
  -- the first two
  first_two : Reordered (corners a b c) (corners (rising a b).0 (rising a b).1 c) × ((rising a b).0.y ≡ min a.y b.y) × ((rising a b).1.y ≡ max a.y b.y)
  first_two = ⊎_elim swapped as_they_are (lt_or_le b.y a.y)
    where
      as_they_are : a.y ≤ b.y → Reordered (corners a b c) (corners (rising a b).0 (rising a b).1 c) × ((rising a b).0.y ≡ min a.y b.y) × ((rising a b).1.y ≡ max a.y b.y)
      as_they_are h = rw (le-leb a.y b.y h) (kept (corners a b c) n, omega arith, omega arith)

      swapped : b.y < a.y → Reordered (corners a b c) (corners (rising a b).0 (rising a b).1 c) × ((rising a b).0.y ≡ min a.y b.y) × ((rising a b).1.y ≡ max a.y b.y)
      swapped h = rw (lt-leb a.y b.y h) (first_swapped (corners a b c) n, omega arith, omega arith)

  -- the last two
  last_two : Reordered (corners a b c) (corners a (rising b c).0 (rising b c).1) × ((rising b c).0.y ≡ min b.y c.y) × ((rising b c).1.y ≡ max b.y c.y)
  last_two = ⊎_elim swapped as_they_are (lt_or_le c.y b.y)
    where
      as_they_are : b.y ≤ c.y → Reordered (corners a b c) (corners a (rising b c).0 (rising b c).1) × ((rising b c).0.y ≡ min b.y c.y) × ((rising b c).1.y ≡ max b.y c.y)
      as_they_are h = rw (le-leb b.y c.y h) (kept (corners a b c) n, omega arith, omega arith)

      swapped : c.y < b.y → Reordered (corners a b c) (corners a (rising b c).0 (rising b c).1) × ((rising b c).0.y ≡ min b.y c.y) × ((rising b c).1.y ≡ max b.y c.y)
      swapped h = rw (lt-leb b.y c.y h) (last_swapped (corners a b c) n, omega arith, omega arith)

again : {a b c : Corners} → Reordered a b → Reordered b c → Reordered a c
again p q = record { near = q.near; same = λ x y. q.same x y ∙ p.same x y; over = q.over ∙ p.over }

-- the first two, the last two, and the first two again
pub sorted_so : (a b c : Point) {p q r : Point × Point} → NearCorners (corners a b c) → p ≡ rising a b → q ≡ rising p.1 c → r ≡ rising p.0 q.0
    → Sorted (corners a b c) (corners r.0 r.1 q.1)
sorted_so a b c {p} {q} {r} near ep eq er =
    let i = rw (← ep) at (first_two a b c near) in
    let j = rw (← eq) at (last_two p.0 p.1 c i.0.near) in
    let k = rw (← er) at (first_two p.0 q.0 q.1 j.0.near) in
    record {
      reordered = again (again i.0 j.0) k.0;
      first = omega (arith, k.1, k.2);
      last = rw (k.2, j.1, j.2) (above p.0.y p.1.y c.y (omega (arith, i.1, i.2)));
    }
  where
    above : (x y z : ℕ) → x ≤ y → max x (min y z) ≤ max y z
    above x y z h = omega arith

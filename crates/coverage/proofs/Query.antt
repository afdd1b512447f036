-- What is tried of a query, and what a query without a refusal has.
use mathlib.Core.Path.{◌≡◌, refl, sym, ◌∙◌}
use mathlib.Core.Bool.{Bool, true, false, cond, ◌||◌}
use Prim.Native.Nat.{ℕ}
use native.Mathlib.Omega.{arith}
use borrow.Author.Tests.{not-false, eqb-true}
use lib.Dec.{ltb, eqb}
use lib.IntN.{ℤ}
use mir.Syntax.{w16}
use mir.Val.{SFits, to_z, of_z}
use Rattle.numbers.specs.inner.Offset.{offset_most}
use Rattle.numbers.specs.Coordinate.{in_range}
use Rattle.limits.specs.Limits.{first, outside, off_range, refusals_of, radius_most, refusal_within, shape_refusal}
use Rattle.shapes.specs.inner.Offsets.{point_of}
use Rattle.shapes.specs.declared.Point.{Point}
use Rattle.shapes.specs.declared.Shape.{Shape}
use Rattle.limits.proofs.Limits.{outside_offset, point_kept}
use Rattle.coverage.specs.Coverage.{query_refusal}

either : (t : Bool) → ◌≡◌ {A = ℕ} 7 (cond t 7 7)
either true = refl
either false = refl

-- the pixel is tried between a shape's 7 and its other refusals
query_refusals : (s : Shape) (x y : ℤ) → query_refusal s x y ≡ cond (eqb (shape_refusal s) 7) 7 (cond (outside x || outside y) 7 (shape_refusal s))
unfolding query_refusal refusal_within
query_refusals s x y = go (off_range s) (outside x || outside y) (first (refusals_of radius_most s))
  where
    same : (n : ℕ) (t : Bool) → eqb n 7 ≡ t → n ≡ cond t 7 n
    same n true e = eqb-true n 7 e
    same n false e = refl

    go : (a p : Bool) (n : ℕ) → cond a 7 (cond p 7 n) ≡ cond (eqb (cond a 7 n) 7) 7 (cond p 7 (cond a 7 n))
    go true p n = refl
    go false true n = either (eqb n 7)
    go false false n = same n (eqb n 7) refl

-- a pixel out of range has 7, and one in range what the shape has, by the answers of the calls
pub query_pixel : (s : Shape) {x y : ℤ} (p : Point) → SFits w16 x → SFits w16 y → p ≡ point_of (to_z w16 (of_z w16 x)) (to_z w16 (of_z w16 y))
    → query_refusal s x y ≡ cond (ltb offset_most p.x || ltb offset_most p.y) 7 (shape_refusal s)
query_pixel s {x} {y} p fx fy h = rw (point_kept fx fy h, ← outside_offset x, ← outside_offset y) (query_refusals s x y ∙ go (outside x || outside y) (shape_refusal s))
  where
    go : (t : Bool) (f : ℕ) → cond (eqb f 7) 7 (cond t 7 f) ≡ cond t 7 f
    go true f = sym (either (eqb f 7))
    go false f = by_seven (eqb f 7) refl
      where
        by_seven : (t : Bool) → eqb f 7 ≡ t → cond t 7 f ≡ f
        by_seven true e = sym (eqb-true f 7 e)
        by_seven false e = refl

-- nothing refused: the shape is lawful and the pixel in range
query_lawful : (s : Shape) (x y : ℤ) → query_refusal s x y ≡ 0 → (shape_refusal s ≡ 0) × (in_range x ≡ true) × (in_range y ≡ true)
query_lawful s x y z = go (outside x) (outside y) (shape_refusal s) refl refl (sym (query_refusals s x y) ∙ z)
  where
    last : (f : ℕ) → cond (eqb f 7) 7 f ≡ 0 → f ≡ 0
    last f e = by_seven (eqb f 7) e
      where
        by_seven : (t : Bool) → cond t 7 f ≡ 0 → f ≡ 0
        by_seven true e = absurd (omega arith)
        by_seven false e = e

    go : (a b : Bool) (f : ℕ) → outside x ≡ a → outside y ≡ b → cond (eqb f 7) 7 (cond (a || b) 7 f) ≡ 0 → (f ≡ 0) × (in_range x ≡ true) × (in_range y ≡ true)
    go true b f ea eb e = absurd (omega (arith, either (eqb f 7)))
    go false true f ea eb e = absurd (omega (arith, either (eqb f 7)))
    go false false f ea eb e = (last f e, not-false (in_range x) ea, not-false (in_range y) eb)

-- the same of the locals of a query
pub lawful : (s : Shape) {x y : ℤ} → SFits w16 x → SFits w16 y → query_refusal s (to_z w16 (of_z w16 x)) (to_z w16 (of_z w16 y)) ≡ 0
    → (shape_refusal s ≡ 0) × (in_range (to_z w16 (of_z w16 x)) ≡ true) × (in_range (to_z w16 (of_z w16 y)) ≡ true)
lawful s {x} {y} fx fy z = query_lawful s (to_z w16 (of_z w16 x)) (to_z w16 (of_z w16 y)) z

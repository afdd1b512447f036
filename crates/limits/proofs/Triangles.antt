-- The refusals of a triangle by the offsets of its corners, and what a triangle without one has.
use Rattle.std.proofs.Common.{◌≡◌, refl, sym, ◌∙◌, ap₂, Bool, true, false, cond, ◌||◌, ◌⊎◌, inl, inr, ℕ, ◌+◌, ◌*◌, ◌-◌, ◌≤◌, ◌<◌, min, max, arith, lt-ltb, le-ltb, le-leb, ltb-false, ltb, leb, eqb, ℤ, nat_abs, ◌-ℤ◌, ◌*ℤ◌}
use borrow.Author.Tests.{lt-leb}
use lib.Signed.{le_z}
use Rattle.numbers.specs.inner.Order.{dist}
use Rattle.numbers.specs.inner.Offset.{offset_most, offset_of}
use Rattle.numbers.proofs.Order.{lt_or_le}
use Rattle.numbers.proofs.Integer.{Diff, diff_mul}
use Rattle.numbers.proofs.Coordinate.{InRange, offset_diff, offset_dist, le_offset}
use Rattle.shapes.specs.Span.{greater, smaller, greatest, smallest, width, height}
use Rattle.limits.specs.Limits.{outside, same, off_range, refusals_of, on_one_line, triangle_most, refusal_within, shape_refusal}
use Rattle.shapes.specs.inner.Offsets.{corners_of, greatest_of, least_of, spread_of, farthest, widest, straight}
use Rattle.shapes.specs.declared.Corners.{Corners}
use Rattle.shapes.specs.declared.Triangle.{Triangle}
use Rattle.shapes.specs.declared.Shape.TheVariants.{Triangle as triangle}
use Rattle.limits.proofs.Limits.{clear, or_clear, outside_offset, in_of, same_by}

-- ---- three offsets

least_le : (a b c : ℕ) → least_of a b c ≤ greatest_of a b c
least_le a b c = omega arith

-- two of them are no farther apart than all three
spread_parts : (a b c m : ℕ) → spread_of a b c ≤ m → (dist a b ≤ m) × (dist b c ≤ m) × (dist c a ≤ m)
spread_parts a b c m h =
    let g : (a ≤ greatest_of a b c) × (b ≤ greatest_of a b c) × (c ≤ greatest_of a b c) = (omega arith, omega arith, omega arith) in
    let l : (least_of a b c ≤ a) × (least_of a b c ≤ b) × (least_of a b c ≤ c) = (omega arith, omega arith, omega arith) in
    (near a b g.0 g.1 l.0 l.1, near b c g.1 g.2 l.1 l.2, near c a g.2 g.0 l.2 l.0)
  where
    between : (u v high low : ℕ) → u ≤ high → v ≤ high → low ≤ u → low ≤ v → high - low ≤ m → dist u v ≤ m
    between u v high low p q r s h = omega arith

    near : (u v : ℕ) → u ≤ greatest_of a b c → v ≤ greatest_of a b c → least_of a b c ≤ u → least_of a b c ≤ v → dist u v ≤ m
    near u v p q r s = between u v (greatest_of a b c) (least_of a b c) p q r s h

-- ---- three coordinates by their offsets

-- z is in range, with this offset
record At (z : ℤ) (offset : ℕ) : Type 0 where
  inside : InRange z
  is : offset_of z ≡ offset

-- y and z have these offsets, and so the greater and the smaller of them
module _ {y z : ℤ} {m n : ℕ} (p : At y m) (q : At z n) where
  order : le_z y z ≡ leb m n
  order = le_offset p.inside q.inside ∙ ap₂ leb p.is q.is

  greater-at : At (greater y z) (max m n)
  greater-at = go (lt_or_le n m)
    where
      go : (n < m) ⊎ (m ≤ n) → At (greater y z) (max m n)
      go (inl h) = let e : m ≡ max m n = omega arith in rw (order, lt-leb m n h) (record { inside = p.inside; is = p.is ∙ e })
      go (inr h) = let e : n ≡ max m n = omega arith in rw (order, le-leb m n h) (record { inside = q.inside; is = q.is ∙ e })

  smaller-at : At (smaller y z) (min m n)
  smaller-at = go (lt_or_le n m)
    where
      go : (n < m) ⊎ (m ≤ n) → At (smaller y z) (min m n)
      go (inl h) = let e : n ≡ min m n = omega arith in rw (order, lt-leb m n h) (record { inside = q.inside; is = q.is ∙ e })
      go (inr h) = let e : m ≡ min m n = omega arith in rw (order, le-leb m n h) (record { inside = p.inside; is = p.is ∙ e })

spread_at : {x y z : ℤ} → InRange x → InRange y → InRange z
    → nat_abs (greatest x y z -ℤ smallest x y z) ≡ spread_of (offset_of x) (offset_of y) (offset_of z)
spread_at {x} {y} {z} p q r =
    let u : At x (offset_of x) = record { inside = p; is = refl } in
    let v : At y (offset_of y) = record { inside = q; is = refl } in
    let w : At z (offset_of z) = record { inside = r; is = refl } in
    let g = greater-at (greater-at u v) w in
    let l = smaller-at (smaller-at u v) w in
    offset_dist g.inside l.inside ∙ ap₂ dist g.is l.is ∙ apart _ _ (least_le (offset_of x) (offset_of y) (offset_of z))
  where
    apart : (high low : ℕ) → low ≤ high → dist high low ≡ high - low
    apart high low h = omega arith

-- ---- the corners

pub record CornersIn (t : Triangle) : Type 0 where
  pub x0_in : InRange t.x0
  pub y0_in : InRange t.y0
  pub x1_in : InRange t.x1
  pub y1_in : InRange t.y1
  pub x2_in : InRange t.x2
  pub y2_in : InRange t.y2

corners_in : (t : Triangle) → off_range (triangle t) ≡ false → CornersIn t
unfolding off_range
corners_in t z =
    let a = or_clear (outside t.x0 || outside t.y0 || outside t.x1 || outside t.y1 || outside t.x2) (outside t.y2) z in
    let b = or_clear (outside t.x0 || outside t.y0 || outside t.x1 || outside t.y1) (outside t.x2) a.0 in
    let c = or_clear (outside t.x0 || outside t.y0 || outside t.x1) (outside t.y1) b.0 in
    let d = or_clear (outside t.x0 || outside t.y0) (outside t.x1) c.0 in
    let e = or_clear (outside t.x0) (outside t.y0) d.0 in
    record { x0_in = in_of e.0; y0_in = in_of e.1; x1_in = in_of d.1; y1_in = in_of c.1; x2_in = in_of b.1; y2_in = in_of a.1 }

-- a corner is out of range where the greatest offset is above the greatest in range
far_corners : (t : Triangle) → off_range (triangle t) ≡ ltb offset_most (farthest (corners_of t))
unfolding off_range
far_corners t = go (lt_or_le offset_most (farthest (corners_of t)))
  where
    some : offset_most < farthest (corners_of t) → (b : Bool) → off_range (triangle t) ≡ b → b ≡ true
    some h true e = refl
    some h false e = absurd (let i = corners_in t e in omega (arith, i.x0_in.less, i.y0_in.less, i.x1_in.less, i.y1_in.less, i.x2_in.less, i.y2_in.less))

    near : (z : ℤ) → offset_of z ≤ offset_most → outside z ≡ false
    near z h = outside_offset z ∙ le-ltb offset_most (offset_of z) h

    go : (offset_most < farthest (corners_of t)) ⊎ (farthest (corners_of t) ≤ offset_most) → off_range (triangle t) ≡ ltb offset_most (farthest (corners_of t))
    go (inl h) = some h (off_range (triangle t)) refl ∙ sym (lt-ltb offset_most (farthest (corners_of t)) h)
    go (inr h) =
        rw (near t.x0 (omega arith), near t.y0 (omega arith), near t.x1 (omega arith), near t.y1 (omega arith), near t.x2 (omega arith), near t.y2 (omega arith))
        (sym (le-ltb offset_most (farthest (corners_of t)) h))

-- (x1 − x0)·(y2 − y0) = (x2 − x0)·(y1 − y0), multiplied out; x0·y0 is on both sides
multiplied : {a b c d : ℤ} (x0 y0 x1 y1 x2 y2 : ℕ) → Diff a x1 x0 → Diff b y2 y0 → Diff c x2 x0 → Diff d y1 y0
    → same (a *ℤ b) (c *ℤ d) ≡ eqb (x0 * y1 + x1 * y2 + x2 * y0) (x1 * y0 + x2 * y1 + x0 * y2)
multiplied x0 y0 x1 y1 x2 y2 a b c d =
    same_by (diff_mul a b) (diff_mul c d) (x0 * y1 + x1 * y2 + x2 * y0) (x1 * y0 + x2 * y1 + x0 * y2) (λ e. omega arith) (λ e. omega arith)

module _ (t : Triangle) (i : CornersIn t) where
  width-at : width t ≡ spread_of (offset_of t.x0) (offset_of t.x1) (offset_of t.x2)
  unfolding width
  width-at = spread_at i.x0_in i.x1_in i.x2_in

  height-at : height t ≡ spread_of (offset_of t.y0) (offset_of t.y1) (offset_of t.y2)
  unfolding height
  height-at = spread_at i.y0_in i.y1_in i.y2_in

  line_at : on_one_line t ≡ straight (corners_of t)
  unfolding on_one_line straight
  line_at =
      multiplied _ _ _ _ _ _ (offset_diff i.x1_in i.x0_in) (offset_diff i.y2_in i.y0_in) (offset_diff i.x2_in i.x0_in) (offset_diff i.y1_in i.y0_in)

ltb-max : (m a b : ℕ) → (ltb m a || ltb m b) ≡ ltb m (max a b)
ltb-max m a b = go (lt_or_le m a) (lt_or_le m b)
  where
    go : (m < a) ⊎ (a ≤ m) → (m < b) ⊎ (b ≤ m) → (ltb m a || ltb m b) ≡ ltb m (max a b)
    go (inl h) k = rw (lt-ltb m a h, lt-ltb m (max a b) (omega arith))
    go (inr h) (inl k) = rw (le-ltb m a h, lt-ltb m b k, lt-ltb m (max a b) (omega arith))
    go (inr h) (inr k) = rw (le-ltb m a h, le-ltb m b k, le-ltb m (max a b) (omega arith))

-- the refusals of a triangle by the offsets of its corners: these tell the range, and in range the rest
pub triangle_refusals : (t : Triangle) (c : Corners) → c ≡ corners_of t
    → shape_refusal (triangle t) ≡ cond (ltb offset_most (farthest c)) 7 (cond (ltb triangle_most (widest c)) 34 (cond (straight c) 35 0))
unfolding refusal_within refusals_of
triangle_refusals t c h = rw (h, ← far_corners t) (go (off_range (triangle t)) refl)
  where
    go : (b : Bool) → off_range (triangle t) ≡ b
        → ◌≡◌ {A = ℕ} (cond b 7 (cond (ltb triangle_most (width t) || ltb triangle_most (height t)) 34 (cond (on_one_line t) 35 0)))
        (cond b 7 (cond (ltb triangle_most (widest (corners_of t))) 34 (cond (straight (corners_of t)) 35 0)))
    go true e = refl
    go false e =
        let i = corners_in t e in
        rw (ltb-max triangle_most (width t) (height t), width-at t i, height-at t i, line_at t i)

-- ---- what a triangle without a refusal has
pub record LawfulTriangle (t : Triangle) : Type 0 where
  pub corners : CornersIn t
  pub x01 : dist (offset_of t.x0) (offset_of t.x1) ≤ triangle_most
  pub x12 : dist (offset_of t.x1) (offset_of t.x2) ≤ triangle_most
  pub x20 : dist (offset_of t.x2) (offset_of t.x0) ≤ triangle_most
  pub y01 : dist (offset_of t.y0) (offset_of t.y1) ≤ triangle_most
  pub y12 : dist (offset_of t.y1) (offset_of t.y2) ≤ triangle_most
  pub y20 : dist (offset_of t.y2) (offset_of t.y0) ≤ triangle_most
  pub bent : straight (corners_of t) ≡ false

pub triangle_lawful : (t : Triangle) → shape_refusal (triangle t) ≡ 0 → LawfulTriangle t
unfolding refusal_within refusals_of
triangle_lawful t z =
    let a = clear (off_range (triangle t)) 6 _ z in
    let b = clear (ltb triangle_most (width t) || ltb triangle_most (height t)) 33 _ a.1 in
    let c = clear (on_one_line t) 34 0 b.1 in
    let d = or_clear (ltb triangle_most (width t)) (ltb triangle_most (height t)) b.0 in
    let i = corners_in t a.0 in
    let x = spread_parts (offset_of t.x0) (offset_of t.x1) (offset_of t.x2) triangle_most (rw (width-at t i) at (ltb-false triangle_most (width t) d.0)) in
    let y = spread_parts (offset_of t.y0) (offset_of t.y1) (offset_of t.y2) triangle_most (rw (height-at t i) at (ltb-false triangle_most (height t) d.1)) in
    record { corners = i; x01 = x.0; x12 = x.1; x20 = x.2; y01 = y.0; y12 = y.1; y20 = y.2; bent = sym (line_at t i) ∙ c.0 }

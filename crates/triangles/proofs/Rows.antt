-- A triangle drawn row by row.
use mathlib.Core.Path.{◌≡◌, sym, ◌∙◌, ap}
use mathlib.Core.Bool.{true, false}
use mathlib.Core.List.{List}
use mathlib.Core.Logic.{⊎_elim}
use Prim.Native.Nat.{ℕ, ◌+◌, ◌*◌, ◌≤◌, ◌<◌}
use native.Mathlib.Nat.{mul-le-mul, mul-le-mul_left, mul-le-mul_right}
use native.Mathlib.Omega.{arith}
use borrow.Author.Tests.{le-leb, lt-leb}
use lib.IntN.{pos}
use Rattle.numbers.specs.inner.Equal.{Equal}
use Rattle.numbers.specs.inner.Offset.{origin}
use Rattle.numbers.specs.inner.Order.{dist}
use Rattle.numbers.proofs.Order.{lt_or_le}
use Rattle.numbers.proofs.Coordinate.{in_range_lem, pixel_in, pixel_offset}
use Rattle.page.specs.inner.Ink.{ink_of}
use Rattle.page.specs.inner.Paint.{clamped, Lawful, DrawnIn}
use Rattle.page.specs.declared.View.{View}
use Rattle.page.proofs.Clamp.{clamped_low, clamped_high, clamped-rises, before-clamped, from_clamped, between-clamped}
use Rattle.page.proofs.Clip.{Inside, Outside, left_of_lem, right_of, above, below, clip_ext, clip_zero, clip_shrink, clip-rows}
use Rattle.page.proofs.Drawn.{drawn-none, drawn_ext, drawn_join}
use Rattle.page.proofs.Same.{drawn-alike, ink_same}
use Rattle.shapes.specs.inner.Offsets.{corners_of}
use Rattle.shapes.specs.declared.Corners.{Corners}
use Rattle.shapes.specs.declared.Triangle.{Triangle}
use Rattle.shapes.specs.declared.Shape.TheVariants.{Triangle as triangle}
use Rattle.limits.proofs.Triangles.{LawfulTriangle}
use Rattle.sides.specs.inner.Offsets.{at, turned, row_n, row_d, between_n, between_d, offset_n, offset_d}
use Rattle.sides.proofs.Sides.{share_le, side_pos}
use Rattle.sides.proofs.Round.{cover_le, cover_pos}
use Rattle.sides.proofs.TwoSides.{rows-below, rows_above, rows-off}
use Rattle.sides.proofs.Placed.{cover_placed, whole-placed}
use Rattle.coverage.specs.Coverage.{rules_of, drawn_d}
use Rattle.coverage.specs.inner.OnPage.{shape_on}
use Rattle.triangles.specs.inner.Side.{left_on, SideFit, SideIs, CutOf}
use Rattle.triangles.specs.inner.Row.{between_of, between_on, beside_on, Alike, RowDrawn, RowsDrawn, Between, Crossed}
use Rattle.triangles.specs.inner.Order.{Sorted}
use Rattle.triangles.specs.declared.side.Side.{Side}
use Rattle.triangles.specs.declared.side.Cut.{Cut}

-- ---- rows that two sides cross
module _ (view : View) (ink : ℕ → ℕ → ℕ) (n : ℕ → ℕ → ℕ) where
  pub rows_none : (from end : ℕ) (l : List ℕ) → end ≤ from → RowsDrawn view ink n from end l l 0
  rows_none from end l h =
      drawn-none view.w view.h ink _ l
      (clip_zero view.x0 from view.x1 end (λ x y. n (x + origin) (y + origin)) (λ x y i. absurd (omega (arith, i.top, i.bottom))))

  pub rows_join : (from middle end : ℕ) {l m k : List ℕ} {t u : ℕ} → from ≤ middle → middle ≤ end
      → RowsDrawn view ink n from middle l m t
      → RowsDrawn view ink n middle end m k u
      → RowsDrawn view ink n from end l k (t + u)
  rows_join from middle end p q =
      drawn_join _ (clip-rows view.x0 from view.x1 end middle (λ x y. n (x + origin) (y + origin)) p q)

  -- a row of the coverage that row y has
  pub row_of : (f : ℕ → ℕ) (y : ℕ) {l m : List ℕ} {t : ℕ} → ((x : ℕ) → f x ≡ n x (y + origin))
      → RowDrawn view ink f y view.x0 view.x1 l m t
      → RowsDrawn view ink n y (y + 1) l m t
  row_of f y same =
      drawn_ext _ (clip_ext view.x0 y view.x1 (y + 1) (λ x _. f (x + origin)) (λ x y. n (x + origin) (y + origin)) here)
    where
      here : (x z : ℕ) → Inside view.x0 y view.x1 (y + 1) x z → f (x + origin) ≡ n (x + origin) (z + origin)
      here x z i = let k : y ≡ z = omega (arith, i.top, i.bottom) in same (x + origin) ∙ ap (λ (j : ℕ). n (x + origin) (j + origin)) k

-- the row between two cuts is that between their sides
pub between_cuts : {s t : Side} {y : ℕ} {a b : Cut} → CutOf s y a → CutOf t y b → (a.d * b.d ≡ s.d * t.d) × ((x : ℕ) → between_of a b x ≡ between_on s t x y)
between_cuts p q = (rw (p.over, q.over), λ x. rw (p.left x, q.left x, p.over, q.over))

pub rows_next : (view : View) (ink : ℕ → ℕ → ℕ) (s t : Side) (from y : ℕ) {a b : Cut} {l m k : List ℕ} {u v : ℕ} → from ≤ y
    → CutOf s (y + origin) a → CutOf t (y + origin) b
    → RowsDrawn view ink (between_on s t) from y l m u
    → RowDrawn view ink (between_of a b) y view.x0 view.x1 m k v
    → RowsDrawn view ink (between_on s t) from (y + 1) l k (u + v)
rows_next view ink s t from y {a} {b} h p q before row =
    rows_join view ink (between_on s t) from y (y + 1) h (omega arith) before
    (row_of view ink (between_on s t) (between_of a b) y (between_cuts p q).1 row)

-- drawn between t and s is drawn between s and t
pub rows_back : {ink : ℕ → ℕ → ℕ} (view : View) (s t : Side) (from end : ℕ) {l m : List ℕ} {u : ℕ}
    → RowsDrawn view ink (between_on t s) from end l m u
    → RowsDrawn view ink (between_on s t) from end l m u
rows_back view s t from end =
    drawn_ext _
    (clip_ext view.x0 from view.x1 end (λ x y. between_on t s (x + origin) (y + origin)) (λ x y. between_on s t (x + origin) (y + origin))
    (λ x y _. same (left_on s (x + origin) (y + origin) * t.d) (left_on t (x + origin) (y + origin) * s.d)))
  where
    same : (a b : ℕ) → dist b a ≡ dist a b
    same a b = omega arith

-- rows from `from` to before y of those that two sides cross
pub record DrawnTo (view : View) (ink : ℕ → ℕ → ℕ) (s t : Side) (from end : ℕ) (page₀ page : List ℕ) (touched y : ℕ) : Type 0 where
  pub least : from ≤ y
  pub most : y ≤ end
  pub drawn : RowsDrawn view ink (between_on s t) from y page₀ page touched

-- rows that lie between two offsets lie between others around them, and where there are some, the offsets differ
pub within : {low high low' high' from end : ℕ} → low' ≤ low → high ≤ high' → Between low high from end → Between low' high' from end
within p q b = record { order = b.order; below = λ y u v. omega (arith, b.below y u v); above = λ y u v. omega (arith, b.above y u v) }

pub between-rises : {low high from end : ℕ} → Between low high from end → from < end → low < high
between-rises {from = from} b h = omega (arith, b.below from (omega arith) h, b.above from (omega arith) h)

-- inks of a level in some lights
pub alike_in : {ink ink' : ℕ → ℕ → ℕ} {d d' e e' : ℕ} (lights : List ℕ) (level : ℕ) → ink ≡ ink_of lights level e → d ≡ e → ink' ≡ ink_of lights level e' → d' ≡ e'
    → Alike ink d ink' d'
alike_in {e = e} {e'} lights level p q p' q' = rw (p, q, p', q') (record { same = ink_same lights level e e' })

-- ---- half a triangle
-- by the side as the code holds it, and by its corners
pub beside : {xa ya xb yb : ℕ} (lights : List ℕ) (level : ℕ) (view : View) (s t : Side) {from end : ℕ} {l m : List ℕ} {u : ℕ} → SideIs xa ya xb yb s → Between ya yb from end
    → RowsDrawn view (ink_of lights level (s.d * t.d)) (between_on s t) from end l m u
    → RowsDrawn view (ink_of lights level (row_d (at xa ya) (at xb yb) * t.d)) (beside_on xa ya xb yb t) from end l m u
beside {xa} {ya} {xb} {yb} lights level view s t {from} {end} i b d =
    drawn_ext _
    (clip_ext view.x0 from view.x1 end
    (λ x y. dist (left_on s (x + origin) (y + origin) * t.d) (left_on t (x + origin) (y + origin) * row_d (at xa ya) (at xb yb)))
    (λ x y. beside_on xa ya xb yb t (x + origin) (y + origin))
    (λ x y k. rw (i.left (x + origin) (y + origin) (b.below y k.top k.bottom) (b.above y k.top k.bottom))))
    (rw (← i.over) at d)

-- rows of the page that a side crosses lie between its ends
pub crossed : {xa ya xb yb : ℕ} {view : View} {s : Side} {from end : ℕ} → SideIs xa ya xb yb s → end ≤ view.h → Between ya yb from end → Crossed view s from end
crossed i h b = record { inside = h; rows = rw (i.last, i.first) b }

pub crosses : {view : View} {s : Side} {from end y : ℕ} → SideFit s → Crossed view s from end → from ≤ y → y < end
    → SideFit s × (s.y ≤ y + origin) × (y + origin < s.y + s.h)
crosses {y = y} fit c p q = (fit, c.rows.below y p q, c.rows.above y p q)

-- the shares of two sides that cross a row are its coverage
module _ (xa ya xb yb xc yc xd yd x y : ℕ) (p : ya ≤ y) (q : y < yb) (r : yc ≤ y) (s : y < yd) where
  left_le : (xa ya xb yb : ℕ) → ya ≤ y → y < yb → row_n (at xa ya) (at xb yb) (pos x) (pos y) ≤ row_d (at xa ya) (at xb yb)
  left_le xa ya xb yb p q = share_le (turned (at xa ya)) (turned (at xb yb)) (pos y) (pos x) (le-leb ya y p) (lt-leb yb y q)

  pub between_le : between_n (at xa ya) (at xb yb) (at xc yc) (at xd yd) (pos x) (pos y) ≤ between_d (at xa ya) (at xb yb) (at xc yc) (at xd yd)
  between_le =
      omega (
        arith,
        mul-le-mul_right (row_d (at xc yc) (at xd yd)) (left_le xa ya xb yb p q),
        mul-le-mul_left (row_d (at xa ya) (at xb yb)) (left_le xc yc xd yd r s),
      )

  pub between-some : 0 < between_d (at xa ya) (at xb yb) (at xc yc) (at xd yd)
  between-some =
      let u : 1 ≤ row_d (at xa ya) (at xb yb) = side_pos (turned (at xa ya)) (turned (at xb yb)) in
      let v : 1 ≤ row_d (at xc yc) (at xd yd) = side_pos (turned (at xc yc)) (turned (at xd yd)) in
      mul-le-mul u v

-- ---- corners in the order in which y rises
module _ (c : Corners) (long : Side) (i : SideIs c.x0 c.y0 c.x2 c.y2 long) (x y : ℕ) where
  -- what is beside the long side, by the corners
  by_corners : (xa ya xb yb : ℕ) → c.y0 ≤ y → y < c.y2
      → (beside_on xa ya xb yb long x y ≡ between_n (at xa ya) (at xb yb) (at c.x0 c.y0) (at c.x2 c.y2) (pos x) (pos y))
      × (row_d (at xa ya) (at xb yb) * long.d ≡ between_d (at xa ya) (at xb yb) (at c.x0 c.y0) (at c.x2 c.y2))
  by_corners xa ya xb yb p q = (rw (i.left x y p q, i.over), rw i.over)

  pub lower_equal : c.y0 ≤ y → y < c.y1 → c.y1 ≤ c.y2
      → Equal (beside_on c.x0 c.y0 c.x1 c.y1 long x y) (row_d (at c.x0 c.y0) (at c.x1 c.y1) * long.d) (offset_n c x y) (offset_d c)
  lower_equal p q o =
      let k = by_corners c.x0 c.y0 c.x1 c.y1 p (omega arith) in
      rw (k.0, k.1)
      (record {
        cross = sym (rows-below (at c.x0 c.y0) (at c.x1 c.y1) (at c.x2 c.y2) (pos x) (pos y) (le-leb c.y0 y p) (lt-leb c.y1 y q) (lt-leb c.y2 y (omega arith)));
        some = between-some c.x0 c.y0 c.x1 c.y1 c.x0 c.y0 c.x2 c.y2 x y p q p (omega arith);
        some' = cover_pos (at c.x0 c.y0) (at c.x1 c.y1) (at c.x2 c.y2);
        part = between_le c.x0 c.y0 c.x1 c.y1 c.x0 c.y0 c.x2 c.y2 x y p q p (omega arith);
        part' = cover_le (at c.x0 c.y0) (at c.x1 c.y1) (at c.x2 c.y2) (pos x) (pos y);
      })

  pub upper_equal : c.y0 ≤ c.y1 → c.y1 ≤ y → y < c.y2
      → Equal (beside_on c.x1 c.y1 c.x2 c.y2 long x y) (row_d (at c.x1 c.y1) (at c.x2 c.y2) * long.d) (offset_n c x y) (offset_d c)
  upper_equal o p q =
      let k = by_corners c.x1 c.y1 c.x2 c.y2 (omega arith) q in
      let f : c.y0 ≤ y = omega arith in
      rw (k.0, k.1)
      (record {
        cross = sym (rows_above (at c.x0 c.y0) (at c.x1 c.y1) (at c.x2 c.y2) (pos x) (pos y) (le-leb c.y0 y f) (le-leb c.y1 y p) (lt-leb c.y2 y q));
        some = between-some c.x1 c.y1 c.x2 c.y2 c.x0 c.y0 c.x2 c.y2 x y p q f q;
        some' = cover_pos (at c.x0 c.y0) (at c.x1 c.y1) (at c.x2 c.y2);
        part = between_le c.x1 c.y1 c.x2 c.y2 c.x0 c.y0 c.x2 c.y2 x y p q f q;
        part' = cover_le (at c.x0 c.y0) (at c.x1 c.y1) (at c.x2 c.y2) (pos x) (pos y);
      })

-- ---- the whole triangle
-- rows of the clip from the offset of one corner to that of another
module _ (view : View) (clip : view.y0 ≤ view.y1) where
  abbrev row_at : ℕ → ℕ
  row_at c = clamped view.y0 view.y1 c

  pub rows-between : (low high : ℕ) {from end : ℕ} → from ≡ row_at low → end ≡ row_at high → low ≤ high → Between low high from end
  rows-between low high e g h =
      rw (e, g)
      (record {
        order = clamped-rises view.y0 view.y1 low high h;
        below = λ y p q. (between-clamped view.y0 view.y1 low high y clip p q).0;
        above = λ y p q. (between-clamped view.y0 view.y1 low high y clip p q).1;
      })

  pub row_in : (c : ℕ) {end : ℕ} → view.y1 ≤ view.h → end ≡ row_at c → end ≤ view.h
  row_in c h e = rw e (omega (arith, clamped_high view.y0 view.y1 c))

  -- corners are not at one height where some rows lie between
  pub rises : (low high : ℕ) {from end : ℕ} → from ≡ row_at low → end ≡ row_at high → from < end → low < high
  rises low high e g h =
      ⊎_elim (λ k. k) (λ (k : high ≤ low). absurd (omega (arith, e, g, clamped-rises view.y0 view.y1 high low k))) (lt_or_le low high)

-- in the ink of a level in some lights
module _ (lights : List ℕ) (level : ℕ) (view : View) (c : Corners) (long : Side) (i : SideIs c.x0 c.y0 c.x2 c.y2 long) (p : c.y0 ≤ c.y1) (q : c.y1 ≤ c.y2) where
  pub lower_half : {from end : ℕ} {l m : List ℕ} {t : ℕ} → Between c.y0 c.y1 from end
      → RowsDrawn view (ink_of lights level (row_d (at c.x0 c.y0) (at c.x1 c.y1) * long.d)) (beside_on c.x0 c.y0 c.x1 c.y1 long) from end l m t
      → RowsDrawn view (ink_of lights level (offset_d c)) (offset_n c) from end l m t
  lower_half {from} {end} b =
      drawn-alike _ _ view.x0 from view.x1 end _ _ _ (λ x y. offset_n c (x + origin) (y + origin)) (ink_same lights level _ _)
      (λ x y k. lower_equal c long i (x + origin) (y + origin) (b.below y k.top k.bottom) (b.above y k.top k.bottom) q)

  pub upper_half : {from end : ℕ} {l m : List ℕ} {t : ℕ} → Between c.y1 c.y2 from end
      → RowsDrawn view (ink_of lights level (row_d (at c.x1 c.y1) (at c.x2 c.y2) * long.d)) (beside_on c.x1 c.y1 c.x2 c.y2 long) from end l m t
      → RowsDrawn view (ink_of lights level (offset_d c)) (offset_n c) from end l m t
  upper_half {from} {end} b =
      drawn-alike _ _ view.x0 from view.x1 end _ _ _ (λ x y. offset_n c (x + origin) (y + origin)) (ink_same lights level _ _)
      (λ x y k. upper_equal c long i (x + origin) (y + origin) p (b.below y k.top k.bottom) (b.above y k.top k.bottom))

-- rows that the triangle does not meet have nothing
module _ (c : Corners) (p : c.y0 ≤ c.y1) (q : c.y1 ≤ c.y2) (x y : ℕ) where
  off-below : y < c.y0 → offset_n c x y ≡ 0
  off-below h =
      rows-off (at c.x0 c.y0) (at c.x1 c.y1) (at c.x2 c.y2) (pos x) (pos y) false
      (lt-leb c.y0 y h) (lt-leb c.y1 y (omega arith)) (lt-leb c.y2 y (omega arith))

  off-above : c.y2 ≤ y → offset_n c x y ≡ 0
  off-above h =
      rows-off (at c.x0 c.y0) (at c.x1 c.y1) (at c.x2 c.y2) (pos x) (pos y) true
      (le-leb c.y0 y (omega arith)) (le-leb c.y1 y (omega arith)) (le-leb c.y2 y h)

-- its rows drawn, the triangle is
pub whole-drawn : (lights : List ℕ) (level : ℕ) (view : View) {size : ℕ} (t : Triangle) (r c : Corners) {from end : ℕ} {l m : List ℕ} {n : ℕ}
    → Lawful view size → LawfulTriangle t → r ≡ corners_of t → Sorted r c
    → from ≡ clamped view.y0 view.y1 c.y0 → end ≡ clamped view.y0 view.y1 c.y2
    → RowsDrawn view (ink_of lights level (offset_d c)) (offset_n c) from end l m n
    → DrawnIn view (ink_of lights level (drawn_d (triangle t))) (shape_on (triangle t)) l m n
unfolding rules_of
whole-drawn lights level view t r c {from} {end} law lawful er o ef ee d =
    drawn_ext _ (clip_ext view.x0 view.y0 view.x1 view.y1 (λ x y. offset_n c (x + origin) (y + origin)) (shape_on (triangle t)) pixel)
    (drawn_ext _
    (clip_shrink view.x0 view.y0 view.x1 view.y1 view.x0 from view.x1 end (λ x y. offset_n c (x + origin) (y + origin))
    (omega arith) (rw ef (clamped_low view.y0 view.y1 c.y0 law.y-order)) (omega arith) (rw ee (clamped_high view.y0 view.y1 c.y2)) nothing)
    (rw whole at d))
  where
    whole : offset_d c ≡ drawn_d (triangle t)
    whole = o.reordered.over ∙ rw er (sym (whole-placed t lawful))

    at_pixel : (x y : ℕ) → x ≤ 4095 → y ≤ 4095 → offset_n c (x + origin) (y + origin) ≡ shape_on (triangle t) x y
    at_pixel x y h k =
        o.reordered.same (x + origin) (y + origin)
        ∙ rw (er, ← pixel_offset x h, ← pixel_offset y k) (sym (cover_placed t lawful (in_range_lem (pos x) (pixel_in x h)) (in_range_lem (pos y) (pixel_in y k))))

    pixel : (x y : ℕ) → Inside view.x0 view.y0 view.x1 view.y1 x y → offset_n c (x + origin) (y + origin) ≡ shape_on (triangle t) x y
    pixel x y i = at_pixel x y (omega (arith, i.right, law.x-most, law.w-most)) (omega (arith, i.bottom, law.y-most, law.h-most))

    nothing : (x y : ℕ) → Inside view.x0 view.y0 view.x1 view.y1 x y → Outside view.x0 from view.x1 end x y
        → offset_n c (x + origin) (y + origin) ≡ 0
    nothing x y i (left_of_lem h) = absurd (omega (arith, i.left))
    nothing x y i (right_of h) = absurd (omega (arith, i.right))
    nothing x y i (above h) = off-below c o.first o.last (x + origin) (y + origin) (before-clamped view.y0 view.y1 c.y0 y i.top (rw ef at h))
    nothing x y i (below h) = off-above c o.first o.last (x + origin) (y + origin) (from_clamped view.y0 view.y1 c.y2 y i.bottom (rw ee at h))

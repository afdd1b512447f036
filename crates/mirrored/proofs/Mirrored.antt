-- Laws of the two sides of a row and of the four quarters of a ring.
use Rattle.std.proofs.Common.{◌≡◌, ℕ, ◌+◌, ◌-◌, ◌≤◌, ◌<◌, ◌⊎◌, inl, inr, ⊎_elim, List, sym, ◌∙◌, arith}
use Rattle.numbers.specs.inner.Offset.{origin}
use Rattle.numbers.proofs.Order.{lt_or_le, eq_or_ne}
use Rattle.page.specs.inner.Paint.{clipped}
use Rattle.page.specs.declared.View.{View}
use Rattle.page.proofs.Clip.{Inside, Outside, left_of_lem, right_of, above, below, in_or_out, clip_in, clip_out, clip_shrink, clip_zero, Either, Join, clip-columns, clip-rows}
use Rattle.page.proofs.Drawn.{drawn_ext}
use Rattle.chords.specs.inner.Circle.{apart}
use Rattle.rings.specs.inner.Placed.{around, cover_on, RingDrawn}
use Rattle.rings.specs.inner.Circles.{cover, Measured}
use Rattle.mirrored.specs.inner.Mirrored.{Sides, row_sides, cover_in, SidesDrawn, FilledSides, Quarters, Enclosed, QuartersDrawn}
use Rattle.rings.specs.declared.Circles.{Circles}
use Rattle.rings.specs.declared.Ring.{Ring}
use Rattle.rings.specs.declared.Widths.{Widths}
use Rattle.rings.proofs.Chords.{between_far}

-- parts in the other order
pub join_swap : {n₁ n₂ n : ℕ → ℕ → ℕ} → Join n₁ n₂ n → Join n₂ n₁ n
join_swap j x y = ⊎_elim inr inl (j x y)

-- ---- a row by distances from the centre's column

-- cut at distance a
pub sides_cut : (ring : Ring) (n : ℕ → ℕ → ℕ) (y p q a : ℕ) → p ≤ a → a ≤ q → Join (row_sides ring n y p a) (row_sides ring n y a q) (row_sides ring n y p q)
sides_cut ring n y p q a h k x z = clip-columns p y q (y + 1) a n h k (apart ring.cx (x + origin)) z

-- nothing lies between a distance and itself
pub sides_none : (ring : Ring) (n : ℕ → ℕ → ℕ) (y p : ℕ) (x z : ℕ) → row_sides ring n y p p x z ≡ 0
sides_none ring n y p x z = clip_zero p y p (y + 1) n (λ a b i. absurd (omega arith)) (apart ring.cx (x + origin)) z

-- p to q away from the centre is whole: the columns on the left, and those on the right
module _ (ring : Ring) (n : ℕ → ℕ → ℕ) (y p q d : ℕ) (whole : (a : ℕ) → p ≤ a → a < q → n a y ≡ d) (order : p ≤ q) (reach : q + origin ≤ ring.cx) where
  abbrev middle : ℕ
  middle = ring.cx - origin

  abbrev filled : ℕ → ℕ → ℕ → ℕ → ℕ
  filled a b = clipped a y b (y + 1) (λ _ _. d)

  -- a pixel of the row p to q away, and any other
  within : (x z : ℕ) → p ≤ apart ring.cx (x + origin) → apart ring.cx (x + origin) < q → z ≡ y → row_sides ring n y p q x z ≡ d
  within x z h k e = rw e (clip_in p y q (y + 1) n _ y (omega arith) ∙ whole _ h k)

  pub filled_sides : Join (filled (middle - q) (middle - p)) (filled (middle + p) (middle + q)) (row_sides ring n y p q)
  filled_sides x z = go (in_or_out (middle - q) y (middle - p) (y + 1) x z) (in_or_out (middle + p) y (middle + q) (y + 1) x z)
    where
      none : Outside (middle - q) y (middle - p) (y + 1) x z → Outside (middle + p) y (middle + q) (y + 1) x z
          → Outside p y q (y + 1) (apart ring.cx (x + origin)) z
      none (above h) _ = above h
      none (below h) _ = below h
      none (left_of_lem h) _ = right_of (omega arith)
      none (right_of h) (left_of_lem k) = left_of_lem (omega arith)
      none (right_of h) (right_of k) = right_of (omega arith)
      none (right_of h) (above k) = above k
      none (right_of h) (below k) = below k

      go : Inside (middle - q) y (middle - p) (y + 1) x z ⊎ Outside (middle - q) y (middle - p) (y + 1) x z
          → Inside (middle + p) y (middle + q) (y + 1) x z ⊎ Outside (middle + p) y (middle + q) (y + 1) x z
          → Either (filled (middle - q) (middle - p) x z) (filled (middle + p) (middle + q) x z) (row_sides ring n y p q x z)
      go (inl i) k = inr (clip_out _ y _ (y + 1) _ x z (left_of_lem (omega arith)), clip_in _ y _ (y + 1) _ x z i ∙ sym (within x z (omega arith) (omega arith) (omega arith)))
      go (inr o) (inl i) = inl (clip_out _ y _ (y + 1) _ x z o, clip_in _ y _ (y + 1) _ x z i ∙ sym (within x z (omega arith) (omega arith) (omega arith)))
      go (inr o) (inr k) = inl (clip_out _ y _ (y + 1) _ x z o, clip_out _ y _ (y + 1) _ x z k ∙ sym (clip_out p y q (y + 1) n _ z (none o k)))

  -- from the centre on they are one stretch
  pub filled-middle : p ≡ 0 → (x z : ℕ) → filled (middle - q) (middle + q) x z ≡ row_sides ring n y p q x z
  filled-middle e x z = ⊎_elim inside outside (in_or_out (middle - q) y (middle + q) (y + 1) x z)
    where
      inside : Inside (middle - q) y (middle + q) (y + 1) x z → filled (middle - q) (middle + q) x z ≡ row_sides ring n y p q x z
      inside i = clip_in _ y _ (y + 1) _ x z i ∙ sym (within x z (omega arith) (omega arith) (omega arith))

      far : Outside (middle - q) y (middle + q) (y + 1) x z → Outside p y q (y + 1) (apart ring.cx (x + origin)) z
      far (above h) = above h
      far (below h) = below h
      far (left_of_lem h) = right_of (omega arith)
      far (right_of h) = right_of (omega arith)

      outside : Outside (middle - q) y (middle + q) (y + 1) x z → filled (middle - q) (middle + q) x z ≡ row_sides ring n y p q x z
      outside o = clip_out _ y _ (y + 1) _ x z o ∙ sym (clip_out p y q (y + 1) n _ z (far o))

-- a row that is drawn p to q away from the centre's column is drawn in the clip, if nothing of it lies nearer or further
pub sides_row : {view : View} {ink : ℕ → ℕ → ℕ} {l m : List ℕ} {t : ℕ} (circles : Circles) (y p q : ℕ) → Sides view circles.ring y q
    → ((a : ℕ) → a < p → cover_in circles a y ≡ 0)
    → ((a : ℕ) → q ≤ a → cover_in circles a y ≡ 0)
    → SidesDrawn ink view circles y p q l m t
    → RingDrawn ink view circles view.x0 y view.x1 (y + 1) l m t
sides_row {view} circles y p q sides near far = drawn_ext (clipped view.x0 y view.x1 (y + 1) (cover_on circles)) same
  where
    inside : (x z : ℕ) → Inside view.x0 y view.x1 (y + 1) x z → row_sides circles.ring (cover_in circles) y p q x z ≡ cover_on circles x z
    inside x z i =
        let a = apart circles.ring.cx (x + origin) in
        let e : y ≡ z = omega arith in
        ⊎_elim
        (λ h. clip_out p y q (y + 1) _ a z (left_of_lem h) ∙ sym (rw e at (near a h)))
        (λ h. ⊎_elim
        (λ k. clip_in p y q (y + 1) _ a z (omega arith))
        (λ k. clip_out p y q (y + 1) _ a z (right_of k) ∙ sym (rw e at (far a k)))
        (lt_or_le a q))
        (lt_or_le a p)

    beyond : (x z : ℕ) → Outside view.x0 y view.x1 (y + 1) x z → Outside p y q (y + 1) (apart circles.ring.cx (x + origin)) z
    beyond x z (above h) = above h
    beyond x z (below h) = below h
    beyond x z (left_of_lem h) = right_of (omega (arith, sides.left))
    beyond x z (right_of h) = right_of (omega (arith, sides.right))

    same : (x z : ℕ) → row_sides circles.ring (cover_in circles) y p q x z ≡ clipped view.x0 y view.x1 (y + 1) (cover_on circles) x z
    same x z =
        ⊎_elim
        (λ i. inside x z i ∙ sym (clip_in _ y _ (y + 1) (cover_on circles) x z i))
        (λ o. clip_out p y q (y + 1) _ _ z (beyond x z o) ∙ sym (clip_out _ y _ (y + 1) (cover_on circles) x z o))
        (in_or_out view.x0 y view.x1 (y + 1) x z)

-- the whole part of a measured row, filled, is drawn
pub filled-drawn : {ink : ℕ → ℕ → ℕ} {d t b : ℕ} {l m : List ℕ} {row : Widths} (view : View) (circles : Circles) (y : ℕ) → d ≡ 512 → b ≡ apart circles.ring.cy (y + origin)
    → Measured circles b row
    → FilledSides ink d view circles.ring y row.inner row.whole l m t
    → SidesDrawn ink view circles y row.inner row.whole l m t
filled-drawn view circles y whole e m f = f (cover_in circles) (rw whole (rw e at m).whole-all)

-- ---- the two rows at one distance

pub lower-at : {view : View} {ring : Ring} {b y z d : ℕ} → Quarters view ring b y z d → b ≡ apart ring.cy (y + origin)
lower-at rows = omega (arith, rows.lower-is)

pub upper-at : {view : View} {ring : Ring} {b y z d : ℕ} → Quarters view ring b y z d → b ≡ apart ring.cy (z + origin)
upper-at rows = omega (arith, rows.upper_is)

module _ {view : View} {ring : Ring} (n : ℕ → ℕ → ℕ) {b y z d : ℕ} (rows : Quarters view ring b y z d) (p q : ℕ) where
  -- by the distance from the centre's column, and by the row
  abbrev rowed : ℕ → ℕ → ℕ
  rowed a r = n a (apart ring.cy (r + origin))

  -- row r, which is at distance b
  in_row : (a r : ℕ) → apart ring.cy (r + origin) ≡ b → clipped p r q (r + 1) rowed a r ≡ clipped p b q (b + 1) n a (apart ring.cy (r + origin))
  in_row a r is = ⊎_elim inside outside (in_or_out p r q (r + 1) a r)
    where
      inside : Inside p r q (r + 1) a r → clipped p r q (r + 1) rowed a r ≡ clipped p b q (b + 1) n a (apart ring.cy (r + origin))
      inside i = clip_in p r q (r + 1) rowed a r i ∙ sym (clip_in p b q (b + 1) n a _ (omega arith))

      far : Outside p r q (r + 1) a r → Outside p b q (b + 1) a (apart ring.cy (r + origin))
      far (left_of_lem h) = left_of_lem h
      far (right_of h) = right_of h
      far (above h) = absurd (omega arith)
      far (below h) = absurd (omega arith)

      outside : Outside p r q (r + 1) a r → clipped p r q (r + 1) rowed a r ≡ clipped p b q (b + 1) n a (apart ring.cy (r + origin))
      outside o = clip_out p r q (r + 1) rowed a r o ∙ sym (clip_out p b q (b + 1) n a _ (far o))

  -- another row has nothing of row k
  other_row : (a r k : ℕ) → (r ≡ k → ⊥) → clipped p k q (k + 1) rowed a r ≡ 0
  other_row a r k ne = clip_out p k q (k + 1) rowed a r (⊎_elim above (λ h. below (omega arith)) (lt_or_le r k))

  pub rows_join : Join (row_sides ring rowed y p q) (row_sides ring rowed z p q) (around ring (clipped p b q (b + 1) n))
  rows_join x r = go (eq_or_ne r y) (eq_or_ne r z)
    where
      go : (r ≡ y) ⊎ (r ≡ y → ⊥) → (r ≡ z) ⊎ (r ≡ z → ⊥)
          → Either (row_sides ring rowed y p q x r) (row_sides ring rowed z p q x r) (around ring (clipped p b q (b + 1) n) x r)
      go (inl e) _ =
          let a = apart ring.cx (x + origin) in
          inr (
            other_row a r z (λ f. omega (arith, rows.lower-is, rows.upper_is)),
            rw e (in_row a y (sym (lower-at rows))),
          )
      go (inr e) (inl f) =
          let a = apart ring.cx (x + origin) in
          inl (other_row a r y e, rw f (in_row a z (sym (upper-at rows))))
      go (inr e) (inr f) =
          let a = apart ring.cx (x + origin) in
          inl (other_row a r y e, other_row a r z f ∙ sym (clip_out p b q (b + 1) n a _ (off (lt_or_le (apart ring.cy (r + origin)) b))))
        where
          off : (apart ring.cy (r + origin) < b) ⊎ (b ≤ apart ring.cy (r + origin))
              → Outside p b q (b + 1) (apart ring.cx (x + origin)) (apart ring.cy (r + origin))
          off (inl h) = above h
          off (inr h) = below (⊎_elim (λ is. absurd (mirror is (lt_or_le (r + origin) ring.cy))) (λ ne. omega arith) (eq_or_ne (apart ring.cy (r + origin)) b))
            where
              mirror : apart ring.cy (r + origin) ≡ b → (r + origin < ring.cy) ⊎ (ring.cy ≤ r + origin) → ⊥
              mirror is (inl k) = f (omega (arith, rows.upper_is))
              mirror is (inr k) = e (omega (arith, rows.lower-is))

-- ---- a ring by both distances

-- cut at distance a from the centre's column, or from its row
pub quarters_cut : (ring : Ring) (n : ℕ → ℕ → ℕ) (p b q c a : ℕ) → p ≤ a → a ≤ q
    → Join (around ring (clipped p b a c n)) (around ring (clipped a b q c n)) (around ring (clipped p b q c n))
quarters_cut ring n p b q c a h k x y = clip-columns p b q c a n h k (apart ring.cx (x + origin)) (apart ring.cy (y + origin))

pub quarters_more : (ring : Ring) (n : ℕ → ℕ → ℕ) (p b q c a : ℕ) → b ≤ a → a ≤ c
    → Join (around ring (clipped p b q a n)) (around ring (clipped p a q c n)) (around ring (clipped p b q c n))
quarters_more ring n p b q c a h k x y = clip-rows p b q c a n h k (apart ring.cx (x + origin)) (apart ring.cy (y + origin))

pub quarters_none : (ring : Ring) (n : ℕ → ℕ → ℕ) (p b q c : ℕ) → (q ≤ p) ⊎ (c ≤ b) → (x y : ℕ) → around ring (clipped p b q c n) x y ≡ 0
quarters_none ring n p b q c e x y = clip_zero p b q c n (none e) (apart ring.cx (x + origin)) (apart ring.cy (y + origin))
  where
    none : (q ≤ p) ⊎ (c ≤ b) → (u v : ℕ) → Inside p b q c u v → n u v ≡ 0
    none (inl h) u v i = absurd (omega arith)
    none (inr h) u v i = absurd (omega arith)

-- the rows at distance b, drawn p to q away, if nothing of them lies nearer or further
pub quarters_row : {ink : ℕ → ℕ → ℕ} {l m : List ℕ} {t : ℕ} (view : View) (circles : Circles) (b p q R : ℕ) → q ≤ R
    → ((a : ℕ) → a < p → cover circles a b ≡ 0)
    → ((a : ℕ) → q ≤ a → cover circles a b ≡ 0)
    → QuartersDrawn ink view circles p b q (b + 1) l m t
    → QuartersDrawn ink view circles 0 b R (b + 1) l m t
quarters_row view circles b p q R h near far =
    drawn_ext (around circles.ring (clipped 0 b R (b + 1) (cover circles)))
    (λ x y. clip_shrink 0 b R (b + 1) p b q (b + 1) (cover circles) (omega arith) (omega arith) h (omega arith) none (apart circles.ring.cx (x + origin)) (apart circles.ring.cy (y + origin)))
  where
    none : (u v : ℕ) → Inside 0 b R (b + 1) u v → Outside p b q (b + 1) u v → cover circles u v ≡ 0
    none u v i (left_of_lem k) = let e : b ≡ v = omega arith in rw e at (near u k)
    none u v i (right_of k) = let e : b ≡ v = omega arith in rw e at (far u k)
    none u v i (above k) = absurd (omega arith)
    none u v i (below k) = absurd (omega arith)

-- a ring that the clip has whole
pub enclosed_drawn : {view : View} {ink : ℕ → ℕ → ℕ} {l m : List ℕ} {t : ℕ} (circles : Circles) → Enclosed view circles.ring
    → QuartersDrawn ink view circles 0 0 circles.ring.radius circles.ring.radius l m t
    → RingDrawn ink view circles view.x0 view.y0 view.x1 view.y1 l m t
enclosed_drawn {view} circles inside = drawn_ext (clipped view.x0 view.y0 view.x1 view.y1 (cover_on circles)) same
  where
    -- nothing is covered from the radius on
    none : (x y : ℕ) → Outside 0 0 circles.ring.radius circles.ring.radius (apart circles.ring.cx (x + origin)) (apart circles.ring.cy (y + origin))
        → cover_on circles x y ≡ 0
    none x y (left_of_lem h) = absurd (omega arith)
    none x y (right_of h) = between_far circles.nested.outer _ _ _ (inl h)
    none x y (above h) = absurd (omega arith)
    none x y (below h) = between_far circles.nested.outer _ _ _ (inr h)

    beyond : (x y : ℕ) → Outside view.x0 view.y0 view.x1 view.y1 x y
        → Outside 0 0 circles.ring.radius circles.ring.radius (apart circles.ring.cx (x + origin)) (apart circles.ring.cy (y + origin))
    beyond x y (left_of_lem h) = right_of (omega (arith, inside.left))
    beyond x y (right_of h) = right_of (omega (arith, inside.right))
    beyond x y (above h) = below (omega (arith, inside.top))
    beyond x y (below h) = below (omega (arith, inside.bottom))

    within : (x y : ℕ) → Inside view.x0 view.y0 view.x1 view.y1 x y
        → around circles.ring (clipped 0 0 circles.ring.radius circles.ring.radius (cover circles)) x y ≡ cover_on circles x y
    within x y i =
        ⊎_elim
        (clip_in 0 0 circles.ring.radius circles.ring.radius (cover circles) _ _)
        (λ o. clip_out 0 0 circles.ring.radius circles.ring.radius (cover circles) _ _ o ∙ sym (none x y o))
        (in_or_out 0 0 circles.ring.radius circles.ring.radius (apart circles.ring.cx (x + origin)) (apart circles.ring.cy (y + origin)))

    same : (x y : ℕ) → around circles.ring (clipped 0 0 circles.ring.radius circles.ring.radius (cover circles)) x y
        ≡ clipped view.x0 view.y0 view.x1 view.y1 (cover_on circles) x y
    same x y =
        ⊎_elim
        (λ i. within x y i ∙ sym (clip_in _ _ _ _ (cover_on circles) x y i))
        (λ o. clip_out 0 0 circles.ring.radius circles.ring.radius (cover circles) _ _ (beyond x y o) ∙ sym (clip_out _ _ _ _ (cover_on circles) x y o))
        (in_or_out view.x0 view.y0 view.x1 view.y1 x y)

-- Laws of pairs of pixels that mirror each other about the centre's column, and of loops over their distances.
use Rattle.std.proofs.Common.{◌≡◌, ℕ, ◌+◌, ◌-◌, ◌*◌, ◌≤◌, ◌<◌, ◌⊎◌, inl, inr, ⊎_elim, List, length, sym, ap, ap₂, ◌∙◌, arith}
use Rattle.numbers.specs.inner.Offset.{origin}
use Rattle.numbers.proofs.Order.{lt_or_le, eq_or_ne}
use Rattle.page.specs.inner.Paint.{touch, clipped, Lawful, Drawn}
use Rattle.page.specs.declared.View.{View}
use Rattle.page.proofs.Clip.{Inside, Outside, left_of_lem, right_of, above, below, in_or_out, clip_in, clip_out, clip_ext, Either, Join}
use Rattle.page.proofs.Drawn.{drawn-none, drawn_ext, drawn_join, drawn_one, drawn-length}
use Rattle.chords.specs.inner.Circle.{apart}
use Rattle.rings.specs.inner.Circles.{cover}
use Rattle.rings.specs.inner.Placed.{around}
use Rattle.rings.specs.declared.Circles.{Circles}
use Rattle.mirrored.specs.inner.Mirrored.{dotted, paired, Sides, row_sides, cover_in, Quarters}
use Rattle.rings.specs.declared.Ring.{Ring}
use Rattle.mirrored.proofs.Mirrored.{sides_cut, sides_none, lower-at, upper-at, rows_join, quarters_cut, quarters_none}

-- ---- the two pixels of a row at one distance

module _ {view : View} {size : ℕ} {ring : Ring} (law : Lawful view size) (n : ℕ → ℕ → ℕ) (y a : ℕ) (sides : Sides view ring y (a + 1)) where
  -- the column of the centre, and those of the two pixels
  abbrev c : ℕ
  c = ring.cx - origin

  abbrev right : ℕ
  right = c + a

  abbrev left : ℕ
  left = c - a - 1

  -- one of the two
  abbrev one : ℕ → ℕ → ℕ → ℕ
  one x = clipped x y (x + 1) (y + 1) (λ _ _. n a y)

  one_is : (x : ℕ) → one x x y ≡ n a y
  one_is x = clip_in x y (x + 1) (y + 1) (λ _ _. n a y) x y (omega arith)

  one_drawn : (ink : ℕ → ℕ → ℕ) (x : ℕ) (l : List ℕ) → x < view.w → size ≡ length l
      → Drawn view.w view.h ink (one x) l (dotted ink (n a y) (y * view.w + x) l) (touch (n a y))
  one_drawn ink x l h e =
      rw (one_is x) at
      (drawn_one view.w view.h ink x y (one x) l h (omega (arith, sides.row.1, law.y-most)) (omega (arith, law.room))
      (λ x' y' ne. clip_out x y (x + 1) (y + 1) _ x' y' (other x' y' ne (lt_or_le x' x) (lt_or_le x x') (lt_or_le y' y))))
    where
      other : (x' y' : ℕ) → ((x' ≡ x) × (y' ≡ y) → ⊥) → (x' < x) ⊎ (x ≤ x') → (x < x') ⊎ (x' ≤ x) → (y' < y) ⊎ (y ≤ y')
          → Outside x y (x + 1) (y + 1) x' y'
      other x' y' ne (inl h) _ _ = left_of_lem h
      other x' y' ne (inr h) (inl k) _ = right_of (omega arith)
      other x' y' ne (inr h) (inr k) (inl q) = above q
      other x' y' ne (inr h) (inr k) (inr q) = below (later (eq_or_ne y' y))
        where
          later : (y' ≡ y) ⊎ (y' ≡ y → ⊥) → y + 1 ≤ y'
          later (inl e) = absurd (ne (omega arith, e))
          later (inr d) = omega arith

  -- a pixel at distance a is one of the two
  mirror_of : (x : ℕ) → apart ring.cx (x + origin) ≡ a → (x ≡ right) ⊎ (x ≡ left)
  mirror_of x e = ⊎_elim (λ h. inr (omega arith)) (λ h. inl (omega arith)) (lt_or_le (x + origin) ring.cx)

  -- a pixel of the row at distance a
  here : (x z : ℕ) → apart ring.cx (x + origin) ≡ a → z ≡ y → row_sides ring n y a (a + 1) x z ≡ n a y
  here x z e f = rw (e, f) (clip_in a y (a + 1) (y + 1) n a y (omega arith))

  -- and one that is none of the two
  elsewhere : (x z : ℕ) → Outside right y (right + 1) (y + 1) x z → Outside left y (left + 1) (y + 1) x z → row_sides ring n y a (a + 1) x z ≡ 0
  elsewhere x z o p =
      let d = apart ring.cx (x + origin) in
      clip_out a y (a + 1) (y + 1) n d z (none (lt_or_le z y) (lt_or_le y z) (lt_or_le d a) (lt_or_le a d))
    where
      column : (k : ℕ) → Outside k y (k + 1) (y + 1) x z → z ≡ y → (x ≡ k → ⊥)
      column k (left_of_lem h) e f = omega arith
      column k (right_of h) e f = omega arith
      column k (above h) e f = omega arith
      column k (below h) e f = omega arith

      none : (z < y) ⊎ (y ≤ z) → (y < z) ⊎ (z ≤ y) → (apart ring.cx (x + origin) < a) ⊎ (a ≤ apart ring.cx (x + origin))
          → (a < apart ring.cx (x + origin)) ⊎ (apart ring.cx (x + origin) ≤ a)
          → Outside a y (a + 1) (y + 1) (apart ring.cx (x + origin)) z
      none (inl h) _ _ _ = above h
      none (inr h) (inl k) _ _ = below (omega arith)
      none (inr h) (inr k) (inl p) _ = left_of_lem p
      none (inr h) (inr k) (inr p) (inl q) = right_of (omega arith)
      none (inr h) (inr k) (inr p') (inr q) =
          let e : z ≡ y = omega arith in
          absurd (⊎_elim (column right o e) (column left p e) (mirror_of x (omega arith)))

  -- they make up what lies at distance a
  both : Join (one right) (one left) (row_sides ring n y a (a + 1))
  both x z = go (in_or_out right y (right + 1) (y + 1) x z) (in_or_out left y (left + 1) (y + 1) x z)
    where
      go : Inside right y (right + 1) (y + 1) x z ⊎ Outside right y (right + 1) (y + 1) x z
          → Inside left y (left + 1) (y + 1) x z ⊎ Outside left y (left + 1) (y + 1) x z
          → Either (one right x z) (one left x z) (row_sides ring n y a (a + 1) x z)
      go (inl i) k =
          inr (
            clip_out left y (left + 1) (y + 1) _ x z (right_of (omega (arith, sides.left))),
            clip_in right y (right + 1) (y + 1) _ x z i ∙ sym (here x z (omega (arith, sides.left)) (omega arith)),
          )
      go (inr o) (inl i) =
          inl (
            clip_out right y (right + 1) (y + 1) _ x z o,
            clip_in left y (left + 1) (y + 1) _ x z i ∙ sym (here x z (omega (arith, sides.left)) (omega arith)),
          )
      go (inr o) (inr p) = inl (clip_out right y (right + 1) (y + 1) _ x z o, clip_out left y (left + 1) (y + 1) _ x z p ∙ sym (elsewhere x z o p))

  -- one after the other is drawn
  pub pair_drawn : (ink : ℕ → ℕ → ℕ) (l : List ℕ) → size ≡ length l
      → Drawn view.w view.h ink (row_sides ring n y a (a + 1)) l
      (paired ink (n a y) (y * view.w + c + a) (y * view.w + c - a - 1) l) (2 * touch (n a y))
  pair_drawn ink l e =
      let k : y * view.w + c + a ≡ y * view.w + right = omega arith in
      let j : y * view.w + c - a - 1 ≡ y * view.w + left = omega (arith, sides.left) in
      let first = one_drawn ink right l (omega (arith, sides.right, law.x-most)) e in
      let second = one_drawn ink left (dotted ink (n a y) (y * view.w + right) l) (omega (arith, sides.right, law.x-most)) (e ∙ sym (drawn-length first)) in
      let t : touch (n a y) + touch (n a y) ≡ 2 * touch (n a y) = omega arith in
      rw (k, j, ← t) (drawn_join (row_sides ring n y a (a + 1)) both first second)

-- the two pixels at distance a have the same coverage
pub pair_same : {w h t : ℕ} {ink : ℕ → ℕ → ℕ} {l m : List ℕ} (ring : Ring) (f : ℕ → ℕ → ℕ) (y a n : ℕ) → n ≡ f a y
    → Drawn w h ink (row_sides ring (λ _ _. n) y a (a + 1)) l m t
    → Drawn w h ink (row_sides ring f y a (a + 1)) l m t
pair_same ring f y a n e =
    drawn_ext (row_sides ring f y a (a + 1)) (λ x z. clip_ext a y (a + 1) (y + 1) (λ _ _. n) f same (apart ring.cx (x + origin)) z)
  where
    same : (u v : ℕ) → Inside a y (a + 1) (y + 1) u v → n ≡ f u v
    same u v i = e ∙ ap₂ f (omega arith) (omega arith)

-- ---- a loop over distances

-- the loop has come to a: part a, what lies from to a away, is drawn, k pixels for each distance that is touched
pub record DrawnTo (view : View) (ink : ℕ → ℕ → ℕ) (part : ℕ → ℕ → ℕ → ℕ) (k from end : ℕ) (l m : List ℕ) (touched a : ℕ) : Type 0 where
  pub least : from ≤ a
  pub most : a ≤ end
  pub few : touched + from ≤ a
  pub drawn : Drawn view.w view.h ink (part a) l m (k * touched)

module _ {view : View} {ink : ℕ → ℕ → ℕ} {part : ℕ → ℕ → ℕ → ℕ} {k from end : ℕ} {l : List ℕ} where
  -- at the first distance
  loop_start : from ≤ end → ((x y : ℕ) → part from x y ≡ 0) → DrawnTo view ink part k from end l l 0 from
  loop_start h none =
      let zero_times : 0 ≡ k * 0 = omega arith in
      record { least = omega arith; most = h; few = omega arith; drawn = rw (← zero_times) (drawn-none _ _ _ _ l none) }

  -- a turn: of what lies at distance a, k pixels are touched or none
  loop_turn : {m p : List ℕ} {touched a : ℕ} (new : ℕ → ℕ → ℕ) (t : ℕ) → a < end → DrawnTo view ink part k from end l m touched a
      → Join (part a) new (part (a + 1))
      → t ≤ 1
      → Drawn view.w view.h ink new m p (k * t)
      → DrawnTo view ink part k from end l p (touched + t) (a + 1)
  loop_turn {touched = touched} {a} new t h done join few drawn =
      let count : k * touched + k * t ≡ k * (touched + t) = omega arith in
      record {
        least = omega (arith, done.least);
        most = omega arith;
        few = omega (arith, done.few);
        drawn = rw (← count) (drawn_join (part (a + 1)) join done.drawn drawn);
      }

-- ---- on both sides of a row

-- what of row y lies from to a away is drawn
abbrev pub SidesTo : (ℕ → ℕ → ℕ) → View → Circles → ℕ → ℕ → ℕ → List ℕ → List ℕ → ℕ → ℕ → Type 0
SidesTo ink view circles y from end = DrawnTo view ink (row_sides circles.ring (cover_in circles) y from) 2 from end

module _ {ink : ℕ → ℕ → ℕ} {view : View} (circles : Circles) (y from end : ℕ) {l : List ℕ} where
  -- at the first distance
  pub sides_start : from ≤ end → SidesTo ink view circles y from end l l 0 from
  sides_start h = loop_start h (sides_none circles.ring (cover_in circles) y from)

  -- a turn: the pair at distance a is drawn
  pub sides_turn : {m p : List ℕ} {b touched a n t : ℕ} → b ≡ apart circles.ring.cy (y + origin) → a < end
      → SidesTo ink view circles y from end l m touched a
      → n ≡ cover circles a b
      → t ≡ touch n
      → Drawn view.w view.h ink (row_sides circles.ring (λ _ _. n) y a (a + 1)) m p (2 * touch n)
      → SidesTo ink view circles y from end l p (touched + t) (a + 1)
  sides_turn {a = a} {n} {t} row h done is count pair =
      let N = cover_in circles in
      loop_turn (row_sides circles.ring N y a (a + 1)) t h done
      (sides_cut circles.ring N y from (a + 1) a done.least (omega arith))
      (omega arith)
      (rw count (pair_same circles.ring N y a n (is ∙ ap (cover circles a) row) pair))

-- ---- on both sides of two rows

-- what of the two rows at distance b lies from to a away is drawn
abbrev pub QuartersTo : (ℕ → ℕ → ℕ) → View → Circles → ℕ → ℕ → ℕ → List ℕ → List ℕ → ℕ → ℕ → Type 0
QuartersTo ink view circles b from end = DrawnTo view ink (λ a. around circles.ring (clipped from b a (b + 1) (cover circles))) 4 from end

module _ {ink : ℕ → ℕ → ℕ} {view : View} (circles : Circles) (b from end : ℕ) {l : List ℕ} where
  -- at the first distance
  pub quarters_start : from ≤ end → QuartersTo ink view circles b from end l l 0 from
  quarters_start h = loop_start h (quarters_none circles.ring (cover circles) from b from (b + 1) (inl (omega arith)))

  -- a turn: the pairs at distance a are drawn
  pub quarters_turn : {m p q : List ℕ} {touched a n t y z : ℕ} → Quarters view circles.ring b y z end → a < end
      → QuartersTo ink view circles b from end l m touched a
      → n ≡ cover circles a b
      → t ≡ touch n
      → Drawn view.w view.h ink (row_sides circles.ring (λ _ _. n) y a (a + 1)) m p (2 * touch n)
      → Drawn view.w view.h ink (row_sides circles.ring (λ _ _. n) z a (a + 1)) p q (2 * touch n)
      → QuartersTo ink view circles b from end l q (touched + t) (a + 1)
  quarters_turn {a = a} {n} {t} {y} {z} rows h done is count lower upper =
      let N = cover circles in
      let new = around circles.ring (clipped a b (a + 1) (b + 1) N) in
      let twice : 2 * touch n + 2 * touch n ≡ 4 * t = omega arith in
      loop_turn new t h done
      (quarters_cut circles.ring N from b (a + 1) (b + 1) a done.least (omega arith))
      (omega arith)
      (rw (← twice)
      (drawn_join new (rows_join N rows a (a + 1))
      (pair_same circles.ring (cover_in circles) y a n (is ∙ ap (N a) (lower-at rows)) lower)
      (pair_same circles.ring (cover_in circles) z a n (is ∙ ap (N a) (upper-at rows)) upper)))

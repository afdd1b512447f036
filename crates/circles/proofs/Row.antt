-- Laws of a row that is drawn in stretches.
use Rattle.std.proofs.Common.{◌≡◌, ℕ, ◌+◌, ◌-◌, ◌≤◌, ◌<◌, ⊎_elim, List, length, get_or, set, refl, sym, ap, ap₂, ◌∙◌, arith, length-set}
use Rattle.numbers.specs.inner.Offset.{origin}
use Rattle.numbers.specs.Sum.{sum_to}
use Rattle.numbers.proofs.Sum.{sum-none, sum_more, sum_le}
use Rattle.page.specs.Page.{over}
use Rattle.page.specs.inner.Paint.{dot, touch, clipped, Lawful, clamped}
use Rattle.page.specs.declared.View.{View}
use Rattle.page.proofs.Clip.{clip-columns}
use Rattle.page.proofs.Drawn.{drawn_join, drawn-row}
use Rattle.page.proofs.Over.{up_to, up_to_none, up_to_store, up_to_read, up_to_all}
use Rattle.chords.specs.inner.Circle.{apart}
use Rattle.rings.specs.inner.Circles.{cover, Measured}
use Rattle.rings.specs.inner.Placed.{cover_on, RingDrawn}
use Rattle.circles.specs.inner.Row.{Band, in_stretch, left_of, right_of}
use Rattle.rings.specs.declared.Circles.{Circles}
use Rattle.rings.specs.declared.Widths.{Widths}
use Rattle.page.proofs.Clamp.{clamped_low, clamped_high, clamped-rises, before-clamped, from_clamped, between-clamped}
use Rattle.circles.proofs.Apart.{apart-near, apart-left, apart-right}

-- a row whose widths are known
module _ {view : View} {size : ℕ} (circles : Circles) {row : Widths} (y : ℕ)
    (law : Lawful view size)
    (rows : (view.y0 ≤ y) × (y < view.y1))
    (m : Measured circles (apart circles.ring.cy (y + origin)) row)
  where
    clip : view.x0 ≤ view.x1
    clip = law.x-order

    rises : (c d : ℕ) → c ≤ d → clamped view.x0 view.x1 c ≤ clamped view.x0 view.x1 d
    rises = clamped-rises view.x0 view.x1

    within : (c d x : ℕ) → clamped view.x0 view.x1 c ≤ x → x < clamped view.x0 view.x1 d → (c ≤ x + origin) × (x + origin < d)
    within c d x = between-clamped view.x0 view.x1 c d x clip

    -- the band of the offsets b to e; c to d are whole, within the outer circle and outside the inner one
    band : (b c d e : ℕ) → b ≤ c → c ≤ d → d ≤ e → circles.ring.cx - row.whole ≤ c → d ≤ circles.ring.cx + row.whole
        → ((x : ℕ) → c ≤ x → x < d → row.inner ≤ apart circles.ring.cx x)
        → Band circles view y
        (clamped view.x0 view.x1 b) (clamped view.x0 view.x1 c) (clamped view.x0 view.x1 d) (clamped view.x0 view.x1 e)
    band b c d e h₁ h₂ h₃ left right outside =
        record {
          row = rows;
          order = (clamped_low _ _ _ clip, rises _ _ h₁, rises _ _ h₂, rises _ _ h₃, clamped_high _ _ _);
          whole =
              λ x p q.
              let i = within c d x p q in
              m.whole-all _ (outside (x + origin) i.0 i.1) (apart-near circles.ring.cx row.whole (x + origin) (omega arith) (omega arith));
        }

    -- to the left and to the right of the hole
    pub left-band : Band circles view y
        (left_of view circles.ring row.outer) (left_of view circles.ring row.whole) (left_of view circles.ring row.inner) (left_of view circles.ring row.hole)
    left-band =
        band _ _ _ _ (omega arith) (omega arith) (omega arith) (omega arith) (omega arith) (λ x _. apart-left circles.ring.cx row.inner x)

    pub right-band : Band circles view y
        (right_of view circles.ring row.hole) (right_of view circles.ring row.inner) (right_of view circles.ring row.whole) (right_of view circles.ring row.outer)
    right-band =
        band _ _ _ _ (omega arith) (omega arith) (omega arith) (omega arith) (omega arith) (λ x p _. apart-right circles.ring.cx row.inner x p)

    -- nothing is covered beyond the outer circle, nor in the hole
    none_left : (x : ℕ) → view.x0 ≤ x → x < left_of view circles.ring row.outer → cover_on circles x y ≡ 0
    none_left x h k = m.outer-none _ (apart-left circles.ring.cx row.outer (x + origin) (before-clamped _ _ _ x h k))

    none_right : (x : ℕ) → x < view.x1 → right_of view circles.ring row.outer ≤ x → cover_on circles x y ≡ 0
    none_right x h k = m.outer-none _ (apart-right circles.ring.cx row.outer (x + origin) (from_clamped _ _ _ x h k))

    none-middle : (x : ℕ) → left_of view circles.ring row.hole ≤ x → x < right_of view circles.ring row.hole → cover_on circles x y ≡ 0
    none-middle x p q = let b = within _ _ x p q in m.hole_none _ (apart-near circles.ring.cx row.hole (x + origin) b.0 b.1)

    pub solid_row : {ink : ℕ → ℕ → ℕ} {l m : List ℕ} {t : ℕ}
        → RingDrawn ink view circles (left_of view circles.ring row.outer) y (right_of view circles.ring row.outer) (y + 1) l m t
        → RingDrawn ink view circles view.x0 y view.x1 (y + 1) l m t
    solid_row = drawn-row _ _ _ _ _ y (clamped_low _ _ _ clip) (clamped_high _ _ _) (λ x p q. ⊎_elim (none_left x p) (none_right x q))

    pub hollow_row : {ink : ℕ → ℕ → ℕ} {l k m : List ℕ} {t u : ℕ}
        → RingDrawn ink view circles (left_of view circles.ring row.outer) y (left_of view circles.ring row.hole) (y + 1) l k t
        → RingDrawn ink view circles (right_of view circles.ring row.hole) y (right_of view circles.ring row.outer) (y + 1) k m u
        → RingDrawn ink view circles view.x0 y view.x1 (y + 1) l m (t + u)
    hollow_row d e =
        let n = cover_on circles in
        let c = right_of view circles.ring row.hole in
        drawn_join (clipped view.x0 y view.x1 (y + 1) n)
        (clip-columns view.x0 y view.x1 (y + 1) c n (clamped_low _ _ _ clip) (clamped_high _ _ _))
        (drawn-row n view.x0 c _ _ y (clamped_low _ _ _ clip) (rises _ _ (omega arith)) (λ x p q. ⊎_elim (none_left x p) (λ z. none-middle x z q)) d)
        (drawn-row n c view.x1 c _ y (omega arith) (clamped_high _ _ _) (λ x p q. ⊎_elim (λ z. absurd (omega arith)) (none_right x q)) e)

-- ---- a stretch that is blended byte by byte

-- its coverage, by the distance from the centre's column
pub in_stretch_lem : {c d : ℕ} (circles : Circles) (x b i : ℕ) → d ≡ apart circles.ring.cx (x + i + origin) → c ≡ cover circles d b → c ≡ in_stretch circles x b i
in_stretch_lem circles x b i e is = is ∙ ap (λ (d : ℕ). cover circles d b) e

-- the first i bytes are blended by an ink, byte k at coverage n k, the rest are as at entry, and the count is that of the first i
pub record BlendedTo (ink : ℕ → ℕ → ℕ) (n : ℕ → ℕ) (l m : List ℕ) (touched i : ℕ) : Type 0 where
  pub most : i ≤ length l
  pub size : length m ≡ length l
  pub bytes : m ≡ over (up_to i (λ k. dot ink (n k))) l
  pub count : touched ≡ sum_to i (λ k. touch (n k))

module _ {ink : ℕ → ℕ → ℕ} {n : ℕ → ℕ} {l : List ℕ} where
  -- at the first byte
  pub stretch_start : BlendedTo ink n l l 0 0
  stretch_start = record { most = omega arith; size = refl; bytes = up_to_none _ l; count = sym (sum-none _) }

  -- no more are touched than there are
  pub stretch_few : {m : List ℕ} {touched i : ℕ} → BlendedTo ink n l m touched i → touched ≤ i
  stretch_few {i = i} done = omega (arith, done.count, sum_le i 1 (λ k. touch (n k)) (λ k. omega arith))

  -- a turn: byte i is read, blended at its coverage c and stored
  pub stretch_turn : {m : List ℕ} {touched i c v t : ℕ} → BlendedTo ink n l m touched i → i < length l
      → c ≡ n i
      → v ≡ dot ink c (get_or m i 0)
      → t ≡ touch c
      → BlendedTo ink n l (set m i v) (touched + t) (i + 1)
  stretch_turn {m} {i = i} {v = v} done h here new count =
      let f : ℕ → ℕ → ℕ = λ k. dot ink (n k) in
      let old : get_or m i 0 ≡ get_or l i 0 = ap (λ (r : List ℕ). get_or r i 0) done.bytes ∙ up_to_read f l i h in
      record {
        most = omega arith;
        size = simp length-set done.size;
        bytes = ap (λ (r : List ℕ). set r i v) done.bytes ∙ up_to_store f l i v h (new ∙ ap₂ (dot ink) here old);
        count = ap₂ ◌+◌ done.count (count ∙ ap touch here) ∙ sym (sum_more i (λ k. touch (n k)));
      }

  -- at the last byte
  pub stretch_end : {m : List ℕ} {touched i : ℕ} → BlendedTo ink n l m touched i → length l ≤ i
      → (m ≡ over (λ k. dot ink (n k)) l) × (touched ≡ sum_to (length l) (λ k. touch (n k)))
  stretch_end {i = i} done h = (
    done.bytes ∙ up_to_all (λ k. dot ink (n k)) l i h,
    done.count ∙ ap (λ (k : ℕ). sum_to k (λ k. touch (n k))) (omega (arith, done.most)),
  )

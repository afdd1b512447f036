-- A row that two cuts leave in stretches, put together.
use Rattle.std.proofs.Common.{◌≡◌, refl, List, ℕ, ◌+◌, ◌*◌, ◌≤◌, ◌<◌, min, max, arith}
use mathlib.Core.Logic.{⊎_elim}
use Rattle.numbers.specs.inner.Offset.{origin}
use Rattle.page.specs.inner.Paint.{clamped, Lawful, Filled}
use Rattle.page.specs.declared.View.{View}
use Rattle.page.proofs.Clamp.{clamped_low, clamped_high, clamped-rises, before-clamped, from_clamped, between-clamped}
use Rattle.page.proofs.Drawn.{drawn_beside, drawn_full, drawn-row, drawn-count}
use Rattle.page.proofs.Same.{drawn-alike}
use Rattle.triangles.specs.inner.Side.{left_of}
use Rattle.triangles.specs.inner.Row.{right_of, between_of, RowDrawn, Alike, Ready}
use Rattle.triangles.specs.declared.side.Cut.{Cut}
use Rattle.triangles.proofs.Between.{whole_both, equal_left, equal_right, whole-between, none_before, none-past}

below_both : (z p q : ℕ) → z < min p q → (z < p) × (z < q)
below_both z p q h = (omega arith, omega arith)

above_both : (z p q : ℕ) → max p q ≤ z → (p ≤ z) × (q ≤ z)
above_both z p q h = (omega arith, omega arith)

module _ {view : View} {size : ℕ} {a b : Cut} {e e' y : ℕ} (ready : Ready view size a b e e' y) where
  -- a column of the clip
  abbrev clamped_to : ℕ → ℕ
  clamped_to c = clamped view.x0 view.x1 c

  -- a row that has nothing before offset c, and nothing from offset d on
  row_on : {ink : ℕ → ℕ → ℕ} {l m : List ℕ} {t : ℕ} (c d : ℕ) → ((z : ℕ) → z < c → between_of a b z ≡ 0) → ((z : ℕ) → d ≤ z → between_of a b z ≡ 0)
      → RowDrawn view ink (between_of a b) y (clamped_to c) (clamped_to d) l m t
      → RowDrawn view ink (between_of a b) y view.x0 view.x1 l m t
  row_on c d before past =
      drawn-row (λ x _. between_of a b (x + origin)) view.x0 view.x1 (clamped_to c) (clamped_to d) y
      (clamped_low view.x0 view.x1 c ready.lawful.x-order)
      (clamped_high view.x0 view.x1 d)
      (λ x u v. ⊎_elim (λ z. before (x + origin) (before-clamped view.x0 view.x1 c x u z)) (λ z. past (x + origin) (from_clamped view.x0 view.x1 d x v z)))

  -- the two cuts cross some of the same columns
  pub overlap_drawn : {ink : ℕ → ℕ → ℕ} {l m : List ℕ} {t u v p q : ℕ} → u ≡ min a.column b.column → v ≡ max a.end b.end → p ≡ clamped_to u → q ≡ clamped_to v
      → RowDrawn view ink (between_of a b) y p q l m t
      → RowDrawn view ink (between_of a b) y view.x0 view.x1 l m t
  overlap_drawn {u = u} {v} eu ev ep eq d =
      row_on u v
      (λ z h. let k = below_both z _ _ (rw eu at h) in none_before a b z ready.first ready.second k.0 k.1)
      (λ z h. let k = above_both z _ _ (rw ev at h) in none-past a b z ready.first ready.second k.0 k.1)
      (rw (ep, eq) at d)

  -- a leaves off before b begins: edges, and what is whole between them
  module _ (apart : a.end ≤ b.column) (ink : ℕ → ℕ → ℕ) where
    abbrev clip : view.x0 ≤ view.x1
    clip = ready.lawful.x-order

    left_edge : (own : ℕ → ℕ → ℕ) {l m : List ℕ} {t : ℕ} → Alike own a.d ink (a.d * b.d)
        → RowDrawn view own (right_of a) y (clamped_to a.column) (clamped_to a.end) l m t
        → RowDrawn view ink (between_of a b) y (clamped_to a.column) (clamped_to a.end) l m t
    left_edge own alike =
        drawn-alike own ink (clamped_to a.column) y (clamped_to a.end) (y + 1) a.d (a.d * b.d)
        (λ x _. right_of a (x + origin)) (λ x _. between_of a b (x + origin)) alike.same
        (λ x z i.
        equal_left a b ready.first ready.second apart (x + origin)
        (omega (arith, (between-clamped view.x0 view.x1 a.column a.end x clip i.left i.right).1)))

    right_edge : (own : ℕ → ℕ → ℕ) {l m : List ℕ} {t : ℕ} → Alike own b.d ink (a.d * b.d)
        → RowDrawn view own (left_of b) y (clamped_to b.column) (clamped_to b.end) l m t
        → RowDrawn view ink (between_of a b) y (clamped_to b.column) (clamped_to b.end) l m t
    right_edge own alike =
        drawn-alike own ink (clamped_to b.column) y (clamped_to b.end) (y + 1) b.d (a.d * b.d)
        (λ x _. left_of b (x + origin)) (λ x _. between_of a b (x + origin)) alike.same
        (λ x z i.
        equal_right a b ready.first ready.second apart (x + origin)
        (omega (arith, (between-clamped view.x0 view.x1 b.column b.end x clip i.left i.right).0)))

    inside : {level : ℕ} {l m : List ℕ} {t : ℕ} → ((u : ℕ) → ink (a.d * b.d) u ≡ level) → Filled view.w view.h level y (clamped_to a.end) (clamped_to b.column) l m t
        → RowDrawn view ink (between_of a b) y (clamped_to a.end) (clamped_to b.column) l m t
    inside leaves filled =
        let d : ℕ = a.d * b.d in
        let some : 0 < d = whole_both a b ready.first ready.second in
        drawn_full (λ x _. between_of a b (x + origin)) d y (clamped_to a.end) (clamped_to b.column)
        (λ x u v.
        let r = between-clamped view.x0 view.x1 a.end b.column x clip u v in
        whole-between a b ready.first ready.second apart (x + origin) r.0 r.1)
        (filled ink d some leaves)

    pub apart-drawn : (first second : ℕ → ℕ → ℕ) {d d' d'' level p q r s : ℕ} {l₀ l₁ l₂ l₃ : List ℕ} {t u v : ℕ}
        → d ≡ a.d → d' ≡ b.d → d'' ≡ d * d' → Alike first d ink d'' → Alike second d' ink d'' → ((u : ℕ) → ink d'' u ≡ level)
        → p ≡ clamped_to a.column → q ≡ clamped_to a.end → r ≡ clamped_to b.column → s ≡ clamped_to b.end
        → RowDrawn view first (right_of a) y p q l₀ l₁ t
        → Filled view.w view.h level y q r l₁ l₂ u
        → RowDrawn view second (left_of b) y r s l₂ l₃ v
        → RowDrawn view ink (between_of a b) y view.x0 view.x1 l₀ l₃ (t + u + v)
    apart-drawn first second ed ed' eb alike alike' leaves ep eq er es left middle right =
        let f = ready.first in
        let g = ready.second in
        let n : ℕ → ℕ → ℕ = λ x _. between_of a b (x + origin) in
        row_on a.column b.end
        (λ z h. none_before a b z f g h (omega (arith, f.order)))
        (λ z h. none-past a b z f g (omega (arith, g.order)) h)
        (drawn_beside n y (clamped_to a.column) (clamped_to b.column) (clamped_to b.end)
        (clamped-rises view.x0 view.x1 a.column b.column (omega (arith, f.order)))
        (clamped-rises view.x0 view.x1 b.column b.end g.order)
        (drawn_beside n y (clamped_to a.column) (clamped_to a.end) (clamped_to b.column)
        (clamped-rises view.x0 view.x1 a.column a.end f.order)
        (clamped-rises view.x0 view.x1 a.end b.column apart)
        (left_edge first (rw (eb, ed, ed') at alike) (rw (ep, eq) at left))
        (inside (rw (eb, ed, ed') at leaves) (rw (eq, er) at middle)))
        (right_edge second (rw (eb, ed, ed') at alike') (rw (er, es) at right)))

module _ (view : View) (v y from end : ℕ) {l m : List ℕ} {t : ℕ} (f : Filled view.w view.h v y from end l m t) where
  pub filled-count : {size : ℕ} → Lawful view size → t ≤ 1048576
  filled-count law = drawn-count law (f (λ _ _. v) 1 (omega arith) (λ u. refl))

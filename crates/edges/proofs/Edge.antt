-- What holds of a pixel's area under an edge: it is at most the whole, and nothing or the whole where the edge passes below or above.
use mathlib.Core.Path.{◌≡◌, sym, ◌∙◌, ap, ap₂}
use mathlib.Core.Logic.{⊎_elim}
use Prim.Native.Nat.{ℕ, ◌+◌, ◌*◌, ◌-◌, ◌≤◌, ◌<◌}
use native.Mathlib.Nat.{mul-le-mul_left, mul-le-mul, sub-zero, one-mul}
use native.Mathlib.Omega.{arith}
use lib.IntN.{ℤ, pos, nat_abs, ◌-ℤ◌}
use Rattle.numbers.specs.inner.Order.{dist}
use Rattle.numbers.proofs.Order.{lt_or_le, eq_or_ne}
use Rattle.numbers.proofs.Integer.{Diff, diff_pos, diff_add, diff_minus, diff_mul, diff_shift, diff_unique}
use Rattle.edges.specs.Edge.{under_n, under_d, height_at, edge_n, edge_d}
use Rattle.edges.specs.inner.Strip.{strip, under_at}
use Rattle.edges.proofs.Strip.{strip_grows, strip-past, strip_in}
use Rattle.edges.proofs.Under.{rise_is, under_level, under_slanted, whole-level, whole_slanted, whole_pos, lower, upper, at_slanted}

-- an edge from height x − y to height x' − y', k further up or down
pub data Way (x y x' y' : ℕ) : ℕ → Type 0 where
  level : x' + y ≡ y' + x → Way x y x' y' 0
  up : {k : ℕ} → 0 < k → x' + y ≡ y' + x + k → Way x y x' y' k
  down : {k : ℕ} → 0 < k → y' + x ≡ x' + y + k → Way x y x' y' k

pub way : (x y x' y' : ℕ) → Way x y x' y' (dist (x' + y) (y' + x))
way x y x' y' = ⊎_elim (λ h. down (omega arith) (omega arith)) (λ h. ⊎_elim (λ g. up (omega arith) (omega arith)) (λ g. flat (omega arith)) (lt_or_le (y' + x) (x' + y))) (lt_or_le (x' + y) (y' + x))
  where
    flat : x' + y ≡ y' + x → Way x y x' y' (dist (x' + y) (y' + x))
    flat e = let z : dist (x' + y) (y' + x) ≡ 0 = omega arith in rw z (level e)

module _ (H : ℕ) {a b : ℤ} {x y x' y' : ℕ} (d : Diff a x y) (d' : Diff b x' y') where
  pub under_rises : {k : ℕ} → 0 < k → x' + y ≡ y' + x + k → under_n H a b + strip H (x - y) ≡ strip H (x' - y')
  under_rises {k} h e =
      omega (arith, under_slanted H d d' (omega arith), (strip_grows H x y x' y' k e).least)

  pub under_falls : {k : ℕ} → 0 < k → y' + x ≡ x' + y + k → under_n H a b + strip H (x' - y') ≡ strip H (x - y)
  under_falls {k} h e =
      omega (arith, under_slanted H d d' (omega arith), (strip_grows H x' y' x y k (omega arith)).least)

  pub under_le : {k : ℕ} → Way x y x' y' k → under_n H a b ≤ under_d H k
  under_le (level e) = omega (arith, under_level H d d' e, whole-level H)
  under_le {k} (up h e) =
      let g = strip_grows H x y x' y' k e in
      omega (arith, under_rises h e, whole_slanted H k h, g.most, mul-le-mul_left k g.whole)
  under_le {k} (down h e) =
      let g = strip_grows H x' y' x y k (omega arith) in
      omega (arith, under_falls h e, whole_slanted H k h, g.most, mul-le-mul_left k g.whole)

  -- the edge is nowhere above the floor
  pub under_none : {k : ℕ} → x ≤ y → x' ≤ y' → Way x y x' y' k → under_n H a b ≡ 0
  under_none h h' (level e) = omega (arith, under_level H d d' e)
  under_none h h' (up p e) = omega (arith, under_rises p e, ap (strip H) same)
    where
      same : x' - y' ≡ x - y
      same = omega arith
  under_none h h' (down p e) = omega (arith, under_falls p e, ap (strip H) same)
    where
      same : x' - y' ≡ x - y
      same = omega arith

  -- the edge is nowhere below the ceiling
  pub under_full : {k : ℕ} → y + H ≤ x → y' + H ≤ x' → Way x y x' y' k → under_n H a b ≡ under_d H k
  under_full h h' (level e) = omega (arith, under_level H d d' e, whole-level H)
  under_full {k} h h' (up p e) =
      let t : x' - y' - H ≡ x - y - H + k = omega arith in
      omega (
        arith,
        under_rises p e,
        whole_slanted H k p,
        strip-past H (x - y) (omega arith),
        strip-past H (x' - y') (omega arith),
        ap (λ (n : ℕ). H * n) t,
      )
  under_full {k} h h' (down p e) =
      let t : x - y - H ≡ x' - y' - H + k = omega arith in
      omega (
        arith,
        under_falls p e,
        whole_slanted H k p,
        strip-past H (x - y) (omega arith),
        strip-past H (x' - y') (omega arith),
        ap (λ (n : ℕ). H * n) t,
      )

-- the trapezoid, where the edge stays in the pixel: half the sum of the two heights
pub under_inside : (H : ℕ) {a b : ℤ} {p q k : ℕ} → Diff a p 0 → Diff b q 0 → p ≤ H → q ≤ H → Way p 0 q 0 k → under_n H a b * (2 * H) ≡ (p + q) * under_d H k
under_inside H {p = p} {q} d d' h g (level e) =
    let t : under_n H _ _ ≡ p = under_level H d d' e ∙ omega arith in
    let z : q ≡ p = omega arith in
    rw (t, whole-level H, z) (omega arith)
under_inside H {a} {b} {p} {q} {k} d d' h g (up r e) =
    let z : q ≡ p + k = omega arith in
    let n : under_n H a b ≡ k * (p + q) = rw z (omega (arith, under_rises H d d' r e, strip_in H p h, strip_in H q g, ap (strip H) (sub-zero p), ap (strip H) (sub-zero q), ap (λ (x : ℕ). x * x) z)) in
    rw (n, whole_slanted H k r) (omega arith)
under_inside H {a} {b} {p} {q} {k} d d' h g (down r e) =
    let z : p ≡ q + k = omega arith in
    let n : under_n H a b ≡ k * (p + q) = rw z (omega (arith, under_falls H d d' r e, strip_in H p h, strip_in H q g, ap (strip H) (sub-zero p), ap (strip H) (sub-zero q), ap (λ (x : ℕ). x * x) z)) in
    rw (n, whole_slanted H k r) (omega arith)

-- ---- an edge with ends on whole columns, p₁ − p₂ and q₁ − q₂ above the floor
pub height_diff : (i m : ℕ) {p q : ℤ} {p₁ p₂ q₁ q₂ : ℕ} → Diff p p₁ p₂ → Diff q q₁ q₂ → Diff (height_at i m p q) (m * p₁ + i * q₁) (m * p₂ + i * q₂)
unfolding height_at
height_diff i m {p₁ = p₁} {p₂} {q₁} {q₂} d e =
    diff_shift (m * p₁ + i * q₁) (m * p₂ + i * q₂) (diff_add (diff_mul (diff_pos m) d) (diff_mul (diff_pos i) e)) (omega arith)

module _ (u i m : ℕ) {p q : ℤ} {p₁ p₂ q₁ q₂ : ℕ} (d : Diff p p₁ p₂) (e : Diff q q₁ q₂) where
  left : Diff (height_at i (m + 1) p q) ((m + 1) * p₁ + i * q₁) ((m + 1) * p₂ + i * q₂)
  left = height_diff i (m + 1) d e

  right : Diff (height_at (i + 1) m p q) (m * p₁ + (i + 1) * q₁) (m * p₂ + (i + 1) * q₂)
  right = height_diff (i + 1) m d e

  -- over each column it rises as much as q is above p
  rise : nat_abs (q -ℤ p) ≡ dist (m * p₁ + (i + 1) * q₁ + ((m + 1) * p₂ + i * q₂)) (m * p₂ + (i + 1) * q₂ + ((m + 1) * p₁ + i * q₁))
  rise = rise_is d e ∙ omega arith

  pub rise_same : nat_abs (height_at (i + 1) m p q -ℤ height_at i (m + 1) p q) ≡ nat_abs (q -ℤ p)
  rise_same = rise_is left right ∙ sym rise

  its_way : Way ((m + 1) * p₁ + i * q₁) ((m + 1) * p₂ + i * q₂) (m * p₁ + (i + 1) * q₁) (m * p₂ + (i + 1) * q₂) (nat_abs (q -ℤ p))
  its_way = rw rise (way _ _ _ _)

  pub edge_le : edge_n u i m p q ≤ edge_d u (i + 1 + m) p q
  unfolding edge_n edge_d
  edge_le = under_le (u * (i + 1 + m)) left right its_way

  -- both ends are at most at the floor
  pub edge_none : p₁ ≤ p₂ → q₁ ≤ q₂ → edge_n u i m p q ≡ 0
  unfolding edge_n
  edge_none h g =
      under_none (u * (i + 1 + m)) left right
      (omega (arith, mul-le-mul_left (m + 1) h, mul-le-mul_left i g))
      (omega (arith, mul-le-mul_left m h, mul-le-mul_left (i + 1) g))
      its_way

  -- both ends are at least at the ceiling
  pub edge_full : p₂ + u ≤ p₁ → q₂ + u ≤ q₁ → edge_n u i m p q ≡ edge_d u (i + 1 + m) p q
  unfolding edge_n edge_d
  edge_full h g =
      under_full (u * (i + 1 + m)) left right
      (omega (arith, mul-le-mul_left (m + 1) h, mul-le-mul_left i g))
      (omega (arith, mul-le-mul_left m h, mul-le-mul_left (i + 1) g))
      its_way

pub edge_pos : (u l : ℕ) (p q : ℤ) → 0 < u → 0 < l → 0 < edge_d u l p q
unfolding edge_d
edge_pos u l p q h g = whole_pos (u * l) (nat_abs (q -ℤ p)) (mul-le-mul h g)

-- ---- in row z, by where it stands from the floor of row 0
pub at_le : (H from to z : ℕ) → under_at H from to z ≤ under_d H (dist from to)
unfolding under_at
at_le H from to z =
    let e : dist (to + H * z) (H * z + from) ≡ dist from to = omega arith in
    under_le H (lower H from to z) (upper H from to z) (rw e at (way from (H * z) to (H * z)))

-- the whole where it is nowhere below the ceiling, nothing where it is nowhere above the floor
pub at_full : (H from to z : ℕ) → H * z + H ≤ from → H * z + H ≤ to → under_at H from to z ≡ under_d H (dist from to)
unfolding under_at
at_full H from to z p q =
    let e : dist (to + H * z) (H * z + from) ≡ dist from to = omega arith in
    under_full H (lower H from to z) (upper H from to z) p q (rw e at (way from (H * z) to (H * z)))

pub at_none : (H from to z : ℕ) → from ≤ H * z → to ≤ H * z → under_at H from to z ≡ 0
unfolding under_at
at_none H from to z p q = under_none H (lower H from to z) (upper H from to z) p q (way from (H * z) to (H * z))

-- an edge seen from the other side has as much under it
pub at_back : (H from to z : ℕ) → under_at H from to z ≡ under_at H to from z
at_back H from to z =
    ⊎_elim
    (λ (e : from ≡ to). rw e)
    (λ (f : from ≡ to → ⊥). at_slanted H from to z f ∙ omega arith ∙ sym (at_slanted H to from z (λ e. f (sym e))))
    (eq_or_ne from to)

-- an edge with ends on whole columns, at whole heights p and q from the floor of row 0
pub edge_at : (i m p q z : ℕ) → edge_n 1 i m (pos p -ℤ pos z) (pos q -ℤ pos z) ≡ under_at (i + 1 + m) ((m + 1) * p + i * q) (m * p + (i + 1) * q) z
unfolding edge_n under_at
edge_at i m p q z =
    let l : ℕ = i + 1 + m in
    let d = diff_minus (diff_pos p) (diff_pos z) in
    let e = diff_minus (diff_pos q) (diff_pos z) in
    rw (one-mul l)
    (ap₂ (under_n l)
    (diff_unique (height_diff i (m + 1) d e) (lower l ((m + 1) * p + i * q) (m * p + (i + 1) * q) z) (omega arith))
    (diff_unique (height_diff (i + 1) m d e) (upper l ((m + 1) * p + i * q) (m * p + (i + 1) * q) z) (omega arith)))

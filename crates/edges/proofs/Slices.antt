-- The rule gives the area under the edge, and no other number does.
use mathlib.Core.Path.{◌≡◌, refl, ◌∙◌, ap}
use mathlib.Core.Logic.{⊎_elim}
use Prim.Native.Nat.{ℕ, zero, suc, ◌+◌, ◌*◌, ◌-◌, ◌≤◌, ◌<◌, min, max}
use native.Mathlib.Nat.{mul-le-mul, mul-le-mul_left, mul-le-mul_right, le_of_mul-le-mul_left}
use native.Mathlib.Omega.{arith}
use lib.IntN.{ℤ, nat_abs, ◌-ℤ◌}
use Rattle.numbers.specs.Sum.{sum_to}
use Rattle.numbers.proofs.Order.{lt_or_le}
use Rattle.numbers.proofs.Sum.{sum_ext}
use Rattle.numbers.proofs.Integer.{Diff, plus, minus, diff_of, diff_pos, diff_add, diff_minus, diff_mul, diff_shift}
use Rattle.edges.specs.Edge.{under_n, under_d, height_at, edge_n, edge_d}
use Rattle.edges.specs.Area.{cut_at, lower_sum, higher_sum, Area}
use Rattle.edges.specs.inner.Strip.{strip}
use Rattle.edges.proofs.Strip.{Growth, strip-scale, strip_grows}
use Rattle.edges.proofs.Under.{in_row_diff, rise_is, under_level, whole-level, whole_slanted}
use Rattle.edges.proofs.Edge.{Way, level, up, down, way, under_rises, under_falls, rise_same}

-- ---- sums of steps
module _ (k : ℕ) (v low : ℕ → ℕ) where
  climbed : ((t : ℕ) → v t + 2 * (k * low t) ≤ v (t + 1)) → (m : ℕ) → v 0 + 2 * (k * sum_to m low) ≤ v m
  unfolding sum_to
  climbed step zero = omega arith
  climbed step (suc m) = let e : m + 1 ≡ suc m = omega arith in omega (arith, climbed step m, rw e at (step m))

  dropped : ((t : ℕ) → v (t + 1) + 2 * (k * low t) ≤ v t) → (m : ℕ) → v m + 2 * (k * sum_to m low) ≤ v 0
  unfolding sum_to
  dropped step zero = omega arith
  dropped step (suc m) = let e : m + 1 ≡ suc m = omega arith in omega (arith, dropped step m, rw e at (step m))

  climbed_most : ((t : ℕ) → v (t + 1) ≤ v t + 2 * (k * low t)) → (m : ℕ) → v m ≤ v 0 + 2 * (k * sum_to m low)
  unfolding sum_to
  climbed_most step zero = omega arith
  climbed_most step (suc m) = let e : m + 1 ≡ suc m = omega arith in omega (arith, climbed_most step m, rw e at (step m))

  dropped_most : ((t : ℕ) → v t ≤ v (t + 1) + 2 * (k * low t)) → (m : ℕ) → v 0 ≤ v m + 2 * (k * sum_to m low)
  unfolding sum_to
  dropped_most step zero = omega arith
  dropped_most step (suc m) = let e : m + 1 ≡ suc m = omega arith in omega (arith, dropped_most step m, rw e at (step m))

-- the same terms but the first, and but the last
shifted : (m : ℕ) (f : ℕ → ℕ) → sum_to m (λ t. f (t + 1)) + f 0 ≡ sum_to m f + f m
unfolding sum_to
shifted zero f = refl
shifted (suc m) f = let e : m + 1 ≡ suc m = omega arith in rw e (omega (arith, shifted m f))

same : (m c : ℕ) (f : ℕ → ℕ) → ((t : ℕ) → f t ≡ c) → sum_to m f ≡ m * c
unfolding sum_to
same zero c f h = omega arith
same (suc m) c f h = omega (arith, same m c f h, h m)

-- ---- the slices of an edge from x − y to x' − y'
module _ (H m : ℕ) {a b : ℤ} {x y x' y' : ℕ} (d : Diff a x y) (d' : Diff b x' y') where
  -- the height at side t, as a difference
  abbrev plus_at : ℕ → ℕ
  plus_at t = m * x + t * (x' + y)

  abbrev minus_at : ℕ → ℕ
  minus_at t = m * y + t * (y' + x)

  abbrev strip_at : ℕ → ℕ
  strip_at t = strip (m * H) (plus_at t - minus_at t)

  cut_is : (t : ℕ) → cut_at H m a b t ≡ min (plus_at t - minus_at t) (m * H)
  unfolding cut_at
  cut_is t =
      in_row_diff (m * H)
      (diff_shift (plus_at t) (minus_at t) (diff_add (diff_mul (diff_pos m) d) (diff_mul (diff_pos t) (diff_minus d' d))) (omega arith))

  times : (x y : ℕ) → m * x - m * y ≡ m * (x - y)
  times x y = ⊎_elim none some (lt_or_le x y)
    where
      none : x < y → m * x - m * y ≡ m * (x - y)
      none h =
          let z : x - y ≡ 0 = omega arith in
          let g : x ≤ y = omega arith in
          rw z (omega (arith, mul-le-mul_left m g))

      some : y ≤ x → m * x - m * y ≡ m * (x - y)
      some h = let e : x ≡ y + (x - y) = omega arith in omega (arith, ap (λ (n : ℕ). m * n) e)

  scaled : (x y : ℕ) → strip (m * H) (m * x - m * y) ≡ m * m * strip H (x - y)
  scaled x y = ap (strip (m * H)) (times x y) ∙ strip-scale m H (x - y)

  first : strip_at 0 ≡ m * m * strip H (x - y)
  first =
      let e : plus_at 0 - minus_at 0 ≡ m * x - m * y = omega arith in
      ap (strip (m * H)) e ∙ scaled x y

  last : strip_at m ≡ m * m * strip H (x' - y')
  last =
      let e : plus_at m - minus_at m ≡ m * x' - m * y' = omega arith in
      ap (strip (m * H)) e ∙ scaled x' y'

  rising : (k : ℕ) → x' + y ≡ y' + x + k → (t : ℕ) → Growth (m * H) k (cut_at H m a b t) (strip_at t) (cut_at H m a b (t + 1)) (strip_at (t + 1))
  rising k e t = rw (cut_is t, cut_is (t + 1)) (strip_grows (m * H) (plus_at t) (minus_at t) (plus_at (t + 1)) (minus_at (t + 1)) k (omega arith))

  falling : (k : ℕ) → y' + x ≡ x' + y + k → (t : ℕ) → Growth (m * H) k (cut_at H m a b (t + 1)) (strip_at (t + 1)) (cut_at H m a b t) (strip_at t)
  falling k e t = rw (cut_is t, cut_is (t + 1)) (strip_grows (m * H) (plus_at (t + 1)) (minus_at (t + 1)) (plus_at t) (minus_at t) k (omega arith))

  -- of one that rises, or is level
  module _ (k : ℕ) (e : x' + y ≡ y' + x + k) where
    low_up : (t : ℕ) → min (cut_at H m a b t) (cut_at H m a b (t + 1)) ≡ cut_at H m a b t
    low_up t = omega (arith, (rising k e t).rises)

    high_up : (t : ℕ) → max (cut_at H m a b t) (cut_at H m a b (t + 1)) ≡ cut_at H m a b (t + 1)
    high_up t = omega (arith, (rising k e t).rises)

    least_up : m * m * strip H (x - y) + 2 * (k * lower_sum H m a b) ≤ m * m * strip H (x' - y')
    least_up = rw (first, last) at (climbed k strip_at (λ t. min (cut_at H m a b t) (cut_at H m a b (t + 1))) (λ t. rw (low_up t) (rising k e t).least) m)

    most_up : m * m * strip H (x' - y') ≤ m * m * strip H (x - y) + 2 * (k * higher_sum H m a b)
    most_up = rw (first, last) at (climbed_most k strip_at (λ t. max (cut_at H m a b t) (cut_at H m a b (t + 1))) (λ t. rw (high_up t) (rising k e t).most) m)

    near_up : higher_sum H m a b ≤ lower_sum H m a b + m * H
    near_up =
        omega (
          arith,
          shifted m (cut_at H m a b),
          sum_ext m _ _ (λ t _. low_up t),
          sum_ext m _ _ (λ t _. high_up t),
          cut_is m,
        )

  -- and of one that falls
  module _ (k : ℕ) (e : y' + x ≡ x' + y + k) where
    low-down : (t : ℕ) → min (cut_at H m a b t) (cut_at H m a b (t + 1)) ≡ cut_at H m a b (t + 1)
    low-down t = omega (arith, (falling k e t).rises)

    high_down : (t : ℕ) → max (cut_at H m a b t) (cut_at H m a b (t + 1)) ≡ cut_at H m a b t
    high_down t = omega (arith, (falling k e t).rises)

    least-down : m * m * strip H (x' - y') + 2 * (k * lower_sum H m a b) ≤ m * m * strip H (x - y)
    least-down = rw (first, last) at (dropped k strip_at (λ t. min (cut_at H m a b t) (cut_at H m a b (t + 1))) (λ t. rw (low-down t) (falling k e t).least) m)

    most-down : m * m * strip H (x - y) ≤ m * m * strip H (x' - y') + 2 * (k * higher_sum H m a b)
    most-down = rw (first, last) at (dropped_most k strip_at (λ t. max (cut_at H m a b t) (cut_at H m a b (t + 1))) (λ t. rw (high_down t) (falling k e t).most) m)

    near_down : higher_sum H m a b ≤ lower_sum H m a b + m * H
    near_down =
        omega (
          arith,
          shifted m (cut_at H m a b),
          sum_ext m _ _ (λ t _. low-down t),
          sum_ext m _ _ (λ t _. high_down t),
          cut_is 0,
        )

  -- the two sums are at most one slice of the pixel apart
  near : {k : ℕ} → Way x y x' y' k → higher_sum H m a b ≤ lower_sum H m a b + m * H
  near (level e) = near_up 0 (omega arith)
  near (up {k = k} p e) = near_up k e
  near (down {k = k} p e) = near_down k e

  -- of a level one
  level_cut : x' + y ≡ y' + x → (t : ℕ) → cut_at H m a b t ≡ m * min (x - y) H
  level_cut e t =
      let f : plus_at t - minus_at t ≡ m * x - m * y = omega (arith, ap (λ (n : ℕ). t * n) e) in
      cut_is t ∙ rw (f, times x y) (least (x - y))
    where
      least : (p : ℕ) → min (m * p) (m * H) ≡ m * min p H
      least p =
          ⊎_elim
          (λ (h : p < H). let e : min p H ≡ p = omega arith in let g : p ≤ H = omega arith in rw e (omega (arith, mul-le-mul_left m g)))
          (λ (h : H ≤ p). let e : min p H ≡ H = omega arith in rw e (omega (arith, mul-le-mul_left m h)))
          (lt_or_le p H)

  least-is : {k : ℕ} → Way x y x' y' k → lower_sum H m a b * under_d H k ≤ under_n H a b * (m * m * H)
  least-is (level e) =
      let s : lower_sum H m a b ≡ m * (m * min (x - y) H) = same m _ _ (λ t. rw (level_cut e t, level_cut e (t + 1)) (omega arith)) in
      rw (s, whole-level H, under_level H d d' e) (omega arith)
  least-is (up {k = k} p e) =
      let n = ap (λ (n : ℕ). m * m * n) (under_rises H d d' p e) in
      let t : 2 * (k * lower_sum H m a b) ≤ m * m * under_n H a b = omega (arith, least_up k e) in
      rw (whole_slanted H k p) (omega (arith, mul-le-mul_left H t))
  least-is (down {k = k} p e) =
      let n = ap (λ (n : ℕ). m * m * n) (under_falls H d d' p e) in
      let t : 2 * (k * lower_sum H m a b) ≤ m * m * under_n H a b = omega (arith, least-down k e) in
      rw (whole_slanted H k p) (omega (arith, mul-le-mul_left H t))

  most-is : {k : ℕ} → Way x y x' y' k → under_n H a b * (m * m * H) ≤ higher_sum H m a b * under_d H k
  most-is (level e) =
      let s : higher_sum H m a b ≡ m * (m * min (x - y) H) = same m _ _ (λ t. rw (level_cut e t, level_cut e (t + 1)) (omega arith)) in
      rw (s, whole-level H, under_level H d d' e) (omega arith)
  most-is (up {k = k} p e) =
      let n = ap (λ (n : ℕ). m * m * n) (under_rises H d d' p e) in
      let t : m * m * under_n H a b ≤ 2 * (k * higher_sum H m a b) = omega (arith, most_up k e) in
      rw (whole_slanted H k p) (omega (arith, mul-le-mul_left H t))
  most-is (down {k = k} p e) =
      let n = ap (λ (n : ℕ). m * m * n) (under_falls H d d' p e) in
      let t : m * m * under_n H a b ≤ 2 * (k * higher_sum H m a b) = omega (arith, most-down k e) in
      rw (whole_slanted H k p) (omega (arith, mul-le-mul_left H t))

-- ---- the area under an edge, and no other number
under_way : (a b : ℤ) → Way (plus a) (minus a) (plus b) (minus b) (nat_abs (b -ℤ a))
under_way a b = rw (rise_is (diff_of a) (diff_of b)) (way (plus a) (minus a) (plus b) (minus b))

pub under_area : (H : ℕ) (a b : ℤ) → Area H a b (under_n H a b) (under_d H (nat_abs (b -ℤ a)))
under_area H a b =
    record {
      above = λ m. least-is H m (diff_of a) (diff_of b) (under_way a b);
      below = λ m. most-is H m (diff_of a) (diff_of b) (under_way a b);
    }

-- two numbers that m slices hold are at most one slice apart
apart_by : (H m n d n' d' low high : ℕ) → 0 < H → 0 < m → high ≤ low + m * H → n * (m * m * H) ≤ high * d → low * d' ≤ n' * (m * m * H)
    → n * d' * m ≤ n' * d * m + d * d'
apart_by H m n d n' d' low high p q h b a =
    le_of_mul-le-mul_left {k = m * H} (omega (arith, mul-le-mul_right d' b, mul-le-mul_right (d * d') h, mul-le-mul_right d a)) (mul-le-mul q p)

at_most : (x y c : ℕ) → x * suc c ≤ y * suc c + c → x ≤ y
at_most x y c h = ⊎_elim (λ (t : y < x). absurd (omega (arith, mul-le-mul_right (suc c) t))) (λ t. t) (lt_or_le y x)

pub only_area : (H : ℕ) (a b : ℤ) (n d n' d' : ℕ) → 0 < H → Area H a b n d → Area H a b n' d' → n * d' ≡ n' * d
only_area H a b n d n' d' p s t =
    let c : ℕ = d * d' in
    let m : ℕ = suc c in
    let g = near H m (diff_of a) (diff_of b) (under_way a b) in
    let q : n * d' ≤ n' * d = at_most (n * d') (n' * d) c (apart_by H m n d n' d' _ _ p (omega arith) g (s.below m) (t.above m)) in
    let r : n' * d ≤ n * d' = at_most (n' * d) (n * d') c (omega (arith, apart_by H m n' d' n d _ _ p (omega arith) g (t.below m) (s.above m))) in
    omega arith

-- ---- so of an edge with ends on whole columns
module _ (u i m : ℕ) (p q : ℤ) where
  pub edge_area : Area (u * (i + 1 + m)) (height_at i (m + 1) p q) (height_at (i + 1) m p q) (edge_n u i m p q) (edge_d u (i + 1 + m) p q)
  unfolding edge_n edge_d
  edge_area = rw (rise_same u i m (diff_of p) (diff_of q)) at (under_area (u * (i + 1 + m)) (height_at i (m + 1) p q) (height_at (i + 1) m p q))

  pub edge_only : (n d : ℕ) → 0 < u → Area (u * (i + 1 + m)) (height_at i (m + 1) p q) (height_at (i + 1) m p q) n d
      → n * edge_d u (i + 1 + m) p q ≡ edge_n u i m p q * d
  edge_only n d h a =
      only_area (u * (i + 1 + m)) (height_at i (m + 1) p q) (height_at (i + 1) m p q) n d _ _ (let g : 1 ≤ i + 1 + m = omega arith in mul-le-mul h g) a edge_area

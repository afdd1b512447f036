-- Laws of the heights of a circle.
use mathlib.Core.Path.{◌≡◌, refl, ap, ◌∙◌}
use mathlib.Core.Logic.{◌⊎◌, inl, inr, ⊎_elim}
use Prim.Native.Nat.{ℕ, zero, suc, ◌+◌, ◌*◌, ◌-◌, ◌≤◌, ◌<◌}
use native.Mathlib.Omega.{arith}
use lib.ListN.{get_or, replicate}
use borrow.Author.Tests.{le-leb, lt-leb}
use Rattle.numbers.proofs.Order.{lt_or_le, square_le}
use Rattle.chords.specs.Circle.{half_root, height_of, Between}

-- ---- half a root, searched downwards from b

-- the odd number below t is that above t − 1
odd : (t : ℕ) → 0 < t → 2 * t - 1 ≡ 2 * (t - 1) + 1
odd t h = omega arith

-- b + 1 where its odd square is at most m, else what is found from b
search_step : (b m : ℕ) (P : ℕ → Type 0)
    → ((2 * suc b - 1) * (2 * suc b - 1) ≤ m → P (suc b))
    → (m < (2 * suc b - 1) * (2 * suc b - 1) → P (half_root b m))
    → P (half_root (suc b) m)
unfolding half_root
search_step b m P found next =
    let o = (2 * suc b - 1) * (2 * suc b - 1) in
    ⊎_elim (λ h. rw (lt-leb o m h) (next h)) (λ h. rw (le-leb o m h) (found h)) (lt_or_le m o)

pub half_root_le : (b m : ℕ) → half_root b m ≤ b
unfolding half_root
half_root_le zero m = omega arith
half_root_le (suc b) m = search_step b m (λ r. r ≤ suc b) (λ h. omega arith) (λ h. omega (arith, half_root_le b m))

-- its odd square is at most m, unless it is 0
pub half_root_low : (b m : ℕ) → (half_root b m ≡ 0) ⊎ ((2 * half_root b m - 1) * (2 * half_root b m - 1) ≤ m)
unfolding half_root
half_root_low zero m = inl refl
half_root_low (suc b) m = search_step b m (λ r. (r ≡ 0) ⊎ ((2 * r - 1) * (2 * r - 1) ≤ m)) inr (λ h. half_root_low b m)

-- and it is the greatest such number up to b
pub half_root_most : (b m t : ℕ) → t ≤ b → (2 * t - 1) * (2 * t - 1) ≤ m → t ≤ half_root b m
unfolding half_root
half_root_most zero m t h k = h
half_root_most (suc b) m t h k = search_step b m (λ r. t ≤ r) (λ _. h) (λ less. half_root_most b m t (below less (lt_or_le b t)) k)
  where
    below : m < (2 * suc b - 1) * (2 * suc b - 1) → (b < t) ⊎ (t ≤ b) → t ≤ b
    below less (inl g) = absurd (omega (arith, square_le {a = 2 * suc b - 1} {b = 2 * t - 1} (omega arith)))
    below less (inr g) = g

-- more under the root, no smaller a result
pub half_root_rises : (b c m n : ℕ) → half_root b m ≤ c → m ≤ n → half_root b m ≤ half_root c n
half_root_rises b c m n h k = ⊎_elim (λ e. omega arith) (λ e. half_root_most c n (half_root b m) h (omega arith)) (half_root_low b m)

-- where m is below the odd square above y, the result is at most y, and the search may start there
pub half_root_from : (b m y : ℕ) → y ≤ b → m < (2 * y + 1) * (2 * y + 1) → half_root b m ≡ half_root y m
half_root_from b m y h k =
    let most = ⊎_elim (λ e. omega arith) (λ e. under (half_root b m) e (lt_or_le y (half_root b m))) (half_root_low b m) in
    omega (arith, half_root_rises b y m m most (omega arith), half_root_rises y b m m (omega (arith, half_root_le y m)) (omega arith))
  where
    under : (t : ℕ) → (2 * t - 1) * (2 * t - 1) ≤ m → (y < t) ⊎ (t ≤ y) → t ≤ y
    under t e (inl g) = absurd (omega (arith, square_le {a = 2 * y + 1} {b = 2 * t - 1} (omega arith)))
    under t e (inr g) = g

pub half_root_none : (m : ℕ) → half_root 0 m ≡ 0
unfolding half_root
half_root_none m = refl

-- m below the odd square above b is below that above the result
pub half_root_high : (b m : ℕ) → m < (2 * b + 1) * (2 * b + 1) → m < (2 * half_root b m + 1) * (2 * half_root b m + 1)
unfolding half_root
half_root_high zero m h = h
half_root_high (suc b) m h =
    let e : 2 * suc b - 1 ≡ 2 * b + 1 = omega arith in
    search_step b m (λ r. m < (2 * r + 1) * (2 * r + 1)) (λ _. h) (λ k. half_root_high b m (rw e at k))

pub half_root_here : (t m : ℕ) → (2 * t - 1) * (2 * t - 1) ≤ m → half_root t m ≡ t
half_root_here t m h = omega (arith, half_root_most t m t (omega arith) h, half_root_le t m)

pub half_root_found : (t m : ℕ) → (2 * t + 1) * (2 * t + 1) ≤ m → half_root (t + 1) m ≡ t + 1
half_root_found t m h = let e : 2 * (t + 1) - 1 ≡ 2 * t + 1 = omega arith in half_root_here (t + 1) m (rw e h)

-- a number whose odd squares m lies between
pub half_root_is : (b m u : ℕ) → m < (2 * b + 1) * (2 * b + 1) → (2 * u + 1) * (2 * u + 1) ≤ m → m < (2 * u + 3) * (2 * u + 3) → half_root b m ≡ u + 1
half_root_is b m u top low high =
    let under = ⊎_elim (λ h. h) (λ h. absurd (omega (arith, square_le {a = 2 * b + 1} {b = 2 * u + 1} (omega arith)))) (lt_or_le u b) in
    let above : 2 * (u + 1) + 1 ≡ 2 * u + 3 = omega arith in
    half_root_from b m (u + 1) (omega arith) (rw above high) ∙ half_root_found u m low

-- ---- heights

-- 256·R is above every height of the circle
pub height-top : (R k : ℕ) → 262144 * (R * R - k * k) < (2 * (256 * R) + 1) * (2 * (256 * R) + 1)
height-top R k = omega arith

pub height-most : (R k : ℕ) → height_of R k ≤ 256 * R
unfolding height_of
height-most R k = half_root_le (256 * R) (262144 * (R * R - k * k))

-- heights fall from the centre outwards, and rise with the radius
pub height-falls : (R j k : ℕ) → j ≤ k → height_of R k ≤ height_of R j
unfolding height_of
height-falls R j k h =
    half_root_rises (256 * R) (256 * R) (262144 * (R * R - k * k)) (262144 * (R * R - j * j)) (height-most R k) (omega (arith, square_le h))

pub height-rises : (R S k : ℕ) → R ≤ S → height_of R k ≤ height_of S k
unfolding height_of
height-rises R S k h =
    half_root_rises (256 * R) (256 * S) (262144 * (R * R - k * k)) (262144 * (S * S - k * k))
    (omega (arith, height-most R k))
    (omega (arith, square_le h))

-- from the radius on there is no height
pub height_beyond : (R k : ℕ) → R ≤ k → height_of R k ≡ 0
unfolding height_of
height_beyond R k h =
    let m = 262144 * (R * R - k * k) in
    half_root_from (256 * R) m 0 (omega arith) (omega (arith, square_le h)) ∙ half_root_none m

-- an array of zeros, in which the heights are filled
pub zeros : (n k : ℕ) → ◌≡◌ {A = ℕ} (get_or (replicate n 0) k 0) 0
zeros zero k = refl
zeros (suc n) zero = refl
zeros (suc n) (suc k) = zeros n k

-- within it there is one, and what stands under the root lies between two odd squares: no height is a tie
pub height-between : (R k : ℕ) → k < R → Between (262144 * (R * R - k * k)) (height_of R k)
unfolding height_of
height-between R k h =
    let m = 262144 * (R * R - k * k) in
    between (R * R - k * k) (height_of R k)
    (half_root_most (256 * R) m 1 (omega arith) (omega (arith, square_le {a = k + 1} {b = R} (omega arith))))
    (half_root_low (256 * R) m)
    (half_root_high (256 * R) m (height-top R k))
  where
    between : (x y : ℕ) → 0 < y → (y ≡ 0) ⊎ ((2 * y - 1) * (2 * y - 1) ≤ 262144 * x) → 262144 * x < (2 * y + 1) * (2 * y + 1) → Between (262144 * x) y
    between x y some (inl e) high = absurd (omega arith)
    between x y some (inr low) high =
        let e = ap (λ (z : ℕ). z * z) (odd y some) in
        record { some = some; low = omega (arith, e); high = high }

-- a height is found by its two odd squares
pub height-is : (R k y : ℕ) → y ≤ 256 * R → (2 * y - 1) * (2 * y - 1) ≤ 262144 * (R * R - k * k) → 262144 * (R * R - k * k) < (2 * y + 1) * (2 * y + 1) → height_of R k ≡ y
unfolding height_of
height-is R k y h low high =
    let m = 262144 * (R * R - k * k) in
    half_root_from (256 * R) m y h high ∙ half_root_here y m low

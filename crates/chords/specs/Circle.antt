-- Discs and rings by the chord rule: a pixel's coverage is taken from the heights of the circle over its two sides (R5).
use Rattle.std.specs.Prelude.{cond, ℕ, zero, suc, ◌+◌, ◌*◌, ◌-◌, ◌<◌, min, max, leb, ℤ, pos, negsuc, ◌-ℤ◌}

-- the whole number nearest to half the square root of m, where that is at most b: the greatest y up to b with (2y − 1)² ≤ m, or 0
unfoldable pub half_root : ℕ → ℕ → ℕ
half_root zero m = 0
half_root (suc b) m = cond (leb ((2 * suc b - 1) * (2 * suc b - 1)) m) (suc b) (half_root b m)

-- Y(k): the whole number nearest to 256 times the square root of R² − k² for k ≤ R, and 0 beyond, where the difference is cut at 0.
-- 256 times that root is half the root of 2^18·(R² − k²), and it is at most 256·R
unfoldable pub height_of : ℕ → ℕ → ℕ
height_of R k = half_root (256 * R) (262144 * (R * R - k * k))

-- half the root of m is less than one half from y, above 0: y is the whole number nearest to it, and there is no tie
pub record Between (m y : ℕ) : Type 0 where
  pub some : 0 < y
  pub low : (2 * y - 1) * (2 * y - 1) < m
  pub high : m < (2 * y + 1) * (2 * y + 1)

-- a coordinate relative to the centre: a negative c becomes −c−1
unfoldable pub folded : ℤ → ℕ
folded (pos c) = c
folded (negsuc c) = c

-- C(k): Y(k) − 256·n brought into 0 to 256
unfoldable pub chord : (ℕ → ℕ) → ℕ → ℕ → ℕ
chord Y n k = min (Y k - 256 * n) 256

-- C(m) + C(m + 1), m the smaller and n the larger of the two folded coordinates
unfoldable pub chords : (ℕ → ℕ) → ℕ → ℕ → ℕ
chords Y a b = chord Y (max a b) (min a b) + chord Y (max a b) (min a b + 1)

-- the coverage over 512 of pixel (x, y) by the disc of radius R at (cx, cy); disc 0 covers nothing, since its heights are 0
unfoldable pub disc_cover : ℕ → ℤ → ℤ → ℤ → ℤ → ℕ
disc_cover R cx cy x y = chords (height_of R) (folded (x -ℤ cx)) (folded (y -ℤ cy))

-- by the ring of radius R and width w: that of disc R less that of disc R − w
unfoldable pub ring_cover : ℕ → ℕ → ℤ → ℤ → ℤ → ℤ → ℕ
ring_cover R w cx cy x y = disc_cover R cx cy x y - disc_cover (R - w) cx cy x y

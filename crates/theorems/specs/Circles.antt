-- The heights of a circle, and what discs and rings make of them (R5.1 to R5.3).
use Rattle.std.specs.Prelude.{◌≡◌, ℕ, ◌+◌, ◌*◌, ◌-◌, ◌≤◌, ◌<◌, ℤ}
use Rattle.chords.specs.Circle.{height_of, Between, disc_cover, ring_cover}

pub record Circles : Type 0 where
  -- Y(k) is the whole number nearest to 256·√(R² − k²), which is half the root of 2^18·(R² − k²); there is never a tie (R5.1)
  pub height-between : (R k : ℕ) → k < R → Between (262144 * (R * R - k * k)) (height_of R k)
  -- and 0 from the radius on (R5.1)
  pub height_beyond : (R k : ℕ) → R ≤ k → height_of R k ≡ 0
  -- heights fall from the centre outwards, and rise with the radius (R5.1)
  pub height-falls : (R j k : ℕ) → j ≤ k → height_of R k ≤ height_of R j
  pub height-rises : (R S k : ℕ) → R ≤ S → height_of R k ≤ height_of S k
  -- no ring is negative: its coverage and that of the disc inside it are that of the disc around it (R5.3)
  pub ring_whole : (R w : ℕ) (cx cy x y : ℤ) → ring_cover R w cx cy x y + disc_cover (R - w) cx cy x y ≡ disc_cover R cx cy x y
  -- a disc of radius 0 covers nothing (R5.3)
  pub disc_none : (cx cy x y : ℤ) → disc_cover 0 cx cy x y ≡ 0

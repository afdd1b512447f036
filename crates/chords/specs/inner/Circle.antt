-- Distances from a circle's centre, and the search for its heights.
use Rattle.std.specs.Prelude.{◌≡◌, List, ℕ, ◌+◌, ◌-◌, ◌*◌, ◌≤◌, ◌<◌, length, get_or}
use Rattle.limits.specs.Limits.{radius_most}
use Rattle.chords.specs.Circle.{half_root, height_of}

-- above every height of a circle
abbrev pub height_most : ℕ
height_most = 256 * (radius_most + 1)

-- how far a pixel is from the centre along one axis, by the offsets x and c: `folded (x − c)`
abbrev pub apart : ℕ → ℕ → ℕ
apart c x = (x - c) + (c - x - 1)

-- an array of zeros, filled with the heights of the circle of radius R
pub record Held (R : ℕ) (zeros hs : List ℕ) : Type 0 where
  pub each : (k : ℕ) → get_or hs k 0 ≡ height_of R k
  pub size : length hs ≡ length zeros

-- a search for half a root by halves: what holds it stays around it, and gets narrower
pub record Around (b m low high : ℕ) : Type 0 where
  pub least : low ≤ half_root b m
  pub less : half_root b m < high
  pub most : high ≤ b + 1

pub record Narrowed (low high m low' high' : ℕ) : Type 0 where
  pub around : (b : ℕ) → Around b m low high → Around b m low' high'
  pub smaller : high' + low < high + low'
  pub ordered : low' < high'

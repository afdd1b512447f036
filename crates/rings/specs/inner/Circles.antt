-- The coverage of a ring by the heights that are held.
use Rattle.std.specs.Prelude.{◌≡◌, ℕ, ◌≤◌, ◌<◌}
use Rattle.rings.specs.declared.Circles.{Circles}
use Rattle.rings.specs.declared.Widths.{Widths}
use Rattle.rings.specs.inner.Heights.{at, between}

-- the coverage over 512 at the distances a and b
abbrev pub cover : Circles → ℕ → ℕ → ℕ
cover circles = between (at circles.outer.now) (at circles.inner.now)

-- in the row at distance b nothing is covered below `hole`, all is from `inner` to `whole`, and nothing from `outer` on
pub record Measured (circles : Circles) (b : ℕ) (row : Widths) : Type 0 where
  pub order : (row.hole ≤ row.inner) × (row.inner ≤ row.whole) × (row.whole ≤ row.outer) × (row.outer ≤ circles.ring.radius)
  pub hole_none : (a : ℕ) → a < row.hole → cover circles a b ≡ 0
  pub whole-all : (a : ℕ) → row.inner ≤ a → a < row.whole → cover circles a b ≡ 512
  pub outer-none : (a : ℕ) → row.outer ≤ a → cover circles a b ≡ 0

-- Laws of the columns and rows of a clip.
use Prim.Native.Nat.{ℕ, ◌+◌, ◌≤◌, ◌<◌}
use native.Mathlib.Omega.{arith}
use Rattle.numbers.specs.inner.Offset.{origin}
use Rattle.page.specs.inner.Paint.{clamped}

pub clamped_low : (lo hi c : ℕ) → lo ≤ hi → lo ≤ clamped lo hi c
clamped_low lo hi c h = omega arith

pub clamped_high : (lo hi c : ℕ) → clamped lo hi c ≤ hi
clamped_high lo hi c = omega arith

pub clamped-rises : (lo hi c d : ℕ) → c ≤ d → clamped lo hi c ≤ clamped lo hi d
clamped-rises lo hi c d h = omega arith

-- the offsets of what lies before a clamped one, from one on, and from one up to another
pub before-clamped : (lo hi c x : ℕ) → lo ≤ x → x < clamped lo hi c → x + origin < c
before-clamped lo hi c x h k = omega arith

pub from_clamped : (lo hi c x : ℕ) → x < hi → clamped lo hi c ≤ x → c ≤ x + origin
from_clamped lo hi c x h k = omega arith

pub between-clamped : (lo hi c d x : ℕ) → lo ≤ hi → clamped lo hi c ≤ x → x < clamped lo hi d → (c ≤ x + origin) × (x + origin < d)
between-clamped lo hi c d x h p q = (
  from_clamped lo hi c x (omega (arith, clamped_high lo hi d)) p,
  before-clamped lo hi d x (omega (arith, clamped_low lo hi c h)) q,
)

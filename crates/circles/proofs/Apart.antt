-- Laws of distances from a centre.
use Rattle.std.proofs.Common.{ℕ, ◌+◌, ◌-◌, ◌≤◌, ◌<◌, arith}
use Rattle.chords.specs.inner.Circle.{apart}

-- nearer to c than d, or at least as far on its left or on its right
pub apart-near : (c d x : ℕ) → c - d ≤ x → x < c + d → apart c x < d
apart-near c d x h k = omega arith

pub apart-left : (c d x : ℕ) → x < c - d → d ≤ apart c x
apart-left c d x h = omega arith

pub apart-right : (c d x : ℕ) → c + d ≤ x → d ≤ apart c x
apart-right c d x h = omega arith

-- The bracket keeps the height between its ends and gets narrower, until it holds one number.
use Prim.Native.Nat.{◌*◌, ◌-◌, ◌<◌}
use Rattle.chords.specs.inner.Circle.{Around}
use Rattle.chords.proofs.height_at.Given as goal

abbrev pub invariant-loop-bracket : goal.invariant-loop-bracket
invariant-loop-bracket l = Around (256 * l.radius) l.m l.bracket.low l.bracket.high × (l.bracket.low < l.bracket.high)

abbrev pub decreases-loop-bracket : goal.decreases-loop-bracket
decreases-loop-bracket l = l.bracket.high - l.bracket.low

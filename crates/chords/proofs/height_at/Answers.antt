-- The bracket keeps the height between its ends and gets narrower, until it holds one number.
use mathlib.Core.Path.{sym}
use Prim.Native.Nat.{◌*◌, ◌-◌}
use native.Mathlib.Omega.{arith}
use Rattle.chords.specs.Circle.{height_of}
use Rattle.chords.proofs.Height.{height_beyond}
use Rattle.chords.proofs.Chord.{around-start}
use Rattle.chords.proofs.height_at.Goals as goal

pub returns-then-radius-k : goal.returns-then-radius-k
returns-then-radius-k c = sym (height_beyond c.args.radius c.args.k (omega arith))

pub loop-bracket-init : goal.loop-bracket-init
loop-bracket-init c =
    let a = c.args in
    (around-start (256 * a.radius) (262144 * (a.radius * a.radius - a.k * a.k)), omega arith)

pub returns : goal.returns
unfolding height_of
returns c = omega (arith, c.loop-bracket.invariant.0.least, c.loop-bracket.invariant.0.less)

-- The turn at k has given codes 0 to k − 1 their lights.
use Rattle.std.proofs.Common.{◌≡◌, ℕ, ◌<◌, length}
use Rattle.lights.specs.Lights.{light_of}
use Rattle.lights.proofs.code_lights.Given as goal

abbrev pub invariant-loop-k : goal.invariant-loop-k
invariant-loop-k l = (length l.lights ≡ 256) × ((i : ℕ) → i < l.k → light_of l.lights i ≡ i)

-- What is put, with the text of the levels that are left, is the whole text. Four bytes are enough for a level.
use Rattle.std.proofs.Common.{◌*◌, ◌≤◌, drop}
use Rattle.text.specs.Text.{levels_text}
use Rattle.text.proofs.Written.{Putting}
use Rattle.text.proofs.Text.put_levels.Given as goal

abbrev pub invariant-loop-level : goal.invariant-loop-level
invariant-loop-level l =
    (l.x ≤ l.level-index) × Putting l.initial.self l.self (levels_text l.w 0 l.levels) (levels_text l.w l.x (drop l.level-index l.levels)) (4 * l.level-index)

-- The ceiling that is told is that of the list.
use Rattle.std.proofs.Common.{◌∙◌, ap}
use Rattle.answers.specs.List.{check_answer}
use Rattle.greystroke.proofs.Ceiling.{told_within}
use Rattle.greystroke.proofs.list.greystroke_check_list.Goals as goal

pub returns-clause-touches_within : goal.returns-clause-touches_within
returns-clause-touches_within c = told_within _ c.args.list.now (c.into.ensures ∙ ap check_answer c.check_list.ensures)

-- Each byte is the level.
use Rattle.std.proofs.Common.{◌∙◌}
use Rattle.page.proofs.Over.{over_level}
use Rattle.page.proofs.fill.Goals as goal

pub returns : goal.returns
returns c = c.fill.ensures.after (λ y e. e) ∙ over_level c.args.v c.args.stretch.now

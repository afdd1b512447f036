-- The text of what comes of the list in lights equal to codes, with the page that it leaves.
use Rattle.std.proofs.Common.{◌∙◌, ap₂, subst, List, ℕ, arith}
use Rattle.drawing.specs.Claim.{Claim}
use Rattle.drawing.specs.Outcome.{numbered_outcome}
use Rattle.drawing.proofs.Claim.{claimed_outcome}
use Rattle.print.specs.Printed.{outcome_text, list_text}
use Rattle.print.proofs.put_list.Goals as goal

pub returns : goal.returns
unfolding list_text
returns c =
    let claim = subst (λ (lights : List ℕ). Claim lights c.args.list.now c.args.page.now (numbered_outcome c.draw_list-outcome.result) c.draw_list-outcome.new.page) c.code_lights-lights.ensures c.draw_list-outcome.ensures in
    (c.put_outcome.ensures.0 ∙ ap₂ outcome_text (claimed_outcome claim) claim.page, omega arith)

-- The clipped line is its strip in the columns of `walk_of`, which has nothing where they are none.
use Rattle.std.proofs.Common.{◌∙◌, sym, arith}
use Rattle.std.proofs.lemmas.Bool.Decides.{nat_tests}
use Rattle.page.proofs.Drawn.{drawn-none}
use Rattle.columns.proofs.Strip.{strip-none}
use Rattle.lines.proofs.draw_line.Goals as goal

pub returns-then-is_empty : goal.returns-then-is_empty
returns-then-is_empty g c =
    let k = c.walk_of-columns.ensures in
    drawn-none _ _ _ _ _ (λ x y. sym (k.whole x y) ∙ strip-none _ _ _ _ _ (grind (arith, nat_tests)) x y)

-- The ring has nothing outside its box.
use Rattle.std.proofs.Common.{⊎_elim, arith}
use Rattle.circles.proofs.Box.{boxed-drawn, boxed_empty}
use Rattle.circles.proofs.draw_between.Goals as goal

pub returns-then-part : goal.returns-then-part
returns-then-part g c =
    let none = rw c.box_of-part.ensures at c.then-part.either in
    boxed_empty c.args.view c.args.ring c.requires.0 _ _ (λ x y i. ⊎_elim (λ h. omega arith) (λ h. omega arith) none)

pub returns : goal.returns
returns g c = boxed-drawn c.args.view c.args.ring c.requires.0 (rw c.box_of-part.ensures at c.draw_boxed.ensures)

-- A column has two rows or three, as the rest and 2s come to 2l or not: each case has its own function.
use native.Mathlib.Omega.{arith}
use Rattle.steps.proofs.Steps.{advances}
use Rattle.steps.proofs.step_inside.Goals as goal

pub overflow_add-at : goal.overflow_add-at
overflow_add-at g c =
    let fit = advances c.requires.0 in
    omega (arith, fit.long, fit.short, fit.rest)

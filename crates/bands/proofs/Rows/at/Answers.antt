-- The row g − base is −1, 0 or 1 as g + 1 − base is 0, 1 or 2; every other row has nothing.
use native.Mathlib.Omega.{arith}
use Rattle.bands.proofs.Closed.{row_below, row-lower, row-middle, row-upper, row-above}
use Rattle.bands.proofs.Rows.at.Goals as goal

pub returns-then-g-base : goal.returns-then-g-base
returns-then-g-base c = let a = c.args in row_below a.self a.g a.base (omega arith)

pub returns-in-0 : goal.returns-in-0
returns-in-0 c = let a = c.args in row-lower a.self a.g a.base (omega arith)

pub returns-in-1 : goal.returns-in-1
returns-in-1 c = let a = c.args in row-middle a.self a.g a.base (omega arith)

pub returns-in-2 : goal.returns-in-2
returns-in-2 c = let a = c.args in row-upper a.self a.g a.base (omega arith)

pub returns-in_default : goal.returns-in_default
returns-in_default c = let a = c.args in row-above a.self a.g a.base (omega arith)

-- Ceilings.
use Rattle.touches.proofs.Ceiling.{touches-ceiling}
use Rattle.drawing.proofs.Ceiling.{counts-ceiling}
use Rattle.theorems.specs.Ceilings.{Ceilings}

pub ceilings : Ceilings
ceilings = record { touches-ceiling = touches-ceiling; counts-ceiling = λ lights s l r m. counts-ceiling lights s l m }

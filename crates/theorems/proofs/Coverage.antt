-- Every lawful shape at every pixel.
use Rattle.coverage.proofs.Soundness.{sound, never_whole, drawn_never_whole}
use Rattle.theorems.specs.Coverage.{Coverage}

pub coverage : Coverage
coverage = record { sound = sound; never_whole = never_whole; drawn_never_whole = drawn_never_whole }

-- Squeezed lists.
use Rattle.squeezed.proofs.Alike.{alike-bytes}
use Rattle.squeezed.proofs.Keeps.{room_enough}
use Rattle.theorems.specs.Squeezing.{Squeezing}

pub squeezing : Squeezing
squeezing = record { alike-bytes = alike-bytes; room_enough = room_enough }

-- Zones.
use Rattle.drawing.proofs.Accepted.{accepted_zone_bounded, accepted_margin, accepted_zone_told}
use Rattle.theorems.specs.Zones.{Zones}

pub zones : Zones
zones = record { zone_bounded = accepted_zone_bounded; margin_read_lem = accepted_margin; zone_told = accepted_zone_told }

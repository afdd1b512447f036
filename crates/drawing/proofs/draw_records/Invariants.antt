-- At each record what is left, drawn on the page as it is and added to the count, makes the whole: an end leaves nothing.
use mathlib.Core.Path.{◌≡◌}
use Prim.Native.Nat.{◌-◌}
use lib.ListN.{length}
use Rattle.drawing.proofs.Records.{RemainingOf}
use Rattle.drawing.proofs.draw_records.Given as goal

abbrev pub invariant-loop-palette : goal.invariant-loop-palette
invariant-loop-palette g l =
    RemainingOf (g.P.Palette.lights l.palette) l.basis l.list l.initial.page l.place l.settings l.page l.touched × (length l.page ≡ length l.initial.page)

abbrev pub decreases-loop-palette : goal.decreases-loop-palette
decreases-loop-palette g l = length l.list - l.place

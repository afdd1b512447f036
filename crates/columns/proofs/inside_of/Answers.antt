-- The first column inside is the first above the clip's lowest row, and they end before the first in its highest row or above.
use Prim.Native.Nat.{ℕ, ◌+◌, ◌-◌, ◌*◌}
use native.Mathlib.Omega.{arith}
use Rattle.numbers.specs.inner.Offset.{origin}
use Rattle.bands.specs.inner.Frame.{row_origin}
use Rattle.bands.specs.declared.Frame.{Frame}
use Rattle.bands.proofs.Touched.{row-least, row-less}
use Rattle.columns.specs.declared.layout.Layout.{Layout}
use Rattle.columns.specs.inner.Columns.{PartFits, Part, InsidePart}
use Rattle.columns.proofs.inside_of.Goals as goal

inside : {f : Frame} {lay : Layout} {p e a b : ℕ} → PartFits f p e
    → Part f (2 * f.l * (lay.low + 1 - row_origin)) (2 * f.l * (lay.high - (row_origin + 1))) p e a b
    → InsidePart f lay p e a b
inside {f} {lay} {a = a} {b = b} fit t =
    record {
      least = t.least;
      order = t.order;
      most = t.most;
      inside =
          record {
            above_low = λ h. omega (arith, row-least f.l f.s (lay.low + 1 - row_origin) (a + origin - f.x) fit.long (t.within a (omega arith) h).0);
            below-high = λ h. omega (arith, row-less f.l f.s (lay.high - (row_origin + 1)) (b - 1 + origin - f.x) fit.long (t.within (b - 1) (omega arith) (omega arith)).1);
          };
    }

pub returns : goal.returns
returns c =
    inside c.requires.0
    (rw (c.saturating_sub-above.ensures, c.saturating_sub-below.ensures) at c.part_of.ensures)

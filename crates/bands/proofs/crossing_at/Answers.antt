-- Quotient and remainder of l + 2·s·i by 2·l; as s is at most l and i below l, the quotient is at most l. Column 0 has l, which is
-- less than 2·l.
use mathlib.Core.Path.{◌≡◌, refl, sym}
use Prim.Native.Nat.{ℕ, ◌+◌, ◌*◌, ◌<◌}
use native.Mathlib.Omega.{arith}
use lib.Arith.{digits_div, digits_mod}
use Rattle.bands.specs.Line.{row_of, rest_of}
use Rattle.bands.proofs.Closed.{row_le}
use Rattle.bands.proofs.crossing_at.Goals as goal

first-column : (l s i : ℕ) → 0 < l → i ≡ 0 → (0 ≡ row_of l s i) × (l ≡ rest_of l s i)
unfolding row_of rest_of
first-column l s i long z =
    let e : l + 2 * s * i ≡ 0 * (2 * l) + l = rw z (omega arith) in
    (rw e (sym (digits_div 0 {m = 2 * l} {r = l} (omega arith))), rw e (sym (digits_mod 0 {m = 2 * l} {r = l} (omega arith))))

pub returns-then-i-eq0 : goal.returns-then-i-eq0
returns-then-i-eq0 c =
    let a = c.args in
    let e = first-column a.l a.s a.i (omega arith) c.if-i-eq0.true in
    (e.0, e.1, omega arith, omega arith)

pub returns : goal.returns
unfolding row_of rest_of
returns c = let a = c.args in (refl, refl, row_le a.l a.s a.i (omega arith) (omega arith), omega arith)

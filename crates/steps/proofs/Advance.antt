-- How the row, the rest and the byte of a column come from those of the column before.
use mathlib.Core.Bool.{Bool, true, false, cond}
use mathlib.Core.Path.{◌≡◌, refl, sym, ap, ◌∙◌}
use mathlib.Core.Logic.{⊎_elim}
use Prim.Native.Nat.{ℕ, ◌+◌, ◌-◌, ◌*◌, ◌≤◌, ◌<◌}
use native.Mathlib.Nat.{mul-le-mul, mul-le-mul_right, le-div_iff_mul-le, div-mul-le_self}
use native.Mathlib.Omega.{arith}
use lib.Arith.{digits_div, digits_mod}
use lib.Dec.{leb}
use borrow.Author.Tests.{le-leb, lt-leb}
use Rattle.numbers.specs.inner.Offset.{origin, offset_most}
use Rattle.numbers.proofs.Order.{lt_or_le}
use Rattle.bands.specs.Line.{row_of, rest_of}
use Rattle.bands.specs.declared.Frame.{Frame}
use Rattle.bands.proofs.Closed.{column-is, rest_lt, row_le}
use Rattle.bands.specs.inner.Frame.{row_origin}
use Rattle.columns.specs.inner.Layout.{byte_at, raised, across_by}
use Rattle.steps.specs.inner.Stroke.{At, Advanced}
use Rattle.columns.specs.declared.layout.Layout.{Layout}
use Rattle.steps.specs.declared.Step.{Step}
use Rattle.steps.proofs.Column.{raised_byte}

-- rows only rise
pub row-rises : (l s i j : ℕ) → 0 < l → i ≤ j → row_of l s i ≤ row_of l s j
unfolding row_of
row-rises l s i j long h =
    (le-div_iff_mul-le {k = 2 * l} (omega arith)).1
    (omega (arith, div-mul-le_self (l + 2 * s * i) (2 * l), mul-le-mul {n₁ = s} {m₁ = i} {n₂ = s} {m₂ = j} (omega arith) h))

-- a column whose l + 2·s·i is known
column_from : (l s i q r : ℕ) → r < 2 * l → l + 2 * s * i ≡ q * (2 * l) + r → (row_of l s i ≡ q) × (rest_of l s i ≡ r)
unfolding row_of rest_of
column_from l s i q r h e = (rw e (digits_div q {m = 2 * l} {r = r} h), rw e (digits_mod q {m = 2 * l} {r = r} h))

module _ (l s i : ℕ) (long : 0 < l) (short : s ≤ l) where
  abbrev q : ℕ
  q = row_of l s i

  abbrev r : ℕ
  r = rest_of l s i

  -- l + 2·s·(i + 1) = 2·l·q + (r + 2·s): the rest grows by 2s, and comes to a new row where that is 2l or more
  next-column : (row_of l s (i + 1) ≡ cond (leb (2 * l) (r + 2 * s)) (q + 1) q) × (rest_of l s (i + 1) ≡ cond (leb (2 * l) (r + 2 * s)) (r + 2 * s - 2 * l) (r + 2 * s))
  next-column = ⊎_elim same further (lt_or_le (r + 2 * s) (2 * l))
    where
      same : r + 2 * s < 2 * l → (row_of l s (i + 1) ≡ cond (leb (2 * l) (r + 2 * s)) (q + 1) q) × (rest_of l s (i + 1) ≡ cond (leb (2 * l) (r + 2 * s)) (r + 2 * s - 2 * l) (r + 2 * s))
      same h = rw (lt-leb (2 * l) (r + 2 * s) h) (column_from l s (i + 1) q (r + 2 * s) h (omega (arith, column-is l s i)))

      further : 2 * l ≤ r + 2 * s → (row_of l s (i + 1) ≡ cond (leb (2 * l) (r + 2 * s)) (q + 1) q) × (rest_of l s (i + 1) ≡ cond (leb (2 * l) (r + 2 * s)) (r + 2 * s - 2 * l) (r + 2 * s))
      further h = rw (le-leb (2 * l) (r + 2 * s) h) (column_from l s (i + 1) (q + 1) (r + 2 * s - 2 * l) (omega (arith, rest_lt l s i long)) (omega (arith, column-is l s i)))

byte_next : (f : Frame) (lay : Layout) (p g : ℕ) → byte_at f lay (p + 1) g ≡ byte_at f lay p g + lay.along
byte_next f lay p g = omega arith

-- the row is that of the column before or the next, by the rest; the byte follows it
pub advance : {f : Frame} {lay : Layout} {t : ℕ} {at to : Step} → 0 < f.l → f.s ≤ f.l → f.l ≤ offset_most → f.x ≤ at.p + origin
    → at.p + origin < f.x + f.l → lay.falls ≡ f.falls → At f lay at → Advanced lay f t at to → At f lay to
advance {f} {lay} {t} {at} {to} long short most first last falls-is here next =
    let i : ℕ = at.p + origin - f.x in
    let e : to.p + origin - f.x ≡ i + 1 = omega (arith, next.p_is) in
    let n = next-column f.l f.s i long short in
    let z : leb (2 * f.l) (at.r + 2 * f.s) ≡ leb (2 * f.l) (rest_of f.l f.s i + 2 * f.s) = ap (λ (u : ℕ). leb (2 * f.l) (u + 2 * f.s)) here.r-is in
    let q_most = row_le f.l f.s i short (omega arith) in
    record {
      k_is = next.k_is ∙ rw (next.g_is, next.p_is) (byte (leb (2 * f.l) (at.r + 2 * f.s)) (omega (arith, here.g_is)) (omega (arith, here.g_is)));
      g_is = next.g_is ∙ rw (e, n.0, z, here.g_is) (sum (leb (2 * f.l) (rest_of f.l f.s i + 2 * f.s)) (row_of f.l f.s i));
      r-is = next.r-is ∙ rw (e, n.1, z, here.r-is);
    }
  where
    byte : (b : Bool) → 0 < at.g → at.g + 1 < 2 * row_origin → cond b (raised lay at.k) at.k + lay.along ≡ byte_at f lay (at.p + 1) (cond b (at.g + 1) at.g)
    byte true h₁ h₂ = ap (λ (u : ℕ). u + lay.along) (ap (raised lay) here.k_is ∙ raised_byte f lay falls-is at.p at.g h₁ h₂) ∙ sym (byte_next f lay at.p (at.g + 1))
    byte false h₁ h₂ = ap (λ (u : ℕ). u + lay.along) here.k_is ∙ sym (byte_next f lay at.p at.g)

    sum : (b : Bool) (q : ℕ) → cond b (row_origin + q + 1) (row_origin + q) ≡ row_origin + cond b (q + 1) q
    sum true q = omega arith
    sum false q = refl

-- ---- bounds of bytes

pub byte-least : (falls : Bool) (y g a b : ℕ) → 0 < g → g + 1 < 2 * row_origin → b ≤ a + across_by falls y g * b
byte-least true y g a b h k = omega (arith, mul-le-mul_right {m = 1} {n = y + (2 * row_origin - 1) - g} b (omega arith))
byte-least false y g a b h k = omega (arith, mul-le-mul_right {m = 1} {n = y + g} b (omega arith))

row-most : (falls : Bool) (y g : ℕ) → y ≤ offset_most → g + 1 < 2 * row_origin → across_by falls y g ≤ 65535
row-most true y g h k = omega arith
row-most false y g h k = omega arith

pub byte-most : (falls : Bool) (p y g a b : ℕ) → p ≤ 1024 → y ≤ offset_most → g + 1 < 2 * row_origin → a ≤ 1024 → b ≤ 1024 → (p + origin) * a + across_by falls y g * b ≤ 134217728
byte-most falls p y g a b hp hy hg ha hb =
    omega (arith, mul-le-mul {n₁ = p + origin} {m₁ = a} {n₂ = 5120} {m₂ = 1024} (omega arith) ha, mul-le-mul {m₁ = b} {m₂ = 1024} (row-most falls y g hy hg) hb)

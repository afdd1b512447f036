-- One column of a walk.
use mathlib.Core.Bool.{true}
use mathlib.Core.Logic.{⊎_elim}
use mathlib.Core.Path.{◌≡◌, ap, ◌∙◌}
use mathlib.Core.List.{List}
use Prim.Native.Nat.{ℕ, ◌+◌, ◌-◌, ◌*◌, ◌≤◌, ◌<◌}
use native.Mathlib.Nat.{eq-zero-or-pos}
use native.Mathlib.Omega.{arith}
use lib.ListN.{length}
use borrow.Author.Tests.{le-leb, lt-ltb}
use Rattle.numbers.specs.inner.Offset.{origin}
use Rattle.bands.specs.inner.Rows.{rows_of, cut_excess}
use Rattle.bands.specs.declared.Frame.{Frame}
use Rattle.bands.specs.declared.Rows.{Rows}
use Rattle.bands.specs.inner.Frame.{row_origin, Framed}
use Rattle.coverage.specs.inner.OnPage.{shape_on}
use Rattle.shapes.specs.declared.Shape.TheVariants.{Line as line}
use Rattle.bands.proofs.Closed.{rest_lt, row_le}
use Rattle.bands.proofs.Column.{Filled, filled as rows-filled}
use Rattle.page.specs.inner.Paint.{touch, Lawful, Drawn}
use Rattle.columns.specs.inner.Layout.{along_end, strip, Laid, shown, spotted, raised, lowered, columned, column_count, Reachable}
use Rattle.steps.specs.inner.Stroke.{At, NextFits, Advanced, Standing, Steppable, Inner, Stepped}
use Rattle.columns.specs.declared.layout.Layout.{Layout}
use Rattle.steps.specs.declared.Step.{Step}
use Rattle.steps.specs.declared.Stroke.{Stroke}
use Rattle.columns.proofs.RowPixel.{byte_on_page}
use Rattle.steps.proofs.Column.{raised_byte, lowered-byte, column-drawn}
use Rattle.steps.proofs.Advance.{advance, byte-least, byte-most}
use Rattle.columns.proofs.Fits.{Covers, rows_cover, whole-fits, layout_le, along-most}

module _ {s : Stroke} {size : ℕ} {at : Step} (here : Steppable s at size) where
  abbrev f : Frame
  f = s.frame

  abbrev lay : Layout
  lay = s.layout

  framed : Framed s.line f
  framed = here.ready.framed

  laid : Laid s.view f lay
  laid = here.ready.laid

  lawful : Lawful s.view size
  lawful = here.ready.lawful

  stand : Standing s at
  stand = here.standing

  is : At f lay at
  is = stand.is

  -- the frame's column
  abbrev i : ℕ
  i = at.p + origin - f.x

  end : at.p < along_end s.view f
  end = omega (arith, here.within.right)

  last : at.p + origin < f.x + f.l
  last = omega (arith, here.within.last)

  row-least : 0 < at.g
  row-least = omega (arith, is.g_is)

  row-most : at.g + 1 < 2 * row_origin
  row-most = omega (arith, is.g_is, row_le f.l f.s i framed.short (omega (arith, last, stand.first)), framed.right)

  column-most : at.p ≤ 1024
  column-most = along-most s.view f size at.p lawful (omega (arith, end))

  byte_small : at.k ≤ 134217728
  byte_small =
      let o = layout_le s.view f lay size lawful laid in
      rw is.k_is (byte-most f.falls at.p f.y at.g lay.along lay.across column-most framed.high row-most o.0 o.1)

  pub reaches : Reachable lay at.k at.g size
  reaches =
      let on = byte_on_page s.view f lay size at.p lawful laid framed.high stand.left end in
      let up = ap (raised lay) is.k_is ∙ raised_byte f lay laid.falls-is at.p at.g row-least row-most in
      let low = ap (lowered lay) is.k_is ∙ lowered-byte f lay laid.falls-is at.p at.g row-least row-most in
      record {
        least = rw is.k_is (byte-least f.falls f.y at.g ((at.p + origin) * lay.along) lay.across row-least row-most);
        most = omega (arith, byte_small, (layout_le s.view f lay size lawful laid).1);
        row-least = row-least;
        row-most = row-most;
        upper = λ e. rw up (on (at.g + 1) e);
        middle = λ e. rw is.k_is (on at.g e);
        lower = λ e. rw low (on (at.g - 1) e);
      }

  -- the rows of the column
  abbrev rows_here : Rows
  rows_here = rows_of s.line.exact f.l f.s at.r

  filled : Filled (cut_excess f.l f.s at.r) s.d rows_here
  filled = rw (here.ready.d-is, is.r-is) (rows-filled s.line.exact f.l f.s i framed.long framed.short)

  pub covers : Covers rows_here s.d
  covers = rows_cover filled (rw here.ready.d-is (whole-fits s.line.exact f.l f.s framed.long framed.short (omega (arith, framed.right))))

  -- what the next column asks
  pub advances : NextFits lay f at
  advances =
      record {
        long = omega (arith, framed.right);
        short = framed.short;
        rest = rw is.r-is (rest_lt f.l f.s i framed.long);
        least = reaches.least;
        most = omega (arith, byte_small, layout_le s.view f lay size lawful laid);
        row = omega (arith, row-most);
        column = column-most;
        few = omega (arith, stand.few, column-most);
      }

  module _ (ink : ℕ → ℕ → ℕ) (rows : Rows) (l : List ℕ) (rows_is : rows ≡ rows_here) (same : length l ≡ size) where
    column : Drawn s.view.w s.view.h ink (strip s.view f at.p (at.p + 1) (shape_on (line s.line))) l (columned lay ink rows at.k at.g l) (column_count lay rows at.g)
    column =
        rw (rows_is, is.r-is, is.g_is)
        (column-drawn s.view s.line f lay size at.p lawful framed laid stand.left end stand.first last ink at.k l (omega (arith, lawful.room)) (rw is.g_is at is.k_is))

    pub stepped : (t : ℕ) (to : Step) (m : List ℕ) → Advanced lay f t at to → m ≡ columned lay ink rows at.k at.g l → t ≡ column_count lay rows at.g → t ≤ 3
        → Stepped ink s at to l m
    stepped t to m next m-is t-is few =
        let apart : to.touched - at.touched ≡ t = omega (arith, next.touched-is) in
        record {
          p_is = next.p_is;
          extended =
              record {
                order = omega (arith, next.p_is);
                more = omega (arith, next.touched-is);
                drawn = rw (apart, next.p_is, m-is, t-is) column;
                standing =
                    record {
                      is = advance framed.long framed.short (omega (arith, framed.right)) stand.first last laid.falls-is is next;
                      left = omega (arith, stand.left, next.p_is);
                      first = omega (arith, stand.first, next.p_is);
                      few = omega (arith, stand.few, next.p_is, next.touched-is);
                    };
              };
        }

  -- inside the clip
  module _ (inner : Inner s at) where
    is-shown : (g : ℕ) → at.g ≤ g + 1 → g ≤ at.g + 1 → shown lay g ≡ true
    is-shown g h k = rw (le-leb lay.low g (omega (arith, inner.above_low)), lt-ltb g lay.high (omega (arith, inner.below-high)))

    upper-shown : shown lay (at.g + 1) ≡ true
    upper-shown = is-shown (at.g + 1) (omega arith) (omega arith)

    middle-shown : shown lay at.g ≡ true
    middle-shown = is-shown at.g (omega arith) (omega arith)

    lower-shown : shown lay (at.g - 1) ≡ true
    lower-shown = is-shown (at.g - 1) (omega arith) (omega arith)

    pub upper-byte : (lay.origin ≤ raised lay at.k) × (raised lay at.k - lay.origin < size)
    upper-byte = reaches.upper upper-shown

    pub middle-byte : (lay.origin ≤ at.k) × (at.k - lay.origin < size)
    middle-byte = reaches.middle middle-shown

    pub lower-byte : (lay.origin ≤ lowered lay at.k) × (lowered lay at.k - lay.origin < size)
    lower-byte = reaches.lower lower-shown

    -- the upper row, where it has something, and the two others, which always have
    pub inner_stepped : (ink : ℕ → ℕ → ℕ) (t : ℕ) (rows : Rows) (to : Step) (l l₁ l₂ m : List ℕ) → rows ≡ rows_here → length l ≡ size
        → Advanced lay f (t + 2) at to
        → t ≡ touch rows.upper
        → l₁ ≡ spotted true ink rows.upper (raised lay at.k - lay.origin) l
        → l₂ ≡ spotted true ink rows.middle (at.k - lay.origin) l₁
        → m ≡ spotted true ink rows.lower (lowered lay at.k - lay.origin) l₂
        → Stepped ink s at to l m
    inner_stepped ink t rows to l l₁ l₂ m rows_is same next t-is e₁ e₂ e₃ =
        stepped ink rows l rows_is same (t + 2) to m next
        (rw (upper-shown, middle-shown, lower-shown) (e₃ ∙ rw (e₂, e₁)))
        (rw (upper-shown, middle-shown, lower-shown) (omega (arith, middle-some, lower-some)))
        (omega arith)
      where
        middle-some : 0 < rows.middle
        middle-some = rw rows_is filled.middle-touched

        lower-some : 0 < rows.lower
        lower-some = rw rows_is filled.lower-touched

    -- where the rest and 2s do not come to 2l, the upper row has nothing
    pub flat_upper : (rows : Rows) → rows ≡ rows_here → at.r + 2 * f.s < 2 * f.l → rows.upper ≡ 0
    flat_upper rows e h = let z = filled.upper-touched.0 in rw e (none z (omega arith))
      where
        none : {t n : ℕ} → (0 < n → 0 < t) → t ≡ 0 → n ≡ 0
        none {t} {n} g e = ⊎_elim (λ z. z) (λ z. absurd (omega (arith, g z))) (eq-zero-or-pos n)

-- A walk along several columns.
use mathlib.Core.Path.{◌≡◌, sym, subst}
use mathlib.Core.List.{List}
use Rattle.std.proofs.Common.{length}
use Prim.Native.Nat.{ℕ, ◌+◌, ◌-◌, ◌≤◌, ◌<◌}
use native.Mathlib.Omega.{arith}
use Rattle.numbers.specs.inner.Offset.{origin}
use Rattle.shapes.specs.declared.Shape.TheVariants.{Line as line}
use Rattle.coverage.specs.inner.OnPage.{shape_on}
use Rattle.page.specs.inner.Paint.{Drawn}
use Rattle.page.proofs.Drawn.{drawn-none, drawn_join}
use Rattle.bands.specs.declared.Frame.{Frame}
use Rattle.page.specs.declared.View.{View}
use Rattle.columns.specs.inner.Layout.{EndInside, Between, strip}
use Rattle.steps.specs.inner.Stroke.{At, FirstFits, Prepared, Standing, Steppable, Inner, Extended}
use Rattle.lines.specs.inner.Columns.{Drawable, ColumnsDrawn}
use Rattle.columns.specs.inner.Columns.{Inside}
use Rattle.steps.specs.declared.Step.{Step}
use Rattle.steps.specs.declared.Stroke.{Stroke}
use Rattle.columns.proofs.Strip.{strip_join, strip-none}
use Rattle.steps.proofs.Advance.{row-rises}
use Rattle.columns.proofs.Fits.{layout_le, along-most}

abbrev columns : Stroke → ℕ → ℕ → ℕ → ℕ → ℕ
columns s p e = strip s.view s.frame p e (shape_on (line s.line))

module _ {s : Stroke} where
  pub extended_none : {ink : ℕ → ℕ → ℕ} (at : Step) (l : List ℕ) → Standing s at → Extended ink s at at l l
  extended_none {ink} at l stand =
      let none : at.touched - at.touched ≡ 0 = omega arith in
      record {
        order = omega arith;
        more = omega arith;
        drawn = rw none (drawn-none s.view.w s.view.h ink (columns s at.p at.p) l (strip-none s.view s.frame (shape_on (line s.line)) at.p at.p (omega arith)));
        standing = stand;
      }

  pub extended_join : {ink : ℕ → ℕ → ℕ} {from at to : Step} {l₀ l m : List ℕ} → Extended ink s from at l₀ l → Extended ink s at to l m → Extended ink s from to l₀ m
  extended_join {ink} {from} {at} {to} a b =
      let sum : to.touched - from.touched ≡ (at.touched - from.touched) + (to.touched - at.touched) = omega (arith, a.more, b.more) in
      let join = strip_join s.view s.frame (shape_on (line s.line)) from.p at.p to.p a.order b.order in
      record {
        order = omega (arith, a.order, b.order);
        more = omega (arith, a.more, b.more);
        drawn = rw sum (drawn_join (columns s from.p to.p) join a.drawn b.drawn);
        standing = b.standing;
      }

within-next : {c : View} {f : Frame} {e : ℕ} (p : ℕ) → EndInside c f e → p < e → EndInside c f (p + 1)
within-next p w h = record { right = omega (arith, w.right); last = omega (arith, w.last) }

-- ---- columns p to e

-- a part of columns that may be drawn
pub drawable : {s : Stroke} {size size' p e : ℕ} (a b : ℕ) → size' ≡ size → Prepared s size → Between s.view s.frame p e → p ≤ a → b ≤ e
    → Drawable s a b size'
drawable {s} a b same ready w h k =
    record {
      ready = subst (Prepared s) (sym same) ready;
      between =
          λ z.
          record {
            some = z;
            left = omega (arith, w.left);
            first = omega (arith, w.first);
            end = record { right = omega (arith, w.end.right); last = omega (arith, w.end.last) };
          };
    }

module _ {s : Stroke} {p e size : ℕ} (here : Drawable s p e size) (some : p < e) where
  between : Between s.view s.frame p e
  between = here.between some

  -- where a walk begins
  pub first_fits : FirstFits s.layout s.frame p
  first_fits =
      let f = here.ready.framed in
      let w = here.ready.lawful in
      let o = layout_le s.view s.frame s.layout size w here.ready.laid in
      record {
        first = between.first;
        last = omega (arith, between.end.last);
        long = omega (arith, f.right);
        short = f.short;
        high = f.high;
        column = along-most s.view s.frame size p w (omega (arith, between.end.right));
        along = o.0;
        across = o.1;
        falls-is = here.ready.laid.falls-is;
      }

  pub walk_begins : {at : Step} → At s.frame s.layout at → at.p ≡ p → at.touched ≡ 0 → Standing s at
  walk_begins is p_is zero = record { is = is; left = omega (arith, between.left); first = omega (arith, between.first); few = omega arith }

  -- and where it goes on
  pub steppable : {ink : ℕ → ℕ → ℕ} {at to : Step} {size' : ℕ} {l m : List ℕ} → size' ≡ size → Extended ink s at to l m → to.p < e → Steppable s to size'
  steppable {to = to} same x h =
      record { ready = subst (Prepared s) (sym same) here.ready; standing = x.standing; within = within-next to.p between.end h }

-- rows only rise, so that all columns lie between the first and the last
pub inner-at : {s : Stroke} {p e size : ℕ} {at : Step} → Steppable s at size → Inside s.frame s.layout p e → p ≤ at.p → at.p < e → Inner s at
inner-at {s} {p} {e} {at = at} here in_clip h k =
    let f = s.frame in
    let long = here.ready.framed.long in
    let some : p < e = omega arith in
    record {
      above_low = omega (arith, in_clip.above_low some, here.standing.is.g_is, row-rises f.l f.s (p + origin - f.x) (at.p + origin - f.x) long (omega arith));
      below-high = omega (arith, in_clip.below-high some, here.standing.is.g_is, row-rises f.l f.s (at.p + origin - f.x) (e - 1 + origin - f.x) long (omega arith));
    }

-- a walk that has not come to e goes on
pub goes_on : {ink : ℕ → ℕ → ℕ} {s : Stroke} {p e size : ℕ} {from at : Step} {l m : List ℕ} → Drawable s p e size → from.p ≡ p → length m ≡ size
    → Extended ink s from at l m → at.p < e → Steppable s at (length m) × (p ≤ at.p)
goes_on here first same x more = (steppable here (omega (arith, first, x.order, more)) same x more, omega (arith, first, x.order))

module _ {ink : ℕ → ℕ → ℕ} {s : Stroke} {p e : ℕ} where
  -- a walk that began with no touches and has come to e has drawn them
  pub walked : {from to : Step} {l m : List ℕ} → from.p ≡ p → from.touched ≡ 0 → Extended ink s from to l m → to.p ≤ e → e ≤ to.p → ColumnsDrawn ink s p e l m to.touched
  walked {from} {to} p_is zero x most least =
      let all : to.touched ≡ to.touched - from.touched = omega arith in
      let ended : to.p ≡ e = omega arith in
      record { drawn = rw (← p_is, ← ended, all) x.drawn; few = omega (arith, x.standing.few) }

  pub none-drawn : (l : List ℕ) → e ≤ p → ColumnsDrawn ink s p e l l 0
  none-drawn l h =
      record { drawn = drawn-none s.view.w s.view.h ink (columns s p e) l (strip-none s.view s.frame (shape_on (line s.line)) p e h); few = omega arith }

-- three parts, one after the other
pub three_parts : {ink : ℕ → ℕ → ℕ} {s : Stroke} {p a b e t₁ t₂ t₃ : ℕ} {l l₁ l₂ m : List ℕ} → p ≤ a → a ≤ b → b ≤ e
    → ColumnsDrawn ink s p a l l₁ t₁ → ColumnsDrawn ink s a b l₁ l₂ t₂ → ColumnsDrawn ink s b e l₂ m t₃
    → Drawn s.view.w s.view.h ink (columns s p e) l m (t₁ + t₂ + t₃)
three_parts {s = s} {p} {a} {b} {e} h i j x y z =
    let join = strip_join s.view s.frame (shape_on (line s.line)) in
    drawn_join (columns s p e) (join p b e (omega arith) j) (drawn_join (columns s p b) (join p a b h i) x.drawn y.drawn) z.drawn

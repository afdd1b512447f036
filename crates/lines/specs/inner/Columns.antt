-- Several columns of a stroke.
use Rattle.std.specs.Prelude.{List, ℕ, ◌*◌, ◌≤◌, ◌<◌, length}
use Rattle.std.specs.Borrow.{MutBor}
use Rattle.shapes.specs.declared.Shape.TheVariants.{Line as line}
use Rattle.coverage.specs.inner.OnPage.{shape_on}
use Rattle.page.specs.inner.Paint.{Drawn}
use Rattle.columns.specs.inner.Layout.{strip, Between}
use Rattle.steps.specs.inner.Stroke.{Prepared, Steppable, Stepped}
use Rattle.steps.specs.declared.Step.{Step}
use Rattle.steps.specs.declared.Stroke.{Stroke}

-- columns p to e of a stroke, if there are any, may be drawn on a page of size bytes
pub record Drawable (s : Stroke) (p e size : ℕ) : Type 0 where
  pub ready : Prepared s size
  pub between : p < e → Between s.view s.frame p e

-- what may be called on each of them, and then steps on
abbrev pub Walking : (ℕ → ℕ → ℕ) → Stroke → ℕ → ℕ → (MutBor (List ℕ) → Step → Type 0) → (MutBor (List ℕ) → Step → Step → MutBor (List ℕ) → Type 0) → Type 0
Walking ink s p e pre post =
    (l : MutBor (List ℕ)) (at : Step) → Steppable s at (length l.now) → p ≤ at.p → at.p < e
    → pre l at × ((to : Step) (m : MutBor (List ℕ)) → post l at to m → Stepped ink s at to l.now m.now)

-- they have been drawn, in any ink: the page was l and is m, and t pixels were touched
pub record ColumnsDrawn (ink : ℕ → ℕ → ℕ) (s : Stroke) (p e : ℕ) (l m : List ℕ) (t : ℕ) : Type 0 where
  pub drawn : Drawn s.view.w s.view.h ink (strip s.view s.frame p e (shape_on (line s.line))) l m t
  pub few : t ≤ 3 * e

-- How many pixels are touched at most (R6.6, R10.6).
use Rattle.std.specs.Prelude.{List, ◌≡◌, ℕ, ◌≤◌, length}
use Rattle.numbers.specs.Sum.{total}
use Rattle.limits.specs.Limits.{shape_refusal}
use Rattle.ceilings.specs.Ceiling.{ceiling_under}
use Rattle.shapes.specs.declared.Clip.{Clip}
use Rattle.shapes.specs.declared.Shape.{Shape}
use Rattle.touches.specs.Touch.{touch_count}
use Rattle.format.specs.Format.{header_at}
use Rattle.settings.specs.Ceiling.{ceiling}
use Rattle.lists.specs.List.{page_records}
use Rattle.drawing.specs.Claim.{drawings_by, Claim}
use Rattle.drawing.specs.Outcome.{Outcome}

pub record Ceilings : Type 0 where
  -- no lawful shape touches more pixels of a page of w by h than it counts under the clip (R6.6)
  pub touches-ceiling : (w h : ℕ) (c : Clip) (s : Shape) → shape_refusal s ≡ 0 → touch_count w h c s ≤ ceiling_under c s
  -- the touched counts of a list, those of all players together, are no more than its ceiling (R10.6)
  pub counts-ceiling : (lights s l : List ℕ) (r : Outcome) (m : List ℕ) → Claim lights s l r m
      → total (λ n. n) r.touched ≤ ceiling (drawings_by (header_at s) (page_records s (length l) lights))

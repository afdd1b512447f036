-- Rises are counted from row 0 and the clip's rows from the row origin; a row below row 0 counts as row 0, which every column reaches.
use mathlib.Core.Path.{◌≡◌, ap, ◌∙◌}
use mathlib.Core.Logic.{◌⊎◌, inl, inr, ⊎_elim, ◌↔◌}
use Prim.Native.Nat.{ℕ, ◌+◌, ◌-◌, ◌*◌, ◌≤◌, ◌<◌}
use native.Mathlib.Nat.{mul-le-mul_left}
use native.Mathlib.Omega.{arith}
use Rattle.numbers.proofs.Order.{lt_or_le}
use Rattle.bands.specs.inner.Frame.{row_origin}
use Rattle.bands.specs.declared.Frame.{Frame}
use Rattle.columns.specs.declared.layout.Layout.{Layout}
use Rattle.columns.specs.inner.Columns.{PartFits, Part, TouchedPart, Meets, Misses, edge_in, edge_over}
use Rattle.columns.proofs.touched_of.Goals as goal

-- u rows from the row origin are at most so high
from_origin : (l u h : ℕ) → (2 * l * (u - row_origin) ≤ h) ↔ (2 * l * u ≤ 2 * l * row_origin + h)
from_origin l u h = go (lt_or_le u row_origin)
  where
    go : (u < row_origin) ⊎ (row_origin ≤ u) → (2 * l * (u - row_origin) ≤ h) ↔ (2 * l * u ≤ 2 * l * row_origin + h)
    go (inl k) = let none : u - row_origin ≡ 0 = omega arith in (λ _. omega (arith, mul-le-mul_left (2 * l) k), λ _. rw none (omega arith))
    go (inr k) =
        let e : u ≡ row_origin + (u - row_origin) = omega arith in
        let z : 2 * l * u ≡ 2 * l * row_origin + 2 * l * (u - row_origin) = ap (λ (m : ℕ). 2 * l * m) e ∙ omega arith in
        (λ s. omega arith, λ s. omega arith)

module _ (f : Frame) (lay : Layout) {p e a b : ℕ} (fit : PartFits f p e)
    (part : Part f (2 * f.l * (lay.low - row_origin) + 1 - 2 * f.s) (2 * f.l * (lay.high + 1 - row_origin)) p e a b) where
  -- the edge at the right side of column k is above the floor of the clip's lowest row just where it has come to the first rise, and it has
  -- passed the top of the highest row just where it has come to the second
  floor : (k : ℕ) → (2 * f.l * (lay.low - row_origin) ≤ edge_in f k + 2 * f.s - 1) ↔ (2 * f.l * lay.low ≤ 2 * f.l * row_origin + (edge_in f k + 2 * f.s - 1))
  floor k = from_origin f.l lay.low (edge_in f k + 2 * f.s - 1)

  top : (k : ℕ) → (2 * f.l * (lay.high + 1 - row_origin) ≤ edge_in f k) ↔ (2 * f.l * (lay.high + 1) ≤ edge_over f k)
  top k = from_origin f.l (lay.high + 1) (edge_in f k)

  meets : (k : ℕ) → a ≤ k → k < b → Meets f lay k
  meets k h₁ h₂ =
      let w = part.within k h₁ h₂ in (
        omega (arith, fit.long, (floor k).0 (omega (arith, fit.long, w.0))),
        ⊎_elim (λ z. z) (λ z. absurd (omega (arith, w.1, (top k).1 z))) (lt_or_le (edge_over f k) (2 * f.l * (lay.high + 1))),
      )

  misses_before : (k : ℕ) → p ≤ k → k < a → Misses f lay k
  misses_before k h₁ h₂ = inl (⊎_elim (λ z. absurd (omega (arith, part.before k h₁ h₂, (floor k).1 (by z)))) (λ z. z) (lt_or_le (2 * f.l * lay.low) (edge_over f k + 2 * f.s)))
    where
      by : 2 * f.l * lay.low < edge_over f k + 2 * f.s → 2 * f.l * lay.low ≤ 2 * f.l * row_origin + (edge_in f k + 2 * f.s - 1)
      by z = omega (arith, fit.long)

  touched : TouchedPart f lay p e a b
  touched =
      record {
        least = part.least;
        order = part.order;
        most = part.most;
        within = meets;
        outside = λ k h₁ h₂ o. ⊎_elim (misses_before k h₁) (λ z. inr ((top k).0 (part.behind k z h₂))) o;
      }

pub returns : goal.returns
returns c =
    touched c.args.f c.args.lay c.requires.0
    (rw (c.saturating_sub-2.ensures, c.saturating_sub.ensures, c.saturating_sub-top.ensures) at c.part_of.ensures)

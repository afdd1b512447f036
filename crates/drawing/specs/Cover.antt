-- A drawing that covers a pixel whole (R10.4).
use Rattle.std.specs.Prelude.{true, List, [], ◌∷◌, ◌≡◌, ℕ, pos}
use Rattle.coverage.specs.Coverage.{exact_n, exact_d}
use Rattle.touches.specs.Touch.{keeps}
use Rattle.settings.specs.Drawing.{Drawing}

-- pixel (x, y) is inside the clip of the drawing, and n = d of its exact coverage
pub record Covering (d : Drawing) (x y : ℕ) : Type 0 where
  pub inside : keeps d.settings.clip x y ≡ true
  pub all : exact_n d.shape (pos x) (pos y) ≡ exact_d d.shape

-- none of some drawings covers it whole
unfoldable pub Uncovered : List Drawing → ℕ → ℕ → Type 0
Uncovered [] x y = Unit {0}
Uncovered (d ∷ ds) x y = (Covering d x y → ⊥) × Uncovered ds x y

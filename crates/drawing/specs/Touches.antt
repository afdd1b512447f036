-- The touches of a pixel by the drawings of a list (R6.2).
use Rattle.std.specs.Prelude.{cond, List, [], ◌∷◌, ℕ, pos}
use Rattle.numbers.specs.Fraction.{◌over◌}
use Rattle.coverage.specs.Coverage.{rules_of}
use Rattle.bound.specs.Exact.{Touch}
use Rattle.touches.specs.Touch.{touched}
use Rattle.settings.specs.Drawing.{Drawing}

-- a drawing at pixel (x, y)
abbrev pub touch_of : Drawing → ℕ → ℕ → Touch
touch_of d x y =
    let r = rules_of d.shape in
    record {
      level = d.settings.level;
      drawn = r.drawn.part (pos x) (pos y) over r.drawn.whole;
      exact = r.exact.part (pos x) (pos y) over r.exact.whole;
      off = r.off;
    }

-- the touches of the pixel, in order
unfoldable pub touches_at : List Drawing → ℕ → ℕ → List Touch
touches_at [] x y = []
touches_at (d ∷ ds) x y = cond (touched d.settings.clip d.shape x y) (touch_of d x y ∷ touches_at ds x y) (touches_at ds x y)

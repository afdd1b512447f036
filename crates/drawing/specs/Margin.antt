-- The margin of a pixel and of a zone as they are read from a list, shape by shape, by what the coverage query answers (R10.5).
use Rattle.std.specs.Prelude.{cond, List, [], ◌∷◌, ℕ, eqb, ltb, pos}
use Rattle.numbers.specs.Fraction.{Frac, ◌⊕◌}
use Rattle.coverage.specs.Coverage.{drawn_n, drawn_d}
use Rattle.bound.specs.Exact.{whole, margin_of}
use Rattle.touches.specs.Touch.{keeps}
use Rattle.settings.specs.Drawing.{Drawing}
use Rattle.drawing.specs.Touches.{touch_of}
use Rattle.drawing.specs.Zone.{Zone, zone_sum}

-- a shape covers n over d of a pixel whose margin was b: n = d sets it to 0, any other n above 0 adds the margin m of the touch
unfoldable pub margin_by : ℕ → ℕ → Frac → Frac → Frac
margin_by n d m b = cond (eqb n d) (whole 0) (cond (ltb 0 n) (b ⊕ m) b)

-- a drawing does so inside its clip, with the n and d that a query answers
unfoldable pub margin_then : List ℕ → ℕ → ℕ → Frac → Drawing → Frac
margin_then lights x y b d =
    cond (keeps d.settings.clip x y) (margin_by (drawn_n d.shape (pos x) (pos y)) (drawn_d d.shape) (margin_of lights (touch_of d x y)) b) b

-- the margin b of pixel (x, y) after some drawings
unfoldable pub margin_after : List ℕ → ℕ → ℕ → Frac → List Drawing → Frac
margin_after lights x y b [] = b
margin_after lights x y b (d ∷ ds) = margin_after lights x y (margin_then lights x y b d) ds

-- each pixel begins with 0
abbrev pub margin_read : List ℕ → List Drawing → ℕ → ℕ → Frac
margin_read lights ds x y = margin_after lights x y (whole 0) ds

-- the pixels of a zone, added
abbrev pub zone_read : List ℕ → List Drawing → Zone → Frac
zone_read lights ds = zone_sum (margin_read lights ds)

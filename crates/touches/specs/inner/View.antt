-- A page's size and a clip on it, as the drawing functions take them.
use Rattle.std.specs.Prelude.{ℕ}
use Rattle.shapes.specs.declared.Clip.{Clip}
use Rattle.page.specs.declared.View.{View}

abbrev pub view_of : ℕ → ℕ → Clip → View
view_of w h c = record { w = w; h = h; x0 = c.x0; y0 = c.y0; x1 = c.x1; y1 = c.y1 }

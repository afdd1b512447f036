-- How many pixels a shape touches at most, told by its numbers and the clip alone (R6.6).
use Rattle.std.specs.Prelude.{ℕ, ◌*◌, ◌-◌, min}
use Rattle.shapes.specs.Span.{longer, width, height}
use Rattle.shapes.specs.declared.Clip.{Clip}
use Rattle.shapes.specs.declared.Shape.{Shape}
use Rattle.shapes.specs.declared.Shape.TheVariants.{Line as line, Disc as disc, Ring as ring, Triangle as triangle}

-- a line counts three times its longer span, a disc or a ring four times the radius squared, a triangle its width times its height
unfoldable pub shape_ceiling : Shape → ℕ
shape_ceiling (line n) = 3 * longer n
shape_ceiling (disc d) = 4 * (d.radius * d.radius)
shape_ceiling (ring g) = 4 * (g.radius * g.radius)
shape_ceiling (triangle t) = width t * height t

-- the pixels of a clip
unfoldable pub clip_pixels : Clip → ℕ
clip_pixels c = (c.x1 - c.x0) * (c.y1 - c.y0)

-- under a clip, none counts more than its pixels
unfoldable pub ceiling_under : Clip → Shape → ℕ
ceiling_under c s = min (shape_ceiling s) (clip_pixels c)

-- Where the cuts are apart each leaves pixels in part by itself; else both do.
use Rattle.std.proofs.Common.{rules}
use Rattle.triangles.specs.inner.Row.{between_of}
use Rattle.triangles.proofs.Apart.{overlap_drawn}
use Rattle.triangles.proofs.row.draw_row.Goals as goal

pub returns : goal.returns
returns g c =
    overlap_drawn c.requires c.min.ensures c.max.ensures c.clamp_offset-from.ensures c.clamp_offset-end.ensures
    (c.blend_columns.ensures.drawn (between_of c.args.a c.args.b) (λ z k h p. search rules))

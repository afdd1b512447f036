-- No rows are drawn by nothing; others lie between the ends of the side, which is found first.
use Rattle.std.proofs.Common.{◌*◌, refl, arith}
use Rattle.std.proofs.lemmas.Bool.Decides.{nat_tests}
use Rattle.page.specs.inner.Ink.{ink_of}
use Rattle.sides.specs.inner.Offsets.{at, row_d}
use Rattle.triangles.specs.inner.Row.{beside_on}
use native.Mathlib.Nat.{mul_comm}
use Rattle.triangles.proofs.Rows.{rows_none, rows_back, alike_in, beside, between-rises}
use Rattle.triangles.proofs.draw_half.Goals as goal

pub returns-then-is_empty : goal.returns-then-is_empty
returns-then-is_empty g c =
    let a = c.args in
    rows_none a.view (ink_of (g.P.Palette.lights a.palette) a.level (row_d (at a.a.x a.a.y) (at a.b.x a.b.y) * a.long.now.side.d)) (beside_on a.a.x a.a.y a.b.x a.b.y a.long.now.side)
    a.rows.start a.rows.end a.page.now (grind (arith, nat_tests))

pub new-side-requires : goal.new-side-requires
new-side-requires g c =
    let p = c.requires in
    (p.near.1, between-rises p.crossed.1 (grind (arith, nat_tests)))

pub invariant_of-inks : goal.invariant_of-inks
invariant_of-inks g c =
    let a = c.args in
    let lights = g.P.Palette.lights a.palette in
    let own = c.ink-ink.ensures in
    let both = c.ink-both.ensures in
    let long = a.long.now in
    record {
      whole = rw (both.whole, own.whole, long.whole) refl;
      alike = alike_in lights a.level own.blends own.whole both.blends both.whole;
      alike_too = alike_in lights a.level c.requires.inked long.whole both.blends both.whole;
    }

pub invariant_of-inks-else-long : goal.invariant_of-inks-else-long
invariant_of-inks-else-long g c =
    let a = c.args in
    let lights = g.P.Palette.lights a.palette in
    let own = c.ink-ink.ensures in
    let both = c.ink-both.ensures in
    let long = a.long.now in
    record {
      whole = rw (both.whole, own.whole, long.whole, mul_comm a.long.now.side.d c.new-side.result.d) refl;
      alike = alike_in lights a.level c.requires.inked long.whole both.blends both.whole;
      alike_too = alike_in lights a.level own.blends own.whole both.blends both.whole;
    }

pub returns-then-long : goal.returns-then-long
returns-then-long g c =
    let a = c.args in
    let ink = c.ink-both.ensures.blends in
    beside (g.P.Palette.lights a.palette) a.level a.view c.new-side.result a.long.now.side c.new-side.ensures.1 c.requires.crossed.1
    (rw ink at c.draw_rows.ensures)

pub returns-else-long : goal.returns-else-long
returns-else-long g c =
    let a = c.args in
    let ink = c.ink-both.ensures.blends in
    beside (g.P.Palette.lights a.palette) a.level a.view c.new-side.result a.long.now.side c.new-side.ensures.1 c.requires.crossed.1
    (rows_back a.view c.new-side.result a.long.now.side a.rows.start a.rows.end (rw ink at c.draw_rows-else-long.ensures))

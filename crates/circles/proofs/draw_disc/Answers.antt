-- A disc is what lies between its circle and one of radius 0.
use Rattle.std.proofs.Common.{arith}
use Rattle.limits.specs.Limits.{radius_most}
use Rattle.limits.proofs.Limits.{LawfulCircle, disc_lawful}
use Rattle.shapes.specs.declared.Shape.TheVariants.{Disc as asShape}
use Rattle.coverage.specs.Coverage.{rules_of}
use Rattle.coverage.specs.inner.OnPage.{shape_on}
use Rattle.page.proofs.Drawn.{drawn-same}
use Rattle.circles.proofs.Shape.{disc_on}
use Rattle.circles.proofs.draw_disc.Goals as goal

pub invariant_of-circle : goal.invariant_of-circle
invariant_of-circle g c =
    let d = c.args.disc in
    let k : LawfulCircle radius_most d.x d.y d.radius = disc_lawful d c.requires.1 in
    record {
      within = omega arith;
      most = k.most;
    }

pub draw_between-requires : goal.draw_between-requires
draw_between-requires g c =
    let d = c.args.disc in
    let k : LawfulCircle radius_most d.x d.y d.radius = disc_lawful d c.requires.1 in
    (c.requires.0, c.chord_ink.ensures.whole, rw c.centre-c.ensures (omega (arith, k.x_in.less)), rw c.centre-c.ensures (omega (arith, k.y_in.less)))

pub returns : goal.returns
unfolding rules_of
returns g c =
    drawn-same (shape_on (asShape c.args.disc)) c.requires.0 (disc_on c.args.disc c.requires.1 c.centre-c.ensures)
    (rw c.chord_ink.ensures.blends at c.draw_between.ensures)

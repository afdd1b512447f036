-- Up to the centre the two sides are one stretch; else they are two, which never meet.
use Rattle.std.proofs.Common.{ℕ, arith}
use Rattle.page.proofs.Drawn.{drawn_ext, drawn_join, drawn-count}
use Rattle.mirrored.specs.inner.Mirrored.{row_sides}
use Rattle.mirrored.proofs.Mirrored.{filled_sides, filled-middle}
use Rattle.mirrored.proofs.fill_sides.Goals as goal

pub returns-then-i-eq0 : goal.returns-then-i-eq0
returns-then-i-eq0 g c n whole =
    let a = c.args in
    let d = g.I.Ink.whole a.ink in
    drawn_ext (row_sides a.ring n a.y a.from a.end)
    (filled-middle a.ring n a.y a.from a.end d whole c.requires.2 (omega (arith, c.requires.1.left)) c.if-i-eq0.true)
    (c.fill_row.ensures (g.I.Ink.blends a.ink) d (g.met.I.Ink.some a.ink).0 (rw c.level-v.ensures (g.met.I.Ink.covers a.ink)))

pub overflow_add-result : goal.overflow_add-result
overflow_add-result g c =
    let law = c.requires.0 in
    let a = c.args in
    let ink : ℕ → ℕ → ℕ = g.I.Ink.blends a.ink in
    let d = g.I.Ink.whole a.ink in
    let leaves = g.met.I.Ink.covers a.ink in
    omega (
      arith,
      drawn-count law (c.fill_row-left.ensures ink d (g.met.I.Ink.some a.ink).0 (rw c.level-v.ensures leaves)),
      drawn-count law (c.fill_row-right.ensures ink d (g.met.I.Ink.some a.ink).0 (rw c.level-v.ensures leaves)),
    )

pub returns : goal.returns
returns g c n whole =
    let a = c.args in
    let ink : ℕ → ℕ → ℕ = g.I.Ink.blends a.ink in
    let d = g.I.Ink.whole a.ink in
    let leaves = g.met.I.Ink.covers a.ink in
    drawn_join (row_sides a.ring n a.y a.from a.end)
    (filled_sides a.ring n a.y a.from a.end d whole c.requires.2 (omega (arith, c.requires.1.left)))
    (c.fill_row-left.ensures ink d (g.met.I.Ink.some a.ink).0 (rw c.level-v.ensures leaves))
    (c.fill_row-right.ensures ink d (g.met.I.Ink.some a.ink).0 (rw c.level-v.ensures leaves))

-- The two pixels lie on the page, on either side of the centre, and each is read, blended and stored.
use Rattle.std.proofs.Common.{refl}
use Rattle.mirrored.proofs.Pair.{pair_drawn}
use Rattle.mirrored.proofs.pairs.pair.Goals as goal

pub returns : goal.returns
returns g c =
    let a = c.args in
    rw (c.put-2.ensures, c.put.ensures)
    (pair_drawn c.requires.0 (λ _ _. a.n) a.y a.a c.requires.1 (g.I.Ink.blends a.ink) a.page.now refl)

-- The head, and behind it the levels of the first W-as-H bytes of the page, or of all where it has fewer.
use Rattle.std.proofs.Common.{◌≡◌, ap, ◌∙◌, List, ℕ, ◌*◌, ◌+◌, ◌≤◌, length, take, arith}
use Rattle.std.proofs.Math.Seq.{length-take-le}
use Rattle.text.specs.Text.{page_text}
use Rattle.text.proofs.Written.{put_more, put_within, take_min}
use Rattle.text.proofs.Text.put_page.Goals as goal

pub returns : goal.returns
unfolding page_text
returns c =
    let a = c.args in
    let page : List ℕ = a.page.now in
    let n : ℕ = c.min-n.result in
    let long : length (take n page) ≡ n = length-take-le n page (omega (arith, c.min-n.ensures)) in
    let part : take n page ≡ take (a.w * a.h) page = ap (λ (k : ℕ). take k page) c.min-n.ensures ∙ take_min (a.w * a.h) page in
    let room : 240 + 4 * length (take n page) ≤ 4 * length page + 240 = omega (arith, c.min-n.ensures) in
    rw part at (put_within room (put_more c.put_head.ensures c.put_levels.ensures))

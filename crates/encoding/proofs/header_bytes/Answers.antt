-- The letters N and K are one word, and the background, below 256, has a high byte of 0.
use Rattle.std.proofs.Common.{◌≡◌, ◌/◌, ◌%◌, arith}
use Rattle.format.specs.Format.{header_bytes}
use Rattle.encoding.proofs.header_bytes.Goals as goal

pub returns : goal.returns
unfolding header_bytes
returns c =
    let d = c.args.header in
    let low : d.background % 256 ≡ d.background = omega arith in
    let high : d.background / 256 ≡ 0 = omega arith in
    rw (c.words.ensures, c.from_le_bytes.ensures, c.into.ensures, low, high)

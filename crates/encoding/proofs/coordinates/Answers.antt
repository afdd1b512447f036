-- Each coordinate gives a word.
use Rattle.std.proofs.Common.{◌≡◌, ℕ, ◌<◌, length, get_or, List, ◌∷◌, pos, ap, ◌∙◌, rules}
use Rattle.numbers.specs.Coordinate.{bits_of}
use Rattle.numbers.proofs.Standard.{cast_unsigned_is}
use Rattle.format.specs.inner.Record.{padded}
use Rattle.encoding.proofs.Padding.{coordinates_words}
use Rattle.encoding.proofs.coordinates.Goals as goal

pub returns : goal.returns
returns g c =
    let long : length c.map.result ≡ length c.args.numbers = search rules in
    let each : (i : ℕ) → i < length c.args.numbers → get_or c.map.result i 0 ≡ bits_of (get_or c.args.numbers i (pos 0))
    = λ i h. let called = c.map.ensures.items.at i (pos 0) 0 (search rules) in search (rules, cast_unsigned_is) in
    c.words.ensures ∙ ap (λ (bs : List ℕ). padded (c.args.first ∷ bs)) (coordinates_words c.args.numbers c.map.result long each)

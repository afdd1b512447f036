-- Words and coordinates behind a first byte, and zeros behind them.
use Rattle.std.proofs.Common.{◌≡◌, refl, ap, ◌∙◌, sym, ℕ, suc, ◌+◌, ◌-◌, ◌*◌, ◌<◌, ◌≤◌, List, [], ◌∷◌, ◌++◌, length, get_or, take, ap₂, ℤ, pos, arith, append_assoc, length-append}
use Rattle.std.proofs.Math.ListN.{set, replicate}
use Rattle.std.proofs.lemmas.List.{set_at, take_more, length-take-le}
use Rattle.numbers.specs.Coordinate.{bits_of, bytes_of}
use Rattle.format.specs.Format.{words, coordinates}
use Rattle.format.specs.inner.Record.{record_most, padded}

length-words : (ns : List ℕ) → length (words ns) ≡ 2 * length ns
length-words [] = refl
length-words (n ∷ ns) = omega (arith, length-words ns)

words_push : (ns : List ℕ) (n : ℕ) → words (ns ++ n ∷ []) ≡ words ns ++ bytes_of n
words_push [] n = refl
words_push (m ∷ ns) n = ap (λ (bs : List ℕ). bytes_of m ++ bs) (words_push ns n)

-- two of the zeros behind some bytes are written
two_more : (bs : List ℕ) (p q a b : ℕ) → length bs ≡ p → q ≡ p + 1 → p + 2 ≤ record_most → set (set (padded bs) p a) q b ≡ padded (bs ++ a ∷ b ∷ [])
two_more bs p q a b e f h =
    let zeros : List ℕ = replicate (record_most - (p + 2)) 0 in
    let left : record_most - length bs ≡ suc (suc (record_most - (p + 2))) = omega arith in
    let long = length-append bs (a ∷ b ∷ []) in
    let right : record_most - length (bs ++ a ∷ b ∷ []) ≡ record_most - (p + 2) = omega arith in
    let one = length-append bs (a ∷ []) in
    rw (left, right)
    (ap (λ (l : List ℕ). set l q b) (set_at bs 0 (0 ∷ zeros) a p e ∙ sym (append_assoc bs (a ∷ []) (0 ∷ zeros)))
    ∙ set_at (bs ++ a ∷ []) 0 zeros b q (omega arith)
    ∙ append_assoc bs (a ∷ []) (b ∷ zeros)
    ∙ sym (append_assoc bs (a ∷ b ∷ []) zeros))

pub word_more : (first : ℕ) (ns : List ℕ) (i a b : ℕ) → i < length ns → 2 * i + 3 ≤ record_most → a ∷ b ∷ [] ≡ bytes_of (get_or ns i 0)
    → set (set (padded (first ∷ words (take i ns))) (2 * i + 1) a) (2 * i + 2) b ≡ padded (first ∷ words (take (i + 1) ns))
word_more first ns i a b h k e =
    let long : length (first ∷ words (take i ns)) ≡ 2 * i + 1 = omega (arith, length-words (take i ns), length-take-le i ns (omega arith)) in
    two_more (first ∷ words (take i ns)) (2 * i + 1) (2 * i + 2) a b long (omega arith) (omega arith)
    ∙ ap (λ (bs : List ℕ). padded (first ∷ bs)) (ap (λ (bs : List ℕ). words (take i ns) ++ bs) e ∙ sym (words_push (take i ns) (get_or ns i 0)) ∙ ap words (sym (take_more ns i 0 h)))

-- coordinates are words, one by one
pub coordinates_words : (zs : List ℤ) (ns : List ℕ) → length ns ≡ length zs → ((i : ℕ) → i < length zs → get_or ns i 0 ≡ bits_of (get_or zs i (pos 0)))
    → words ns ≡ coordinates zs
coordinates_words [] [] e f = refl
coordinates_words (z ∷ zs) (n ∷ ns) e f =
    ap₂ (λ (m : ℕ) (bs : List ℕ). bytes_of m ++ bs) (f 0 (omega arith)) (coordinates_words zs ns (omega arith) (λ i h. f (suc i) (omega arith)))
coordinates_words [] (n ∷ ns) e f = absurd (omega arith)
coordinates_words (z ∷ zs) [] e f = absurd (omega arith)

-- The header and the records of an accepted list, written again one after the other, give its own bytes.
use Rattle.std.proofs.Common.{◌≡◌, refl, sym, ◌∙◌, ap, ap₂, subst, Bool, false, ◌&&◌, List, [], ◌∷◌, ◌++◌, append_assoc, append-nil, ℕ, zero, suc, ◌+◌, ◌≤◌, ◌<◌, zero-add, arith, eqb-true, length, get_or, take, drop, length-append, length-drop, take-append-drop, take_at, drop-drop, get_or-drop, length-take-le, take_all}
use lib.Seq.{drop-append-add, drop-length}
use Rattle.numbers.specs.Coordinate.{bits_of, signed_of, word_of, bytes_of}
use Rattle.numbers.proofs.Coordinate.{bits_signed, bytes_word}
use Rattle.numbers.proofs.Order.{AllBelow, both_true}
use Rattle.shapes.specs.declared.Basis.{Basis}
use Rattle.shapes.specs.declared.Record.{Record}
use Rattle.format.specs.Format.{list_most, header_size, basis_of, kind_size, off_kind, kind_of, words, coordinates, fields_of, header_bytes, record_bytes, word_at, coordinate_at, header_at, kind_at, size_at, decoded, record_at}
use Rattle.format.specs.inner.Record.{Whole}
use Rattle.records.specs.Read.{read_refusal}
use Rattle.records.specs.Write.{put_at, record_write_refusal, moved_to, record_written, record_list, records_list, list_written, records_written, writer_answer}
use Rattle.lists.specs.List.{mark_at, accepted, records_of, AllBytes}
use Rattle.records.proofs.Refusals.{Readable, readable}
use Rattle.lists.proofs.Headers.{Headed, headed}
use Rattle.records.specs.declared.write.Cursor.{Cursor}
use Rattle.std.specs.Prelude.{Result, Ok}
use Rattle.format.proofs.Bytes.{each-kind, kind-found}
use Rattle.records.proofs.Writes.{put_length, header_done, header-none, record_done, refusal-none}
use Rattle.lists.proofs.Accepted.{Holds, last, more, list-headed, list_holds}

pub drop-bytes : (n : ℕ) (s : List ℕ) → AllBytes s → AllBytes (drop n s)
drop-bytes n s b i = subst (λ (x : ℕ). x < 256) (sym (get_or-drop n s i 0)) (b (n + i))

-- ---- the bytes of what stands at the front of a list are the first bytes of the list

-- the n bytes from place i on, one by one
firsts : ℕ → ℕ → List ℕ → List ℕ
firsts zero i s = []
firsts (suc n) i s = get_or s i 0 ∷ firsts n (suc i) s

firsts_shift : (n i x : ℕ) (xs : List ℕ) → firsts n (suc i) (x ∷ xs) ≡ firsts n i xs
unfolding firsts
firsts_shift zero i x xs = refl
firsts_shift (suc n) i x xs = ap (λ (l : List ℕ). get_or xs i 0 ∷ l) (firsts_shift n (suc i) x xs)

take_firsts : (n : ℕ) (s : List ℕ) → n ≤ length s → take n s ≡ firsts n 0 s
unfolding firsts
take_firsts zero s h = refl
take_firsts (suc n) [] h = absurd (omega arith)
take_firsts (suc n) (x ∷ xs) h = ap (λ (l : List ℕ). x ∷ l) (take_firsts n xs (omega arith) ∙ sym (firsts_shift n 0 x xs))

-- a word and a coordinate that were read are written as the bytes that they were read from
word_then : {a b : ℕ} {bs cs : List ℕ} → a < 256 → bs ≡ cs → bytes_of (word_of a b) ++ bs ≡ a ∷ b ∷ cs
word_then {a} {b} h e = ap₂ ◌++◌ (bytes_word a b h) e

coordinate_then : {a b : ℕ} {bs cs : List ℕ} → a < 256 → b < 256 → bs ≡ cs → bytes_of (bits_of (signed_of (word_of a b))) ++ bs ≡ a ∷ b ∷ cs
coordinate_then {a} {b} {bs} h k e = ap (λ (v : ℕ). bytes_of v ++ bs) (bits_signed (word_of a b) (omega arith)) ∙ word_then h e

front : {a k : ℕ} {bs cs : List ℕ} → a ≡ k → bs ≡ cs → k ∷ bs ≡ a ∷ cs
front e f = λ i. sym e i ∷ f i

module _ (s : List ℕ) (b : AllBytes s) where
  -- kind by kind: a field that was read is written as the bytes that it was read from
  abbrev Again : ℕ → Type 0
  Again k = get_or s 0 0 ≡ k → record_bytes (decoded k s) ≡ firsts (kind_size k) 0 s

  -- the coordinates of a centre, of two ends and of three corners, and what stands behind them
  centre : {bs cs : List ℕ} → bs ≡ cs → coordinates (coordinate_at s 1 ∷ coordinate_at s 3 ∷ []) ++ bs ≡ firsts 4 1 s ++ cs
  unfolding firsts
  centre e = coordinate_then (b 1) (b 2) (coordinate_then (b 3) (b 4) e)

  ends : {bs cs : List ℕ} → bs ≡ cs → coordinates (coordinate_at s 1 ∷ coordinate_at s 3 ∷ coordinate_at s 5 ∷ coordinate_at s 7 ∷ []) ++ bs ≡ firsts 8 1 s ++ cs
  unfolding firsts
  ends e = centre (coordinate_then (b 5) (b 6) (coordinate_then (b 7) (b 8) e))

  corners : coordinates (coordinate_at s 1 ∷ coordinate_at s 3 ∷ coordinate_at s 5 ∷ coordinate_at s 7 ∷ coordinate_at s 9 ∷ coordinate_at s 11 ∷ []) ≡ firsts 12 1 s
  unfolding firsts
  corners = ends (coordinate_then (b 9) (b 10) (coordinate_then (b 11) (b 12) refl))

  kinds-again : AllBelow 11 Again
  unfolding firsts kind_size kind_of fields_of decoded
  kinds-again =
      let edges : words (word_at s 1 ∷ word_at s 3 ∷ word_at s 5 ∷ word_at s 7 ∷ []) ≡ firsts 8 1 s
      = word_then (b 1) (word_then (b 3) (word_then (b 5) (word_then (b 7) refl))) in
      let first : AllBelow 5 Again = (((((tt, λ e. front e refl), λ e. front e edges), λ e. front e refl), λ e. front e (ends refl)), λ e. front e (ends refl)) in
      let next : AllBelow 8 Again = (((first, λ e. front e (centre refl)), λ e. front e (centre refl)), λ e. front e refl) in
      (((next, λ e. front e (centre (word_then (b 5) refl))), λ e. front e (centre (word_then (b 5) (word_then (b 7) refl)))), λ e. front e corners)

  kind-again : (k : ℕ) → 0 < kind_size k → Again k
  kind-again = each-kind Again kinds-again

  pub record_again : Whole s → record_bytes (record_at s) ≡ take (size_at s) s
  record_again p = kind-again (kind_at s) p.known refl ∙ sym (take_firsts (size_at s) s p.fits)

  pub header-again : {tests : List (Bool × ℕ)} → Headed tests s → header_bytes (header_at s) ≡ take header_size s
  unfolding firsts header_bytes
  header-again p =
      let first = both_true (mark_at s 0 && mark_at s 1) (mark_at s 2) p.marked in
      let second = both_true (mark_at s 0) (mark_at s 1) first.0 in
      front (eqb-true _ _ second.0) (front (eqb-true _ _ second.1) (front (eqb-true _ _ first.1)
      (word_then (b 3) (word_then (b 5) (word_then (b 7) refl)))))
      ∙ sym (take_firsts header_size s p.least)

-- ---- bytes put into a list, one run behind the other
pub put_put : (l : List ℕ) (place : ℕ) (bs cs : List ℕ) → place + length bs + length cs ≤ length l
    → put_at (place + length bs) cs (put_at place bs l) ≡ put_at place (bs ++ cs) l
put_put l place bs cs h =
    let p : List ℕ = take place l ++ bs in
    let q : List ℕ = drop (place + length bs) l in
    let n : length p ≡ place + length bs = length-append (take place l) bs ∙ ap (λ (k : ℕ). k + length bs) (length-take-le place l (omega arith)) in
    let both = length-append bs cs in
    let next : place + length bs + length cs ≡ place + length (bs ++ cs) = omega arith in
    ap₂ (λ (x y : List ℕ). x ++ cs ++ y)
    (take_at p q (place + length bs) n)
    (ap (λ (k : ℕ). drop (k + length cs) (p ++ q)) (sym n) ∙ drop-append-add p q (length cs) ∙ drop-drop (length cs) (place + length bs) l)
    ∙ ap₂ (λ (x : List ℕ) (k : ℕ). x ++ drop k l) (append_assoc (take place l) bs cs) next

-- ---- the records, one after the other

abbrev pub at_place : Basis → ℕ → Cursor
at_place b n = record { place = n; basis = b }

module _ (c : Cursor) (s : List ℕ) (none : read_refusal c.basis s ≡ 0) (bytes : AllBytes s) (m : List ℕ) (low : header_size ≤ c.place)
    (inside : c.place + size_at s ≤ length m) (most : c.place + size_at s ≤ list_most) where
  found : Readable c.basis s
  found = readable c.basis s none

  long : length (record_bytes (record_at s)) ≡ size_at s
  long = ap length (record_again s bytes found.whole) ∙ length-take-le (size_at s) s found.whole.fits

  -- the writer tries the kind that the reader found
  kind-kept : off_kind c.basis.version (kind_of (record_at s)) ≡ false
  kind-kept = ap (off_kind c.basis.version) (kind-found (kind_at s) s found.whole.known) ∙ found.kind

  unrefused : record_write_refusal (length m) c (record_at s) ≡ 0
  unrefused =
      let n = long in
      refusal-none (length m) c (record_at s)
      (record { basis = found.basis; kind = kind-kept; lawful = found.lawful; room = record { behind = low; inside = omega arith; most = omega arith } })

  step-list : record_list m c (record_at s) ≡ put_at c.place (take (size_at s) s) m
  step-list = (record_done m c (record_at s) unrefused).1 ∙ ap (λ (bs : List ℕ). put_at c.place bs m) (record_again s bytes found.whole)

  step-written : record_written m c (record_at s) ≡ Ok (at_place c.basis (c.place + size_at s))
  step-written = (record_done m c (record_at s) unrefused).0 ∙ ap (λ (n : ℕ). Ok (at_place c.basis (c.place + n))) long

-- one record, then the rest behind it: put (take n s), then put (drop n s), is put s
records_again : {b : Basis} {s : List ℕ} {rs : List Record} → Holds b s rs → AllBytes s → (m : List ℕ) (place : ℕ) → header_size ≤ place
    → place + length s ≤ length m → place + length s ≤ list_most → records_list m (at_place b place) rs ≡ put_at place s m
unfolding records_list
records_again {b} (last {s} none k all) bytes m place low inside most =
    step-list (at_place b place) s none bytes m low (omega arith) (omega arith)
    ∙ ap (λ (bs : List ℕ). put_at place bs m) (take_all (size_at s) s (omega arith))
records_again {b} (more {s} {rs} none k p) bytes m place low inside most =
    let fits = (readable b s none).whole.fits in
    let n = length-take-le (size_at s) s fits in
    let d = length-drop (size_at s) s in
    let same = put_length m place (take (size_at s) s) (omega arith) in
    ap₂ (λ (l : List ℕ) (a : Result Cursor ℕ). records_list l (moved_to (at_place b place) a) rs)
    (step-list (at_place b place) s none bytes m low (omega arith) (omega arith))
    (step-written (at_place b place) s none bytes m low (omega arith) (omega arith))
    ∙ records_again p (drop-bytes (size_at s) s bytes) (put_at place (take (size_at s) s) m) (place + size_at s) (omega arith) (omega arith) (omega arith)
    ∙ ap (λ (k : ℕ). put_at (place + k) (drop (size_at s) s) (put_at place (take (size_at s) s) m)) (sym n)
    ∙ put_put m place (take (size_at s) s) (drop (size_at s) s) (omega arith)
    ∙ ap (λ (bs : List ℕ). put_at place bs m) (take-append-drop (size_at s) s)

-- no write is refused, and the place moves past each record
answers_again : {b : Basis} {s : List ℕ} {rs : List Record} → Holds b s rs → AllBytes s → (m : List ℕ) (place : ℕ) → header_size ≤ place
    → place + length s ≤ length m → place + length s ≤ list_most
    → records_written m (at_place b place) rs ≡ Ok (at_place b (place + length s))
unfolding records_written
answers_again {b} (last {s} none k all) bytes m place low inside most =
    rw (step-written (at_place b place) s none bytes m low (omega arith) (omega arith)) (ap (λ (n : ℕ). Ok (at_place b (place + n))) (sym all))
answers_again {b} (more {s} {rs} none k p) bytes m place low inside most =
    let fits = (readable b s none).whole.fits in
    let d = length-drop (size_at s) s in
    let same = put_length m place (take (size_at s) s) (omega (arith, length-take-le (size_at s) s fits)) in
    let all : place + size_at s + length (drop (size_at s) s) ≡ place + length s = omega arith in
    rw (step-written (at_place b place) s none bytes m low (omega arith) (omega arith), step-list (at_place b place) s none bytes m low (omega arith) (omega arith))
    (answers_again p (drop-bytes (size_at s) s bytes) (put_at place (take (size_at s) s) m) (place + size_at s) (omega arith) (omega arith) (omega arith)
    ∙ ap (λ (n : ℕ). Ok (at_place b n)) all)

-- ---- a whole list
module _ (tests : List (Bool × ℕ)) (l : List ℕ) (rs : List Record) (bytes : AllBytes l) (e : records_of tests l ≡ accepted rs) (m : List ℕ) where
  -- written into a list that is as long at least, wherever the writer stood, in its own version:
  -- the header at 0, the records behind it, and take ++ drop is the whole
  pub written_again : (c : Cursor) → length l ≤ length m → list_written m c (header_at l) rs ≡ l ++ drop (length l) m
  unfolding list_written
  written_again c fits =
      let p = headed tests l (list-headed tests l rs e) in
      let done = header_done m (header_at l) (header-none (length m) (header_at l) p.basis (omega (arith, p.least))) in
      let front : header_size ≡ 0 + length (take header_size l) = omega (arith, length-take-le header_size l p.least) in
      let rest = length-drop header_size l in
      let same = put_length m 0 (take header_size l) (omega (arith, p.least)) in
      ap₂ (λ (x : List ℕ) (a : Result Cursor ℕ). records_list x (moved_to c a) rs)
      (done.1 ∙ ap (λ (bs : List ℕ). put_at 0 bs m) (header-again l bytes p))
      done.0
      ∙ records_again (list_holds tests l rs e) (drop-bytes header_size l bytes) (put_at 0 (take header_size l) m) header_size (omega arith) (omega (arith, p.least)) (omega (arith, p.least, p.most))
      ∙ ap (λ (k : ℕ). put_at k (drop header_size l) (put_at 0 (take header_size l) m)) front
      ∙ put_put m 0 (take header_size l) (drop header_size l) (omega (arith, p.least))
      ∙ ap (λ (bs : List ℕ). put_at 0 bs m) (take-append-drop header_size l)
      ∙ ap (λ (k : ℕ). l ++ drop k m) (zero-add (length l))

  -- written into a list of its own length
  pub own_bytes : (c : Cursor) → length m ≡ length l → list_written m c (header_at l) rs ≡ l
  own_bytes c same =
      written_again c (omega arith) ∙ ap (λ (bs : List ℕ). l ++ bs) (ap (λ (k : ℕ). drop k m) (sym same) ∙ drop-length m) ∙ append-nil l

  -- no write is refused, the place ends behind the list, and its own version, W and H are held
  pub answered-again : (c : Cursor) → length l ≤ length m → writer_answer m c (header_at l) rs ≡ Ok (at_place (basis_of (header_at l)) (length l))
  unfolding writer_answer
  answered-again c fits =
      let p = headed tests l (list-headed tests l rs e) in
      let done = header_done m (header_at l) (header-none (length m) (header_at l) p.basis (omega (arith, p.least))) in
      let rest = length-drop header_size l in
      let same = put_length m 0 (take header_size l) (omega (arith, p.least, length-take-le header_size l p.least)) in
      let all : header_size + length (drop header_size l) ≡ length l = omega (arith, p.least) in
      rw (done.0, done.1, header-again l bytes p)
      (answers_again (list_holds tests l rs e) (drop-bytes header_size l bytes) (put_at 0 (take header_size l) m) header_size (omega arith) (omega arith) (omega (arith, p.most))
      ∙ ap (λ (n : ℕ). Ok (at_place (basis_of (header_at l)) n)) all)

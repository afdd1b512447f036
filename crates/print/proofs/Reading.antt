-- What is read in several turns: the front of what the reader had, all of it where it came to its end.
use Rattle.std.proofs.Common.{◌≡◌, sym, ◌∙◌, ap, subst, List, [], ◌++◌, append_assoc, append-nil, ℕ, ◌+◌, ◌≤◌, length, take, drop, length-drop, None, Some, IfSome, arith}
use Rattle.std.proofs.Math.Seq.{take-append_seam, take-append-add}
use Rattle.std.proofs.lemmas.List.{length-take-le, take_all, take-append-le}
use Rattle.std.specs.Io.KnownBytes.{Consumes, IsAtEnd}
use Rattle.std.specs.declared.option.Option.{Option}
use borrow.Rule.Slice.PartMut.{put_mid, post_of, same_len_mid}

-- a buffer is as long as it was behind a read into its rest
pub as_long : (a k : ℕ) (xs ys : List ℕ) → length ys ≡ k → a + k ≡ length xs → length (put_mid a k xs ys) ≡ length xs
as_long a k xs ys e h =
    let left : k ≤ length (drop a xs) = rw length-drop (omega arith) in
    same_len_mid a k xs ys (e ∙ sym (length-take-le k (drop a xs) left))

-- n more bytes behind the first a
pub front_more : (a n k : ℕ) (xs ys : List ℕ) → a ≤ length xs → n ≤ length ys → take (a + n) (put_mid a k xs ys) ≡ take a xs ++ take n ys
front_more a n k xs ys h j =
    let rest = post_of a k xs in
    subst (λ m. take (m + n) (take a xs ++ (ys ++ rest)) ≡ take a xs ++ take n ys) (length-take-le a xs h)
    (take-append-add (take a xs) (ys ++ rest) n ∙ ap (λ s. take a xs ++ s) (take-append-le n ys rest j))

pub consumes_more : (o p q : Option (List ℕ)) (xs ys : List ℕ) → Consumes o p xs → Consumes p q ys → Consumes o q (xs ++ ys)
consumes_more None p q xs ys h j = tt
consumes_more (Some a) None q xs ys h j = absurd h
consumes_more (Some a) (Some b) None xs ys h j = absurd j
consumes_more (Some a) (Some b) (Some c) xs ys h j = h ∙ ap (λ s. xs ++ s) j ∙ sym (append_assoc xs ys c)

-- a reader that gave nothing and is at its end was there before
pub ended : (p q : Option (List ℕ)) (ys : List ℕ) → ys ≡ [] → Consumes p q ys → IsAtEnd q → IsAtEnd p
ended None q ys e h j = tt
ended (Some b) None ys e h j = absurd h
ended (Some b) (Some c) ys e h j = h ∙ ap (λ s. s ++ c) e ∙ j

pub read_all : (o p : Option (List ℕ)) (xs : List ℕ) (n : ℕ) → Consumes o p xs → IsAtEnd p → length xs ≤ n → IfSome o (λ bytes. xs ≡ take n bytes)
read_all None p xs n h e l = tt
read_all (Some a) None xs n h e l = absurd h
read_all (Some a) (Some b) xs n h e l =
    let whole : a ≡ xs = h ∙ ap (λ s. xs ++ s) e ∙ append-nil xs in
    sym (take_all n xs l) ∙ ap (take n) (sym whole)

pub read_full : (o p : Option (List ℕ)) (xs : List ℕ) (n : ℕ) → Consumes o p xs → length xs ≡ n → IfSome o (λ bytes. xs ≡ take n bytes)
read_full None p xs n h l = tt
read_full (Some a) None xs n h l = absurd h
read_full (Some a) (Some b) xs n h l = sym (take-append_seam xs b) ∙ ap (λ m. take m (xs ++ b)) l ∙ ap (take n) (sym h)

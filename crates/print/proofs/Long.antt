-- A list that is too long is refused by its length alone, so that a byte more than a list may have tells it.
use Rattle.std.proofs.Common.{◌≡◌, ◌∙◌, sym, ap, subst, refl, List, ℕ, ◌<◌, ◌≤◌, length, take, ◌⊎◌, inl, inr, None, Some, Ok, Err, IfSome, OnOk, lt-ltb, arith}
use Rattle.std.specs.declared.option.Option.{Option}
use Rattle.std.specs.declared.result.Result.{Result}
use Rattle.std.proofs.lemmas.List.{length-take-le, take_all}
use Rattle.numbers.proofs.Order.{lt_or_le}
use Rattle.text.specs.Text.{refusal_text}
use Rattle.format.specs.Format.{list_most}
use Rattle.lists.specs.List.{records_of, header_refusal}
use Rattle.drawing.specs.Claim.{answer_by}
use Rattle.print.specs.Printed.{answer_text, list_text}

-- what is printed for it
too_long : (list page : List ℕ) → list_most < length list → list_text list page ≡ refusal_text 12 0
unfolding list_text answer_text answer_by records_of header_refusal
too_long list page long = rw (lt-ltb list_most (length list) long) refl

-- what is printed for a list is printed for its front
front_tells : (list page : List ℕ) → list_text (take 65537 list) page ≡ list_text list page
front_tells list page = go (lt_or_le list_most (length list))
  where
    go : (list_most < length list) ⊎ (length list ≤ list_most) → list_text (take 65537 list) page ≡ list_text list page
    go (inl long) =
        let all = length-take-le 65537 list (omega arith) in
        too_long (take 65537 list) page (omega arith) ∙ sym (too_long list page long)
    go (inr short) = ap (λ front. list_text front page) (take_all 65537 list (omega arith))

-- so what is done with the text of the front that was read is done with the text of all that a reader has, where that is known
pub of_known : {T E : Type 0} (r : Result T E) (known : Option (List ℕ)) (list page : List ℕ) (P : List ℕ → Type 0)
    → IfSome known (λ bytes. list ≡ take 65537 bytes) → OnOk r (P (list_text list page))
    → OnOk r (IfSome known (λ bytes. P (list_text bytes page)))
of_known (Ok x) (Some bytes) list page P read done = subst P (ap (λ front. list_text front page) read ∙ front_tells bytes page) done
of_known (Ok x) None list page P read done = read
of_known (Err e) known list page P read done = done

-- What a text in the buffer becomes, and the decimal digits of a number.
use mathlib.Core.Path.{◌≡◌, refl, sym, ap, ◌∙◌}
use mathlib.Core.List.{List, [], ◌∷◌, ◌++◌, append-nil, append_assoc}
use Prim.Native.Nat.{ℕ, zero, suc, ◌+◌, ◌*◌, ◌-◌, ◌/◌, ◌≤◌, ◌<◌, min}
use native.Mathlib.Numerals.{add-one}
use native.Mathlib.Omega.{arith}
use borrow.Author.Tests.{lt-ltb, le-ltb}
use lib.ListN.{length, take, drop, get_or, drop_of_length-le}
use lib.Seq.{take-nil, drop-cons}
use Rattle.text.specs.inner.Put.{written, Put}
use Rattle.text.specs.declared.Text.{Text}
use Rattle.text.specs.Text.{digit_of, digits, number, numbers_text}

-- nothing more of a text, some and some again, some within a wider bound
pub put_none : (t : Text) (size : ℕ) → Put t t [] size
put_none t size = record { text = sym (append-nil (written t)); least = omega arith; most = omega arith; room = refl; same = refl }

pub put_more : {t t' t'' : Text} {s r : List ℕ} {m n : ℕ} → Put t t' s m → Put t' t'' r n → Put t t'' (s ++ r) (m + n)
put_more {t = t} {s = s} {r = r} p q =
    record {
      text = q.text ∙ ap (λ (l : List ℕ). l ++ r) p.text ∙ append_assoc (written t) s r;
      least = omega arith;
      most = omega arith;
      room = q.room ∙ p.room;
      same = q.same ∙ p.same;
    }

pub put_within : {t t' : Text} {s : List ℕ} {m n : ℕ} → m ≤ n → Put t t' s m → Put t t' s n
put_within h p = record { text = p.text; least = p.least; most = omega (arith, p.most); room = p.room; same = p.same }

-- ---- digits
pub no_digit : (k n : ℕ) → k ≡ 0 → digits k n ≡ []
unfolding digits
no_digit k n e = rw e refl

pub digits_one : (k n : ℕ) → 0 < k → n < 10 → digits k n ≡ digit_of n ∷ []
unfolding digits
digits_one zero n p h = absurd (omega arith)
digits_one (suc k) n p h = simp (lt-ltb n 10 h)

pub digits_more : (k n : ℕ) → 0 < k → 10 ≤ n → digits k n ≡ digits (k - 1) (n / 10) ++ digit_of n ∷ []
unfolding digits
digits_more zero n p h = absurd (omega arith)
digits_more (suc k) n p h = let e : suc k - 1 ≡ k = omega arith in simp (le-ltb n 10 h, e)

pub one_digit : {t v : Text} {d : ℕ} (k n : ℕ) → 0 < k → n < 10 → Put t v (d ∷ []) 1 → d ≡ digit_of n → Put t v (digits k n) k
one_digit k n some h p e =
    let q = rw e at p in
    rw (digits_one k n some h) (record { text = q.text; least = q.least; most = omega (arith, q.most); room = q.room; same = q.same })

pub more_digits : {t u v : Text} {d : ℕ} (k n : ℕ) → 0 < k → 10 ≤ n → Put t u (digits (k - 1) (n / 10)) (k - 1) → Put u v (d ∷ []) 1 → d ≡ digit_of n
    → Put t v (digits k n) k
more_digits k n some h p q e =
    let size : k - 1 + 1 ≡ k = omega arith in
    rw (digits_more k n some h) (rw size at (put_more p (rw e at q)))

-- t' is t with a part of a text behind it, at most so many bytes, where the rest of the text is still to come
pub record Putting (t t' : Text) (whole rest : List ℕ) (size : ℕ) : Type 0 where
  pub text : written t' ++ rest ≡ written t ++ whole
  pub least : t.at ≤ t'.at
  pub most : t'.at ≤ t.at + size
  pub room : length t'.out.now ≡ length t.out.now
  pub same : t'.out.ghost_name ≡ t.out.ghost_name

-- one number more, and the last of them
module _ (k : ℕ) (after next : ℕ → ℕ) where
  number_more : (x i : ℕ) (ns : List ℕ) → i < length ns
      → numbers_text k after next x (drop i ns) ≡ number k (get_or ns i 0) (after x) ++ numbers_text k after next (next x) (drop (i + 1) ns)
  unfolding numbers_text
  number_more x i ns h = rw add-one (ap (numbers_text k after next x) (drop-cons ns i 0 h))

  pub number_step : (x i b y : ℕ) (ns : List ℕ) {t u v : Text} {whole : List ℕ} → i < length ns → Putting t u whole (numbers_text k after next x (drop i ns)) ((k + 1) * i)
      → Put u v (number k (get_or ns i 0) b) (k + 1) → b ≡ after x → y ≡ next x → Putting t v whole (numbers_text k after next y (drop (i + 1) ns)) ((k + 1) * (i + 1))
  number_step x i b y ns {u = u} h p q e f =
      let one = number k (get_or ns i 0) (after x) in
      let rest = numbers_text k after next (next x) (drop (i + 1) ns) in
      record {
        text = rw (f, q.text, e) (append_assoc (written u) one rest ∙ ap (λ (s : List ℕ). written u ++ s) (sym (number_more x i ns h)) ∙ p.text);
        least = omega arith;
        most = omega arith;
        room = q.room ∙ p.room;
        same = q.same ∙ p.same;
      }

  pub numbers-end : (x i : ℕ) (ns : List ℕ) {t u : Text} {whole : List ℕ} → length ns ≤ i → i ≤ length ns → Putting t u whole (numbers_text k after next x (drop i ns)) ((k + 1) * i)
      → Put t u whole ((k + 1) * length ns)
  unfolding numbers_text
  numbers-end x i ns {u = u} e f p =
      record {
        text = sym (append-nil (written u)) ∙ ap (λ s. written u ++ numbers_text k after next x s) (sym (drop_of_length-le ns (omega arith))) ∙ p.text;
        least = p.least;
        most = let g : i ≡ length ns = omega arith in rw g at p.most;
        room = p.room;
        same = p.same;
      }

-- a part of a list that ends where the list does, at the latest
pub take_min : (n : ℕ) (l : List ℕ) → take (min n (length l)) l ≡ take n l
take_min zero l = ap (λ (k : ℕ). take k l) (let e : min 0 (length l) ≡ 0 = omega arith in e)
take_min (suc n) [] = take-nil (min (suc n) 0)
take_min (suc n) (x ∷ xs) =
    let e : min (suc n) (suc (length xs)) ≡ suc (min n (length xs)) = omega arith in
    ap (λ (k : ℕ). take k (x ∷ xs)) e ∙ ap (λ (s : List ℕ). x ∷ s) (take_min n xs)

-- Laws of `over`: its length and elements, how a list is shown to be one, and what a store, a part that comes back and a second map make.
use mathlib.Core.Bool.{Bool, cond}
use mathlib.Core.Path.{◌≡◌, refl, sym, ap, ◌∙◌, subst}
use mathlib.Core.Logic.{◌⊎◌, inl, inr, ⊎_elim}
use mathlib.Core.List.{List, [], ◌∷◌, ◌++◌}
use Prim.Native.Nat.{ℕ, zero, suc, ◌+◌, ◌-◌, ◌≤◌, ◌<◌}
use native.Mathlib.Nat.{not-suc-le-zero, le_of_suc-le-suc}
use native.Mathlib.Omega.{arith}
use lib.ListN.{length, replicate, get_or, set, take, drop, length-set, length-append, length-take, length-drop, get_or-append}
use lib.Seq.{get_or-set_same, get_or-set_other, get_or-take, get_or-drop, ext_get_or}
use lib.Dec.{ltb}
use borrow.Rule.Slice.PartMut.{put_mid, Post-is}
use borrow.Author.Tests.{lt-ltb, le-ltb}
use Rattle.numbers.proofs.Order.{lt_or_le, eq_or_ne}
use Rattle.page.specs.Page.{over}

pub length_over : (f : ℕ → ℕ → ℕ) (l : List ℕ) → length (over f l) ≡ length l
unfolding over
length_over f [] = refl
length_over f (u ∷ l) = ap suc (length_over (λ k. f (suc k)) l)

-- the same level everywhere
pub over_level : (v : ℕ) (l : List ℕ) → replicate (length l) v ≡ over (λ _ _. v) l
unfolding over
over_level v [] = refl
over_level v (u ∷ l) = ap (λ (t : List ℕ). v ∷ t) (over_level v l)

pub get_d_over : (f : ℕ → ℕ → ℕ) (l : List ℕ) (k : ℕ) → k < length l → get_or (over f l) k 0 ≡ f k (get_or l k 0)
unfolding over
get_d_over f [] k h = absurd (not-suc-le-zero h)
get_d_over f (u ∷ l) zero h = refl
get_d_over f (u ∷ l) (suc k) h = get_d_over (λ j. f (suc j)) l k (le_of_suc-le-suc h)

-- a list is `over f l` where its elements are
pub over-is : (f : ℕ → ℕ → ℕ) (l m : List ℕ) → length m ≡ length l → ((k : ℕ) → k < length l → get_or m k 0 ≡ f k (get_or l k 0)) → m ≡ over f l
over-is f l m e h =
    ext_get_or 0 m (over f l) (e ∙ sym (length_over f l)) (λ k b. let b' : k < length l = omega arith in h k b' ∙ sym (get_d_over f l k b'))

pub over-same : (f : ℕ → ℕ → ℕ) (l : List ℕ) → ((k : ℕ) → k < length l → get_or l k 0 ≡ f k (get_or l k 0)) → l ≡ over f l
over-same f l h = over-is f l l refl h

pub over_ext : (f g : ℕ → ℕ → ℕ) (l : List ℕ) → ((k : ℕ) → k < length l → f k (get_or l k 0) ≡ g k (get_or l k 0)) → over f l ≡ over g l
over_ext f g l h = over-is g l (over f l) (length_over f l) (λ k b. get_d_over f l k b ∙ h k b)

pub over-over : (f g : ℕ → ℕ → ℕ) (l : List ℕ) → over g (over f l) ≡ over (λ k u. g k (f k u)) l
over-over f g l =
    over-is (λ k u. g k (f k u)) l (over g (over f l)) (length_over g (over f l) ∙ length_over f l)
    (λ k b. get_d_over g (over f l) k (rw length_over b) ∙ ap (g k) (get_d_over f l k b))

-- ---- a store

-- a store at i turns f into g, which differs from f at i alone
over_store : (f g : ℕ → ℕ → ℕ) (l : List ℕ) (i v : ℕ) → i < length l → v ≡ g i (get_or l i 0)
    → ((k : ℕ) → (k ≡ i → ⊥) → f k (get_or l k 0) ≡ g k (get_or l k 0))
    → set (over f l) i v ≡ over g l
over_store f g l i v b e h =
    over-is g l (set (over f l) i v) (length-set (over f l) i v ∙ length_over f l) (λ k bk. ⊎_elim (here k) (other k bk) (eq_or_ne k i))
  where
    here : (k : ℕ) → k ≡ i → get_or (set (over f l) i v) k 0 ≡ g k (get_or l k 0)
    here k q =
        subst (λ (j : ℕ). get_or (set (over f l) i v) j 0 ≡ g j (get_or l j 0)) (sym q)
        (get_or-set_same (over f l) i v 0 (rw length_over b) ∙ e)

    other : (k : ℕ) → k < length l → (k ≡ i → ⊥) → get_or (set (over f l) i v) k 0 ≡ g k (get_or l k 0)
    other k bk n = get_or-set_other (over f l) i k v 0 n ∙ get_d_over f l k bk ∙ h k n

pub over-set : (g : ℕ → ℕ → ℕ) (l : List ℕ) (i v : ℕ) → i < length l → v ≡ g i (get_or l i 0)
    → ((k : ℕ) → (k ≡ i → ⊥) → get_or l k 0 ≡ g k (get_or l k 0))
    → set l i v ≡ over g l
over-set g l i v b e h =
    ap (λ (m : List ℕ). set m i v) (over-same (λ _ u. u) l (λ k b. refl)) ∙ over_store (λ _ u. u) g l i v b e h

-- ---- a loop that has come to element n

-- f below n, and the element as it was from n on
abbrev pub up_to : ℕ → (ℕ → ℕ → ℕ) → ℕ → ℕ → ℕ
up_to n f k u = cond (ltb k n) (f k u) u

pub up_to_none : (f : ℕ → ℕ → ℕ) (l : List ℕ) → l ≡ over (up_to 0 f) l
up_to_none f l = over-same (up_to 0 f) l (λ k b. rw (le-ltb k 0 (omega arith)))

pub up_to_all : (f : ℕ → ℕ → ℕ) (l : List ℕ) (n : ℕ) → length l ≤ n → over (up_to n f) l ≡ over f l
up_to_all f l n h = over_ext (up_to n f) f l (λ k b. rw (lt-ltb k n (omega arith)))

-- the element that a turn reads is the one at entry
pub up_to_read : (f : ℕ → ℕ → ℕ) (l : List ℕ) (i : ℕ) → i < length l → get_or (over (up_to i f) l) i 0 ≡ get_or l i 0
up_to_read f l i b = get_d_over (up_to i f) l i b ∙ rw (le-ltb i i (omega arith))

-- its store
pub up_to_store : (f : ℕ → ℕ → ℕ) (l : List ℕ) (i v : ℕ) → i < length l → v ≡ f i (get_or l i 0)
    → set (over (up_to i f) l) i v ≡ over (up_to (i + 1) f) l
up_to_store f l i v b e =
    over_store (up_to i f) (up_to (i + 1) f) l i v b (rw (lt-ltb i (i + 1) (omega arith)) e)
    (λ k n. ap (λ (t : Bool). cond t (f k (get_or l k 0)) (get_or l k 0)) (⊎_elim (below k) (above k n) (lt_or_le k i)))
  where
    below : (k : ℕ) → k < i → ltb k i ≡ ltb k (i + 1)
    below k h = lt-ltb k i h ∙ sym (lt-ltb k (i + 1) (omega arith))

    above : (k : ℕ) → (k ≡ i → ⊥) → i ≤ k → ltb k i ≡ ltb k (i + 1)
    above k n h = le-ltb k i h ∙ sym (le-ltb k (i + 1) (omega arith))

-- ---- a part that is lent and comes back: elements a to b of l replaced by m

get_d_second : (p q : List ℕ) (k : ℕ) → length p ≤ k → get_or (p ++ q) k 0 ≡ get_or q (k - length p) 0
get_d_second [] q k h = ap (λ (j : ℕ). get_or q j 0) (omega arith)
get_d_second (x ∷ p) q zero h = absurd (not-suc-le-zero h)
get_d_second (x ∷ p) q (suc k) h = get_d_second p q k (le_of_suc-le-suc h) ∙ ap (λ (j : ℕ). get_or q j 0) (omega arith)

module _ (l m : List ℕ) (a b : ℕ) (h₁ : a ≤ b) (h₂ : b ≤ length l) (e : length m ≡ b - a) where
  whole : List ℕ
  whole = take a l ++ (m ++ drop b l)

  length-first : length (take a l) ≡ a
  length-first = simp length-take (omega arith)

  length_whole : length whole ≡ length l
  unfolding whole
  length_whole = simp (length-append, length-take, length-drop) (omega arith)

  get_d_before : (k : ℕ) → k < a → get_or whole k 0 ≡ get_or l k 0
  unfolding whole
  get_d_before k h = get_or-append (take a l) (m ++ drop b l) 0 k (omega (arith, length-first)) ∙ get_or-take a l k 0 h

  get_d_within : (k : ℕ) → a ≤ k → k < b → get_or whole k 0 ≡ get_or m (k - a) 0
  unfolding whole
  get_d_within k h h' =
      get_d_second (take a l) (m ++ drop b l) k (omega (arith, length-first))
      ∙ get_or-append m (drop b l) 0 (k - length (take a l)) (omega (arith, length-first))
      ∙ ap (λ (j : ℕ). get_or m (k - j) 0) length-first

  get_d_after : (k : ℕ) → b ≤ k → get_or whole k 0 ≡ get_or l k 0
  unfolding whole
  get_d_after k h =
      get_d_second (take a l) (m ++ drop b l) k (omega (arith, length-first))
      ∙ get_d_second m (drop b l) (k - length (take a l)) (omega (arith, length-first))
      ∙ get_or-drop b l (k - length (take a l) - length m) 0
      ∙ ap (λ (j : ℕ). get_or l j 0) (omega (arith, length-first))

-- mapped by p: g is p there, and keeps the element elsewhere
pub over-part : (g p : ℕ → ℕ → ℕ) (l m : List ℕ) (a b : ℕ) → a ≤ b → b ≤ length l → m ≡ over p (take (b - a) (drop a l))
    → ((k : ℕ) → a ≤ k → k < b → p (k - a) (get_or l k 0) ≡ g k (get_or l k 0))
    → ((k : ℕ) → (k < a) ⊎ (b ≤ k) → get_or l k 0 ≡ g k (get_or l k 0))
    → put_mid a (b - a) l m ≡ over g l
unfolding whole
over-part g p l m a b h₁ h₂ e inside outside =
    ap (λ (q : List ℕ). take a l ++ (m ++ q)) (Post-is a b l h₁)
    ∙ over-is g l (whole l m a b h₁ h₂ size) (length_whole l m a b h₁ h₂ size) (λ k bk. at k (lt_or_le k a) (lt_or_le k b))
  where
    part : length (take (b - a) (drop a l)) ≡ b - a
    part = simp (length-take, length-drop) (omega arith)

    size : length m ≡ b - a
    size = ap length e ∙ length_over p (take (b - a) (drop a l)) ∙ part

    at : (k : ℕ) → (k < a) ⊎ (a ≤ k) → (k < b) ⊎ (b ≤ k) → get_or (whole l m a b h₁ h₂ size) k 0 ≡ g k (get_or l k 0)
    at k (inl x) z = get_d_before l m a b h₁ h₂ size k x ∙ outside k (inl x)
    at k (inr x) (inl z) =
        let r : a + (k - a) ≡ k = omega arith in
        get_d_within l m a b h₁ h₂ size k x z
        ∙ ap (λ (q : List ℕ). get_or q (k - a) 0) e
        ∙ get_d_over p (take (b - a) (drop a l)) (k - a) (omega (arith, part))
        ∙ ap (p (k - a)) (get_or-take (b - a) (drop a l) (k - a) 0 (omega arith) ∙ get_or-drop a l (k - a) 0 ∙ ap (λ (j : ℕ). get_or l j 0) r)
        ∙ inside k x z
    at k (inr x) (inr z) = get_d_after l m a b h₁ h₂ size k z ∙ outside k (inr z)

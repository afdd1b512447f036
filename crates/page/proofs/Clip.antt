-- Laws of clips, and of coverages that never meet.
use mathlib.Core.Bool.{Bool, true, false, ◌&&◌}
use mathlib.Core.Path.{◌≡◌, refl, sym, ◌∙◌}
use mathlib.Core.Logic.{◌⊎◌, inl, inr, ⊎_elim}
use Prim.Native.Nat.{ℕ, ◌≤◌, ◌<◌}
use native.Mathlib.Omega.{arith}
use borrow.Author.Tests.{lt-ltb, le-ltb, le-leb, lt-leb}
use Rattle.numbers.proofs.Order.{lt_or_le}
use Rattle.page.specs.inner.Paint.{clipped}

-- a pixel inside a clip, and outside it
pub record Inside (x0 y0 x1 y1 x y : ℕ) : Type 0 where
  pub left : x0 ≤ x
  pub right : x < x1
  pub top : y0 ≤ y
  pub bottom : y < y1

pub data Outside (x0 y0 x1 y1 x y : ℕ) : Type 0 where
  left_of_lem : x < x0 → Outside x0 y0 x1 y1 x y
  right_of : x1 ≤ x → Outside x0 y0 x1 y1 x y
  above : y < y0 → Outside x0 y0 x1 y1 x y
  below : y1 ≤ y → Outside x0 y0 x1 y1 x y

pub in_or_out : (x0 y0 x1 y1 x y : ℕ) → Inside x0 y0 x1 y1 x y ⊎ Outside x0 y0 x1 y1 x y
in_or_out x0 y0 x1 y1 x y = go (lt_or_le x x0) (lt_or_le x x1) (lt_or_le y y0) (lt_or_le y y1)
  where
    go : (x < x0) ⊎ (x0 ≤ x) → (x < x1) ⊎ (x1 ≤ x) → (y < y0) ⊎ (y0 ≤ y) → (y < y1) ⊎ (y1 ≤ y)
        → Inside x0 y0 x1 y1 x y ⊎ Outside x0 y0 x1 y1 x y
    go (inl a) b c d = inr (left_of_lem a)
    go (inr a) (inr b) c d = inr (right_of b)
    go (inr a) (inl b) (inl c) d = inr (above c)
    go (inr a) (inl b) (inr c) (inr d) = inr (below d)
    go (inr a) (inl b) (inr c) (inl d) = inl (record { left = a; right = b; top = c; bottom = d })

-- outside a clip is outside any clip within it
pub outside-within : {x0 y0 x1 y1 x y : ℕ} (a b c d : ℕ) → (x0 ≤ a) × (y0 ≤ b) × (c ≤ x1) × (d ≤ y1)
    → Outside x0 y0 x1 y1 x y
    → Outside a b c d x y
outside-within a b c d h (left_of_lem k) = left_of_lem (omega arith)
outside-within a b c d h (right_of k) = right_of (omega arith)
outside-within a b c d h (above k) = above (omega arith)
outside-within a b c d h (below k) = below (omega arith)

and-false : (a : Bool) → (a && false) ≡ false
and-false true = refl
and-false false = refl

module _ (x0 y0 x1 y1 : ℕ) (n : ℕ → ℕ → ℕ) (x y : ℕ) where
  pub clip_in : Inside x0 y0 x1 y1 x y → clipped x0 y0 x1 y1 n x y ≡ n x y
  unfolding clipped
  clip_in i = rw (le-leb x0 x i.left, lt-ltb x x1 i.right, le-leb y0 y i.top, lt-ltb y y1 i.bottom)

  pub clip_out : Outside x0 y0 x1 y1 x y → clipped x0 y0 x1 y1 n x y ≡ 0
  unfolding clipped
  clip_out (left_of_lem h) = rw (lt-leb x0 x h)
  clip_out (right_of h) = simp (le-ltb x x1 h, and-false)
  clip_out (above h) = simp (lt-leb y0 y h, and-false)
  clip_out (below h) = simp (le-ltb y y1 h, and-false)

-- only the pixels inside count
pub clip_ext : (x0 y0 x1 y1 : ℕ) (n n' : ℕ → ℕ → ℕ) → ((x y : ℕ) → Inside x0 y0 x1 y1 x y → n x y ≡ n' x y)
    → (x y : ℕ) → clipped x0 y0 x1 y1 n x y ≡ clipped x0 y0 x1 y1 n' x y
clip_ext x0 y0 x1 y1 n n' same x y =
    ⊎_elim
    (λ i. clip_in x0 y0 x1 y1 n x y i ∙ same x y i ∙ sym (clip_in x0 y0 x1 y1 n' x y i))
    (λ o. clip_out x0 y0 x1 y1 n x y o ∙ sym (clip_out x0 y0 x1 y1 n' x y o))
    (in_or_out x0 y0 x1 y1 x y)

-- a coverage that is 0 between a clip and one within it
pub clip_shrink : (x0 y0 x1 y1 a b c d : ℕ) (n : ℕ → ℕ → ℕ) → x0 ≤ a → y0 ≤ b → c ≤ x1 → d ≤ y1
    → ((x y : ℕ) → Inside x0 y0 x1 y1 x y → Outside a b c d x y → n x y ≡ 0)
    → (x y : ℕ) → clipped a b c d n x y ≡ clipped x0 y0 x1 y1 n x y
clip_shrink x0 y0 x1 y1 a b c d n ha hb hc hd none x y = ⊎_elim inside outside (in_or_out x0 y0 x1 y1 x y)
  where
    inside : Inside x0 y0 x1 y1 x y → clipped a b c d n x y ≡ clipped x0 y0 x1 y1 n x y
    inside i =
        ⊎_elim (clip_in a b c d n x y) (λ o. clip_out a b c d n x y o ∙ sym (none x y i o)) (in_or_out a b c d x y)
        ∙ sym (clip_in x0 y0 x1 y1 n x y i)

    outside : Outside x0 y0 x1 y1 x y → clipped a b c d n x y ≡ clipped x0 y0 x1 y1 n x y
    outside o = clip_out a b c d n x y (outside-within a b c d (omega arith) o) ∙ sym (clip_out x0 y0 x1 y1 n x y o)

pub clip_zero : (x0 y0 x1 y1 : ℕ) (n : ℕ → ℕ → ℕ) → ((x y : ℕ) → Inside x0 y0 x1 y1 x y → n x y ≡ 0)
    → (x y : ℕ) → clipped x0 y0 x1 y1 n x y ≡ 0
clip_zero x0 y0 x1 y1 n none x y =
    ⊎_elim (λ i. clip_in x0 y0 x1 y1 n x y i ∙ none x y i) (clip_out x0 y0 x1 y1 n x y) (in_or_out x0 y0 x1 y1 x y)

-- ---- coverages that never meet

-- c is a or b, and the other is 0
abbrev pub Either : ℕ → ℕ → ℕ → Type 0
Either a b c = ((a ≡ 0) × (b ≡ c)) ⊎ ((b ≡ 0) × (a ≡ c))

-- n is n₁ and n₂ together, which nowhere meet
abbrev pub Join : (ℕ → ℕ → ℕ) → (ℕ → ℕ → ℕ) → (ℕ → ℕ → ℕ) → Type 0
Join n₁ n₂ n = (x y : ℕ) → Either (n₁ x y) (n₂ x y) (n x y)

-- a clip in two parts: a pixel of it is in one of them alone, and one outside it is in neither
clip_parts : (x0 y0 x1 y1 a b c d e f g h : ℕ) (n : ℕ → ℕ → ℕ) (x y : ℕ)
    → (Inside x0 y0 x1 y1 x y → (Inside a b c d x y × Outside e f g h x y) ⊎ (Outside a b c d x y × Inside e f g h x y))
    → (Outside x0 y0 x1 y1 x y → Outside a b c d x y × Outside e f g h x y)
    → Either (clipped a b c d n x y) (clipped e f g h n x y) (clipped x0 y0 x1 y1 n x y)
clip_parts x0 y0 x1 y1 a b c d e f g h n x y one none = ⊎_elim inside outside (in_or_out x0 y0 x1 y1 x y)
  where
    inside : Inside x0 y0 x1 y1 x y → Either (clipped a b c d n x y) (clipped e f g h n x y) (clipped x0 y0 x1 y1 n x y)
    inside i =
        let is = sym (clip_in x0 y0 x1 y1 n x y i) in
        ⊎_elim
        (λ p. inr (clip_out e f g h n x y p.1, clip_in a b c d n x y p.0 ∙ is))
        (λ p. inl (clip_out a b c d n x y p.0, clip_in e f g h n x y p.1 ∙ is))
        (one i)

    outside : Outside x0 y0 x1 y1 x y → Either (clipped a b c d n x y) (clipped e f g h n x y) (clipped x0 y0 x1 y1 n x y)
    outside o = inl (clip_out a b c d n x y (none o).0, clip_out e f g h n x y (none o).1 ∙ sym (clip_out x0 y0 x1 y1 n x y o))

-- cut at column c
pub clip-columns : (x0 y0 x1 y1 c : ℕ) (n : ℕ → ℕ → ℕ) → x0 ≤ c → c ≤ x1
    → Join (clipped x0 y0 c y1 n) (clipped c y0 x1 y1 n) (clipped x0 y0 x1 y1 n)
clip-columns x0 y0 x1 y1 c n h k x y =
    clip_parts x0 y0 x1 y1 x0 y0 c y1 c y0 x1 y1 n x y
    (λ i. ⊎_elim (λ z. inl (omega arith, left_of_lem z)) (λ z. inr (right_of z, omega arith)) (lt_or_le x c))
    (λ o. (outside-within x0 y0 c y1 (omega arith) o, outside-within c y0 x1 y1 (omega arith) o))

-- cut at row c
pub clip-rows : (x0 y0 x1 y1 c : ℕ) (n : ℕ → ℕ → ℕ) → y0 ≤ c → c ≤ y1
    → Join (clipped x0 y0 x1 c n) (clipped x0 c x1 y1 n) (clipped x0 y0 x1 y1 n)
clip-rows x0 y0 x1 y1 c n h k x y =
    clip_parts x0 y0 x1 y1 x0 y0 x1 c x0 c x1 y1 n x y
    (λ i. ⊎_elim (λ z. inl (omega arith, above z)) (λ z. inr (below z, omega arith)) (lt_or_le y c))
    (λ o. (outside-within x0 y0 x1 c (omega arith) o, outside-within x0 c x1 y1 (omega arith) o))

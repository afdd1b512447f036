-- Laws of painted pages.
use mathlib.Core.Bool.{Bool, cond}
use mathlib.Core.Path.{◌≡◌, refl, sym, ap, ap₂, ◌∙◌, subst}
use mathlib.Core.Logic.{◌⊎◌, inl, inr, ⊎_elim}
use mathlib.Core.List.{List}
use Prim.Native.Nat.{ℕ, ◌+◌, ◌-◌, ◌*◌, ◌/◌, ◌%◌, ◌≤◌, ◌<◌}
use native.Mathlib.Nat.{suc-mul, mul-le-mul_right, div-add-mod'}
use native.Mathlib.Omega.{arith}
use lib.Arith.{digits_div, digits_mod}
use borrow.Author.Tests.{lt-ltb}
use lib.ListN.{length, get_or, take, drop, set}
use borrow.Rule.Slice.PartMut.{put_mid}
use Rattle.numbers.proofs.Order.{lt_or_le}
use Rattle.blending.specs.Blend.{blend}
use Rattle.lights.specs.inner.Fit.{Fit}
use Rattle.blending.proofs.Blend.{blend-none}
use Rattle.page.specs.inner.Ink.{ink_of}
use Rattle.page.specs.Page.{over}
use Rattle.page.specs.inner.Paint.{dot, clipped, painted}
use Rattle.page.proofs.Over.{length_over, over-same, over_ext, over-over, over-set, over-part}
use Rattle.page.proofs.Clip.{Outside, left_of_lem, right_of, above, below, clip_in, clip_out, Either, Join}

-- ---- the byte of a pixel

-- row y lies before row h
pub row-end : (y h w : ℕ) → y < h → y * w + w ≤ h * w
row-end y h w b = subst (λ (m : ℕ). m ≤ h * w) (suc-mul y w) (mul-le-mul_right w b)

-- byte k lies in row y, at column k − y·w
pub row_of : (w y k : ℕ) → y * w ≤ k → k < y * w + w → k / w ≡ y
row_of w y k h₁ h₂ =
    let e : k ≡ y * w + (k - y * w) = omega arith in
    ap (λ (j : ℕ). j / w) e ∙ digits_div y {m = w} {r = k - y * w} (omega arith)

pub column_of_lem : (w y k : ℕ) → y * w ≤ k → k < y * w + w → k % w ≡ k - y * w
column_of_lem w y k h₁ h₂ =
    let e : k ≡ y * w + (k - y * w) = omega arith in
    ap (λ (j : ℕ). j % w) e ∙ digits_mod y {m = w} {r = k - y * w} (omega arith)

byte_of : (w y k : ℕ) → k / w ≡ y → y * w + k % w ≡ k
byte_of w y k e = ap (λ (q : ℕ). q * w + k % w) (sym e) ∙ div-add-mod' k w

-- ---- one pixel with ink

pub dot-none : (ink : ℕ → ℕ → ℕ) (u : ℕ) → dot ink 0 u ≡ u
unfolding dot
dot-none ink u = refl

dot_zero : (ink : ℕ → ℕ → ℕ) (n u : ℕ) → n ≡ 0 → u ≡ dot ink n u
dot_zero ink n u e = sym (ap (λ (c : ℕ). dot ink c u) e ∙ dot-none ink u)

-- a blend needs no test of the coverage, since coverage 0 keeps a byte
pub dot-blend : (lights : List ℕ) (v d n u : ℕ) → Fit lights → u ≤ 255 → 0 < d → dot (ink_of lights v d) n u ≡ blend lights u v n d
unfolding dot
dot-blend lights v d n u fit byte some =
    ⊎_elim
    (λ z. ap (λ (t : Bool). cond t (blend lights u v n d) u) (lt-ltb 0 n z))
    (λ z. let e : n ≡ 0 = omega arith in rw e (sym (blend-none lights fit u v d byte some)))
    (lt_or_le 0 n)

-- a whole coverage gives the level
pub dot-some : (ink : ℕ → ℕ → ℕ) (n u : ℕ) → 0 < n → dot ink n u ≡ ink n u
unfolding dot
dot-some ink n u h = ap (λ (t : Bool). cond t (ink n u) u) (lt-ltb 0 n h)

-- ---- painted pages

pub length-painted : (w : ℕ) (ink : ℕ → ℕ → ℕ) (n : ℕ → ℕ → ℕ) (l : List ℕ) → length (painted w ink n l) ≡ length l
unfolding painted
length-painted w ink n l = length_over (λ k. dot ink (n (k % w) (k / w))) l

pub painted_ext : (w : ℕ) (ink : ℕ → ℕ → ℕ) (n n' : ℕ → ℕ → ℕ) (l : List ℕ) → ((x y : ℕ) → n x y ≡ n' x y)
    → painted w ink n l ≡ painted w ink n' l
unfolding painted
painted_ext w ink n n' l h = over_ext _ _ l (λ k b. ap (λ (c : ℕ). dot ink c (get_or l k 0)) (h (k % w) (k / w)))

pub painted_zero : (w : ℕ) (ink : ℕ → ℕ → ℕ) (n : ℕ → ℕ → ℕ) (l : List ℕ) → ((x y : ℕ) → n x y ≡ 0) → l ≡ painted w ink n l
unfolding painted
painted_zero w ink n l h = over-same _ l (λ k b. dot_zero ink (n (k % w) (k / w)) (get_or l k 0) (h (k % w) (k / w)))

-- one coverage and then another, which nowhere meet
pub painted_join : (w : ℕ) (ink : ℕ → ℕ → ℕ) (n₁ n₂ n : ℕ → ℕ → ℕ) (l : List ℕ) → Join n₁ n₂ n
    → painted w ink n₂ (painted w ink n₁ l) ≡ painted w ink n l
unfolding painted
painted_join w ink n₁ n₂ n l j =
    over-over (λ k. dot ink (n₁ (k % w) (k / w))) (λ k. dot ink (n₂ (k % w) (k / w))) l
    ∙ over_ext _ _ l (λ k b. both (get_or l k 0) (j (k % w) (k / w)))
  where
    both : {a b c : ℕ} (u : ℕ) → Either a b c → dot ink b (dot ink a u) ≡ dot ink c u
    both {a} {b} {c} u (inl h) = ap (dot ink b) (sym (dot_zero ink a u h.0)) ∙ ap (λ (m : ℕ). dot ink m u) h.1
    both {a} {b} {c} u (inr h) = sym (dot_zero ink b (dot ink a u) h.0) ∙ ap (λ (m : ℕ). dot ink m u) h.1

-- a coverage of one pixel is one store
pub painted_one : (w : ℕ) (ink : ℕ → ℕ → ℕ) (x y : ℕ) (n : ℕ → ℕ → ℕ) (l : List ℕ) → x < w → y * w + x < length l
    → ((x' y' : ℕ) → ((x' ≡ x) × (y' ≡ y) → ⊥) → n x' y' ≡ 0)
    → set l (y * w + x) (dot ink (n x y) (get_or l (y * w + x) 0)) ≡ painted w ink n l
unfolding painted
painted_one w ink x y n l h₁ h₂ none =
    over-set (λ k. dot ink (n (k % w) (k / w))) l (y * w + x) _ h₂
    (ap₂ (λ (a b : ℕ). dot ink (n a b) (get_or l (y * w + x) 0)) (sym (digits_mod y h₁)) (sym (digits_div y h₁)))
    (λ k ne. dot_zero ink (n (k % w) (k / w)) (get_or l k 0) (none (k % w) (k / w) (λ e. ne (here k e))))
  where
    here : (k : ℕ) → (k % w ≡ x) × (k / w ≡ y) → k ≡ y * w + x
    here k e = sym (byte_of w y k e.1) ∙ ap (λ (a : ℕ). y * w + a) e.0

-- columns a to b of row y, lent, drawn and put back
pub painted_stretch : (w : ℕ) (ink : ℕ → ℕ → ℕ) (a b y : ℕ) (n : ℕ → ℕ → ℕ) (l m : List ℕ) → a ≤ b → b ≤ w → y * w + b ≤ length l
    → m ≡ over (λ i. dot ink (n (a + i) y)) (take (y * w + b - (y * w + a)) (drop (y * w + a) l))
    → put_mid (y * w + a) (y * w + b - (y * w + a)) l m ≡ painted w ink (clipped a y b (y + 1) n) l
unfolding painted
painted_stretch w ink a b y n l m h₁ h₂ h₃ e =
    over-part (λ k. dot ink (clipped a y b (y + 1) n (k % w) (k / w))) (λ i. dot ink (n (a + i) y)) l m (y * w + a) (y * w + b)
    (omega arith) h₃ e
    (λ k p q. ap (λ (c : ℕ). dot ink c (get_or l k 0)) (inside k p q))
    (λ k o. dot_zero ink _ (get_or l k 0) (clip_out a y b (y + 1) n _ _ (outside k o (lt_or_le (k / w) y) (lt_or_le y (k / w)))))
  where
    inside : (k : ℕ) → y * w + a ≤ k → k < y * w + b → n (a + (k - (y * w + a))) y ≡ clipped a y b (y + 1) n (k % w) (k / w)
    inside k p q =
        let ey = row_of w y k (omega arith) (omega arith) in
        let ex = column_of_lem w y k (omega arith) (omega arith) in
        let x : a + (k - (y * w + a)) ≡ k % w = omega arith in
        ap₂ n x (sym ey)
        ∙ sym (clip_in a y b (y + 1) n (k % w) (k / w) (omega arith))

    outside : (k : ℕ) → (k < y * w + a) ⊎ (y * w + b ≤ k) → (k / w < y) ⊎ (y ≤ k / w) → (y < k / w) ⊎ (k / w ≤ y)
        → Outside a y b (y + 1) (k % w) (k / w)
    outside k o (inl p) q = above p
    outside k o (inr p) (inl q) = below (omega arith)
    outside k (inl o) (inr p) (inr q) = let e = byte_of w y k (omega arith) in left_of_lem (omega arith)
    outside k (inr o) (inr p) (inr q) = let e = byte_of w y k (omega arith) in right_of (omega arith)

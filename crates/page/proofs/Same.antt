-- What is drawn with a coverage over d is drawn with the same share over d', in inks that leave the same byte at the same share.
use mathlib.Core.Path.{◌≡◌, sym, ◌∙◌, ap}
use mathlib.Core.List.{List}
use mathlib.Core.Logic.{⊎_elim}
use Prim.Native.Nat.{ℕ, ◌*◌, ◌/◌, ◌%◌, ◌≤◌, ◌<◌}
use native.Mathlib.Nat.{mul-le-mul, eq-zero-or-pos}
use native.Mathlib.Omega.{arith}
use lib.ListN.{get_or}
use Rattle.numbers.specs.Sum.{sum_to}
use Rattle.numbers.specs.inner.Equal.{Equal}
use Rattle.numbers.proofs.Sum.{sum_ext}
use Rattle.blending.proofs.Same.{blend-same}
use Rattle.page.specs.inner.Ink.{ink_of}
use Rattle.page.specs.inner.Paint.{dot, touch, clipped, painted, touches, Drawn}
use Rattle.page.proofs.Over.{over_ext}
use Rattle.page.proofs.Clip.{Inside, Outside, in_or_out, clip_in, clip_out}
use Rattle.page.proofs.Paint.{dot-none, dot-some}

equal_back : {n d n' d' : ℕ} → Equal n d n' d' → Equal n' d' n d
equal_back e = record { cross = sym e.cross; some = e.some'; some' = e.some; part = e.part'; part' = e.part }

none-same : {n d n' d' : ℕ} → Equal n d n' d' → n ≡ 0 → n' ≡ 0
none-same {n} {d} {n'} {d'} e z =
    ⊎_elim (λ h. h) (λ (h : 0 < n'). let p : 1 ≤ d = e.some in absurd (omega (arith, e.cross, ap (λ (x : ℕ). x * d') z, mul-le-mul h p))) (eq-zero-or-pos n')

some_same : {n d n' d' : ℕ} → Equal n d n' d' → 0 < n → 0 < n'
some_same {n' = n'} e h = ⊎_elim (λ (z : n' ≡ 0). absurd (omega (arith, none-same (equal_back e) z))) (λ g. g) (eq-zero-or-pos n')

-- in two inks that leave the same byte
dot-same : (ink ink' : ℕ → ℕ → ℕ) (u : ℕ) {n d n' d' : ℕ} → Equal n d n' d' → ink n u ≡ ink' n' u → dot ink n u ≡ dot ink' n' u
dot-same ink ink' u {n} {d} {n'} {d'} e same = ⊎_elim none some (eq-zero-or-pos n)
  where
    none : n ≡ 0 → dot ink n u ≡ dot ink' n' u
    none z = rw (z, none-same e z) (dot-none ink u ∙ sym (dot-none ink' u))

    some : 0 < n → dot ink n u ≡ dot ink' n' u
    some h = dot-some ink n u h ∙ same ∙ sym (dot-some ink' n' u (some_same e h))

touch-same : {n d n' d' : ℕ} → Equal n d n' d' → touch n ≡ touch n'
touch-same {n} e = ⊎_elim (λ z. omega (arith, none-same e z)) (λ h. omega (arith, some_same e h)) (eq-zero-or-pos n)

module _ (ink ink' : ℕ → ℕ → ℕ) (x0 y0 x1 y1 d d' : ℕ) (n n' : ℕ → ℕ → ℕ) (alike : (u k k' : ℕ) → Equal k d k' d' → ink k u ≡ ink' k' u)
    (same : (x y : ℕ) → Inside x0 y0 x1 y1 x y → Equal (n x y) d (n' x y) d') where
  -- what holds of both coverages inside the clip, and of none outside
  by_clip : (P : ℕ → ℕ → Type 0) → P 0 0 → (x y : ℕ) → (Inside x0 y0 x1 y1 x y → P (n x y) (n' x y))
      → P (clipped x0 y0 x1 y1 n x y) (clipped x0 y0 x1 y1 n' x y)
  by_clip P none x y some = ⊎_elim inside outside (in_or_out x0 y0 x1 y1 x y)
    where
      inside : Inside x0 y0 x1 y1 x y → P (clipped x0 y0 x1 y1 n x y) (clipped x0 y0 x1 y1 n' x y)
      inside i = rw (clip_in x0 y0 x1 y1 n x y i, clip_in x0 y0 x1 y1 n' x y i) (some i)

      outside : Outside x0 y0 x1 y1 x y → P (clipped x0 y0 x1 y1 n x y) (clipped x0 y0 x1 y1 n' x y)
      outside o = rw (clip_out x0 y0 x1 y1 n x y o, clip_out x0 y0 x1 y1 n' x y o) none

  pub drawn-alike : {w h : ℕ} {l m : List ℕ} {t : ℕ} → Drawn w h ink (clipped x0 y0 x1 y1 n) l m t
      → Drawn w h ink' (clipped x0 y0 x1 y1 n') l m t
  unfolding painted touches
  drawn-alike {w} {h} {l} p =
      record {
        page =
            p.page
            ∙ over_ext (λ k. dot ink (clipped x0 y0 x1 y1 n (k % w) (k / w))) (λ k. dot ink' (clipped x0 y0 x1 y1 n' (k % w) (k / w))) l
            (λ k b.
            by_clip (λ (a b : ℕ). dot ink a (get_or l k 0) ≡ dot ink' b (get_or l k 0))
            (dot-none ink (get_or l k 0) ∙ sym (dot-none ink' (get_or l k 0)))
            (k % w) (k / w) (λ i. let e = same (k % w) (k / w) i in dot-same ink ink' (get_or l k 0) e (alike (get_or l k 0) _ _ e)));
        count =
            p.count
            ∙ sum_ext h (λ j. sum_to w (λ i. touch (clipped x0 y0 x1 y1 n i j))) (λ j. sum_to w (λ i. touch (clipped x0 y0 x1 y1 n' i j)))
            (λ j _. sum_ext w (λ i. touch (clipped x0 y0 x1 y1 n i j)) (λ i. touch (clipped x0 y0 x1 y1 n' i j))
            (λ i _. by_clip (λ (a b : ℕ). touch a ≡ touch b) (omega arith) i j (λ k. touch-same (same i j k))));
      }

-- those of a level in some lights do
pub ink_same : (lights : List ℕ) (v d d' u k k' : ℕ) → Equal k d k' d' → ink_of lights v d k u ≡ ink_of lights v d' k' u
ink_same lights v d d' u k k' = blend-same lights u v

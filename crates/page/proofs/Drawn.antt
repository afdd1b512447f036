-- Laws of a page that is drawn part by part.
use mathlib.Core.Path.{◌≡◌, refl, sym, ap, ap₂, ◌∙◌}
use mathlib.Core.Logic.{◌⊎◌, inl, inr, ⊎_elim}
use mathlib.Core.List.{List}
use Prim.Native.Nat.{ℕ, zero, suc, ◌+◌, ◌-◌, ◌*◌, ◌≤◌, ◌<◌}
use native.Mathlib.Nat.{mul-le-mul}
use native.Mathlib.Omega.{arith}
use lib.ListN.{length, get_or, take, drop, set}
use borrow.Rule.Slice.PartMut.{put_mid}
use Rattle.numbers.specs.Sum.{sum_to}
use Rattle.page.specs.Page.{over}
use Rattle.page.specs.inner.Paint.{dot, touch, clipped, painted, in_view, Lawful, Drawn, DrawnIn, Filled}
use Rattle.page.specs.declared.View.{View}
use Rattle.page.proofs.Paint.{row-end, dot-some, length-painted, painted_ext, painted_zero, painted_join, painted_one, painted_stretch}
use Rattle.page.proofs.Touches.{touches_le, touches_ext, touches_zero, touches_join, touches_one, touches_stretch}
use Rattle.page.proofs.Over.{over_ext}
use Rattle.page.proofs.Clip.{Inside, Outside, left_of_lem, right_of, above, below, in_or_out, clip_in, clip_out, clip_ext, clip_shrink, Join, clip-columns}

pub drawn-none : (w h : ℕ) (ink : ℕ → ℕ → ℕ) (n : ℕ → ℕ → ℕ) (l : List ℕ) → ((x y : ℕ) → n x y ≡ 0) → Drawn w h ink n l l 0
drawn-none w h ink n l e = record { page = painted_zero w ink n l e; count = sym (touches_zero w h n e) }

pub drawn_ext : {w h : ℕ} {ink n : ℕ → ℕ → ℕ} {l m : List ℕ} {t : ℕ} (n' : ℕ → ℕ → ℕ) → ((x y : ℕ) → n x y ≡ n' x y)
    → Drawn w h ink n l m t → Drawn w h ink n' l m t
drawn_ext {w} {h} {ink} {n} {l} n' e d =
    record { page = d.page ∙ painted_ext w ink n n' l e; count = d.count ∙ touches_ext w h n n' e }

pub drawn_join : {w h : ℕ} {ink n₁ n₂ : ℕ → ℕ → ℕ} {l m p : List ℕ} {s t : ℕ} (n : ℕ → ℕ → ℕ) → Join n₁ n₂ n
    → Drawn w h ink n₁ l m s
    → Drawn w h ink n₂ m p t
    → Drawn w h ink n l p (s + t)
drawn_join {w} {h} {ink} {n₁} {n₂} {l} n j d e =
    record {
      page = e.page ∙ ap (painted w ink n₂) d.page ∙ painted_join w ink n₁ n₂ n l j;
      count = ap₂ ◌+◌ d.count e.count ∙ touches_join w h n₁ n₂ n j;
    }

-- one pixel
pub drawn_one : (w h : ℕ) (ink : ℕ → ℕ → ℕ) (x y : ℕ) (n : ℕ → ℕ → ℕ) (l : List ℕ) → x < w → y < h → h * w ≤ length l
    → ((x' y' : ℕ) → ((x' ≡ x) × (y' ≡ y) → ⊥) → n x' y' ≡ 0)
    → Drawn w h ink n l (set l (y * w + x) (dot ink (n x y) (get_or l (y * w + x) 0))) (touch (n x y))
drawn_one w h ink x y n l h₁ h₂ h₃ none =
    record {
      page = painted_one w ink x y n l h₁ (omega (arith, row-end y h w h₂)) none;
      count = sym (touches_one w h x y n h₁ h₂ none);
    }

-- a stretch of a row
pub drawn_stretch : (w h : ℕ) (ink : ℕ → ℕ → ℕ) (a b y : ℕ) (n : ℕ → ℕ → ℕ) (l m : List ℕ) (t : ℕ) → a ≤ b → b ≤ w → y < h
    → h * w ≤ length l
    → m ≡ over (λ i. dot ink (n (a + i) y)) (take (y * w + b - (y * w + a)) (drop (y * w + a) l))
    → t ≡ sum_to (b - a) (λ i. touch (n (a + i) y))
    → Drawn w h ink (clipped a y b (y + 1) n) l (put_mid (y * w + a) (y * w + b - (y * w + a)) l m) t
drawn_stretch w h ink a b y n l m t h₁ h₂ h₃ h₄ e c =
    record {
      page = painted_stretch w ink a b y n l m h₁ h₂ (omega (arith, row-end y h w h₃)) e;
      count = c ∙ sym (touches_stretch w h a b y n h₁ h₂ h₃);
    }

-- one that is whole: any ink that leaves v at the whole coverage d
pub drawn-whole : (w h v a b y : ℕ) (l m : List ℕ) → a ≤ b → b ≤ w → y < h → h * w ≤ length l
    → m ≡ over (λ _ _. v) (take (y * w + b - (y * w + a)) (drop (y * w + a) l))
    → Filled w h v y a b l (put_mid (y * w + a) (y * w + b - (y * w + a)) l m) (b - a)
unfolding sum_to
drawn-whole w h v a b y l m h₁ h₂ h₃ h₄ e ink d some leaves =
    drawn_stretch w h ink a b y (λ _ _. d) l m (b - a) h₁ h₂ h₃ h₄
    (e ∙ over_ext (λ _ _. v) (λ _. dot ink d) _ (λ k _. sym (dot-some ink d _ some ∙ leaves _)))
    (ones (b - a))
  where
    ones : (k : ℕ) → k ≡ sum_to k (λ _. touch d)
    ones zero = refl
    ones (suc k) = omega (arith, ones k)

pub drawn-length : {w h : ℕ} {ink n : ℕ → ℕ → ℕ} {l m : List ℕ} {t : ℕ} → Drawn w h ink n l m t → length m ≡ length l
drawn-length {w} {h} {ink} {n} {l} d = ap length d.page ∙ length-painted w ink n l

-- two coverages that are the same on every page are drawn the same
pub drawn-same : {view : View} {size : ℕ} {ink n : ℕ → ℕ → ℕ} {l m : List ℕ} {t : ℕ} (n' : ℕ → ℕ → ℕ) → Lawful view size
    → ((x y : ℕ) → x < 1024 → y < 1024 → n x y ≡ n' x y)
    → DrawnIn view ink n l m t
    → DrawnIn view ink n' l m t
drawn-same {view} {n = n} n' w same =
    drawn_ext (in_view view n')
    (clip_ext view.x0 view.y0 view.x1 view.y1 n n'
    (λ x y i. same x y (omega (arith, i.right, w.x-most, w.w-most)) (omega (arith, i.bottom, w.y-most, w.h-most))))

-- no shape touches more pixels than the largest page has
pub drawn-count : {view : View} {size t : ℕ} {ink n : ℕ → ℕ → ℕ} {l m : List ℕ} → Lawful view size
    → Drawn view.w view.h ink n l m t → t ≤ 1048576
drawn-count {view} {n = n} law d =
    omega (arith, d.count, touches_le view.w view.h n, mul-le-mul law.h-most law.w-most)

-- columns p to q, then q to s
pub drawn_beside : {w h : ℕ} {ink : ℕ → ℕ → ℕ} {l m k : List ℕ} {t u : ℕ} (n : ℕ → ℕ → ℕ) (y p q s : ℕ) → p ≤ q → q ≤ s
    → Drawn w h ink (clipped p y q (y + 1) n) l m t
    → Drawn w h ink (clipped q y s (y + 1) n) m k u
    → Drawn w h ink (clipped p y s (y + 1) n) l k (t + u)
drawn_beside n y p q s h₁ h₂ = drawn_join (clipped p y s (y + 1) n) (clip-columns p y s (y + 1) q n h₁ h₂)

-- columns a to x, then pixel x
pub drawn-next : {w h : ℕ} {ink : ℕ → ℕ → ℕ} {l m : List ℕ} {t : ℕ} (n : ℕ → ℕ → ℕ) (a x y : ℕ) → a ≤ x → x < w → y < h → h * w ≤ length l
    → Drawn w h ink (clipped a y x (y + 1) n) l m t
    → Drawn w h ink (clipped a y (x + 1) (y + 1) n) l (set m (y * w + x) (dot ink (n x y) (get_or m (y * w + x) 0))) (t + touch (n x y))
drawn-next {w} {h} {ink} {l} {m} n a x y h₁ h₂ h₃ h₄ d =
    let one = clip_in x y (x + 1) (y + 1) n x y (record { left = omega arith; right = omega arith; top = omega arith; bottom = omega arith }) in
    drawn_beside n y a x (x + 1) h₁ (omega arith) d
    (rw one at (drawn_one w h ink x y (clipped x y (x + 1) (y + 1) n) m h₂ h₃ (omega (arith, drawn-length d, h₄)) others))
  where
    others : (x' y' : ℕ) → ((x' ≡ x) × (y' ≡ y) → ⊥) → clipped x y (x + 1) (y + 1) n x' y' ≡ 0
    others x' y' f = ⊎_elim (λ (i : Inside x y (x + 1) (y + 1) x' y'). absurd (f (omega arith, omega arith))) (clip_out x y (x + 1) (y + 1) n x' y') (in_or_out x y (x + 1) (y + 1) x' y')

-- columns q to r, all of them whole
pub drawn_full : {w h : ℕ} {ink : ℕ → ℕ → ℕ} {l m : List ℕ} {t : ℕ} (n : ℕ → ℕ → ℕ) (d y q r : ℕ)
    → ((x : ℕ) → q ≤ x → x < r → n x y ≡ d)
    → Drawn w h ink (clipped q y r (y + 1) (λ _ _. d)) l m t
    → Drawn w h ink (clipped q y r (y + 1) n) l m t
drawn_full n d y q r whole = drawn_ext (clipped q y r (y + 1) n) (clip_ext q y r (y + 1) (λ _ _. d) n same)
  where
    same : (x z : ℕ) → Inside q y r (y + 1) x z → d ≡ n x z
    same x z i =
        let e : y ≡ z = omega arith in
        rw (sym e) (sym (whole x i.left i.right))

-- columns a to b are drawn with c to d, where the row has nothing in the others
pub drawn-row : {w h : ℕ} {ink : ℕ → ℕ → ℕ} {l m : List ℕ} {t : ℕ} (n : ℕ → ℕ → ℕ) (a b c d y : ℕ) → a ≤ c → d ≤ b
    → ((x : ℕ) → a ≤ x → x < b → (x < c) ⊎ (d ≤ x) → n x y ≡ 0)
    → Drawn w h ink (clipped c y d (y + 1) n) l m t
    → Drawn w h ink (clipped a y b (y + 1) n) l m t
drawn-row n a b c d y h₁ h₂ none =
    drawn_ext (clipped a y b (y + 1) n) (clip_shrink a y b (y + 1) c y d (y + 1) n h₁ (omega arith) h₂ (omega arith) nothing)
  where
    here : (x z : ℕ) → Inside a y b (y + 1) x z → (x < c) ⊎ (d ≤ x) → n x z ≡ 0
    here x z i o =
        let e : y ≡ z = omega arith in
        rw (sym e) (none x i.left i.right o)

    nothing : (x z : ℕ) → Inside a y b (y + 1) x z → Outside c y d (y + 1) x z → n x z ≡ 0
    nothing x z i (left_of_lem h) = here x z i (inl h)
    nothing x z i (right_of h) = here x z i (inr h)
    nothing x z i (above h) = absurd (omega arith)
    nothing x z i (below h) = absurd (omega arith)

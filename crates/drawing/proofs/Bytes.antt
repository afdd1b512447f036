-- The bytes of a whole page: the part that is lent, the bytes past it, and each byte against the exact blend.
use mathlib.Core.Path.{◌≡◌, sym, ◌∙◌, ap, subst}
use mathlib.Core.Bool.{Bool, true, false, cond}
use mathlib.Core.Logic.{◌⊎◌, inl, inr}
use mathlib.Core.List.{List, [], ◌∷◌, ◌++◌}
use Prim.Native.Nat.{ℕ, ◌+◌, ◌*◌, ◌-◌, ◌%◌, ◌/◌, ◌≤◌, ◌<◌}
use native.Mathlib.Nat.{mul_comm}
use native.Mathlib.Omega.{arith}
use borrow.Rule.Slice.PartMut.{Post-is}
use borrow.Author.Tests.{lt-ltb, le-ltb}
use lib.Dec.{ltb}
use lib.IntN.{pos}
use lib.ListN.{length, get_or, take, drop}
use Rattle.coverage.proofs.Soundness.{sound}
use Rattle.page.specs.Page.{over}
use Rattle.page.proofs.Over.{over-part, get_d_over}
use Rattle.page.proofs.Paint.{row-end, row_of, column_of_lem}
use Rattle.lights.specs.Lights.{light_of}
use Rattle.lights.specs.inner.Fit.{Fit}
use Rattle.bound.specs.Exact.{Touch, whole, byte_after}
use Rattle.bound.specs.Sound.{AllSound}
use Rattle.bound.proofs.Lights.{close_to_exact, exact-den, bound-den}
use Rattle.touches.specs.Touch.{touched}
use Rattle.settings.specs.Drawing.{Drawing}
use Rattle.drawing.specs.Touches.{touch_of, touches_at}
use Rattle.drawing.specs.Page.{drawn_page}
use Rattle.drawing.specs.inner.Walk.{touched_page, AllLawful}
use Rattle.drawing.specs.Claim.{ByteBounded}
use Rattle.lists.proofs.Walkable.{room}

-- ---- the bytes

-- the part that is lent, drawn, in front of the bytes past it
pub page-whole : (lights : List ℕ) (w h b : ℕ) (ds : List Drawing) (l m : List ℕ) → w * h ≤ length l → m ≡ touched_page lights w b ds (take (w * h) l)
    → m ++ drop (w * h) l ≡ drawn_page lights w h b ds l
unfolding touched_page drawn_page
page-whole lights w h b ds l m room e =
    let n : w * h ≡ w * h - 0 = omega arith in
    ap (λ (q : List ℕ). m ++ q) (sym (Post-is 0 (w * h) l (omega arith)))
    ∙ over-part _ (λ k _. byte_after lights b (touches_at ds (k % w) (k / w))) l m 0 (w * h) (omega arith) room
    (e ∙ ap (λ (j : ℕ). over (λ k _. byte_after lights b (touches_at ds (k % w) (k / w))) (take j l)) n)
    inside
    outside
  where
    at : ℕ → ℕ
    at k = byte_after lights b (touches_at ds (k % w) (k / w))

    inside : (k : ℕ) → 0 ≤ k → k < w * h → at (k - 0) ≡ cond (ltb k (w * h)) (at k) (get_or l k 0)
    inside k _ i = let n : k - 0 ≡ k = omega arith in rw (lt-ltb k (w * h) i) (ap at n)

    outside : (k : ℕ) → (k < 0) ⊎ (w * h ≤ k) → get_or l k 0 ≡ cond (ltb k (w * h)) (at k) (get_or l k 0)
    outside k (inl i) = absurd (omega arith)
    outside k (inr i) = rw (le-ltb k (w * h) i)

-- ---- the bound

pub touches-sound : (v : ℕ) (ds : List Drawing) (x y : ℕ) → AllLawful v ds → AllSound (touches_at ds x y)
unfolding AllLawful touches_at
touches-sound v [] x y a = tt
touches-sound v (d ∷ ds) x y a = go (touched d.settings.clip d.shape x y) (touches-sound v ds x y a.3)
  where
    go : (k : Bool) → AllSound (touches_at ds x y) → AllSound (cond k (touch_of d x y ∷ touches_at ds x y) (touches_at ds x y))
    go true s = ((a.0, sound d.shape (pos x) (pos y) a.2), s)
    go false s = s

-- a byte that sound touches leave is within their bound
byte_bounded : (lights : List ℕ) → Fit lights → (b : ℕ) (ts : List Touch) → b ≤ 255 → AllSound ts → ByteBounded lights (byte_after lights b ts) b ts
byte_bounded lights fit b ts h s =
    record {
      exact_pos = exact-den lights (whole (light_of lights b)) ts s (omega arith);
      bound_pos = bound-den lights ts s;
      within = close_to_exact lights fit b ts h s;
    }

-- pixel (x, y) of the page
pub byte-is : (lights : List ℕ) (w h b : ℕ) (ds : List Drawing) (l : List ℕ) (x y : ℕ) → w * h ≤ length l → x < w → y < h
    → get_or (drawn_page lights w h b ds l) (y * w + x) 0 ≡ byte_after lights b (touches_at ds x y)
unfolding drawn_page
byte-is lights w h b ds l x y room i j =
    let row = row-end y h w j in
    let size = mul_comm w h in
    let inside : y * w + x < w * h = omega arith in
    let column : (y * w + x) % w ≡ x = column_of_lem w y (y * w + x) (omega arith) (omega arith) ∙ omega arith in
    let line : (y * w + x) / w ≡ y = row_of w y (y * w + x) (omega arith) (omega arith) in
    get_d_over _ l (y * w + x) (omega arith)
    ∙ rw (lt-ltb (y * w + x) (w * h) inside, column, line)

pub all_bounded : (lights : List ℕ) → Fit lights → (v w h b : ℕ) (ds : List Drawing) (l : List ℕ) → w * h ≤ length l → b ≤ 255 → AllLawful v ds
    → (x y : ℕ) → x < w → y < h → ByteBounded lights (get_or (drawn_page lights w h b ds l) (y * w + x) 0) b (touches_at ds x y)
all_bounded lights fit v w h b ds l room k a x y i j =
    subst (λ (u : ℕ). ByteBounded lights u b (touches_at ds x y)) (sym (byte-is lights w h b ds l x y room i j))
    (byte_bounded lights fit b (touches_at ds x y) k (touches-sound v ds x y a))

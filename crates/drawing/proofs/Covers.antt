-- Which drawings the bound of a pixel counts: those after the last that covers it whole inside its clip.
use mathlib.Core.Bool.{Bool, true, false, cond}
use mathlib.Core.List.{List, [], ◌∷◌, ◌++◌}
use mathlib.Core.Path.{◌≡◌, refl, ◌∙◌, ap}
use Prim.Native.Nat.{ℕ, ◌+◌, ◌*◌, ◌≤◌, ◌<◌}
use native.Mathlib.Omega.{arith}
use borrow.Author.Tests.{lt-ltb, eq-eqb, ne_eqb}
use lib.IntN.{pos}
use lib.ListN.{length, get_or}
use Rattle.numbers.specs.Fraction.{Within}
use Rattle.numbers.proofs.Order.{both_true}
use Rattle.limits.specs.Limits.{shape_refusal}
use Rattle.coverage.specs.Coverage.{exact_n, exact_d}
use Rattle.coverage.proofs.Soundness.{sound}
use Rattle.lights.specs.Lights.{light_of}
use Rattle.lights.specs.inner.Fit.{Fit}
use Rattle.bound.specs.Exact.{whole, byte_after, exact_after, margins_of, covers, covered, bound_of}
use Rattle.bound.proofs.Covers.{bound_uncovered, bound_cover, byte_cover}
use Rattle.bound.proofs.Lights.{margins_den, within_margins}
use Rattle.touches.specs.Touch.{touched}
use Rattle.settings.specs.Drawing.{Drawing}
use Rattle.drawing.specs.Touches.{touch_of, touches_at}
use Rattle.drawing.specs.Page.{drawn_page}
use Rattle.drawing.specs.Claim.{ByteBounded}
use Rattle.drawing.specs.Cover.{Covering, Uncovered}
use Rattle.drawing.specs.inner.Walk.{AllLawful}
use Rattle.drawing.proofs.Bytes.{touches-sound, byte-is}

touches_then : (ds es : List Drawing) (x y : ℕ) → touches_at (ds ++ es) x y ≡ touches_at ds x y ++ touches_at es x y
unfolding touches_at
touches_then [] es x y = refl
touches_then (d ∷ ds) es x y = rw (touches_then ds es x y) (go (touched d.settings.clip d.shape x y))
  where
    go : (k : Bool) → cond k (touch_of d x y ∷ touches_at ds x y ++ touches_at es x y) (touches_at ds x y ++ touches_at es x y)
        ≡ cond k (touch_of d x y ∷ touches_at ds x y) (touches_at ds x y) ++ touches_at es x y
    go true = refl
    go false = refl

-- ---- drawings ds, then d, which covers the pixel whole, then es
module _ (d : Drawing) (x y : ℕ) (lawful : shape_refusal d.shape ≡ 0) (c : Covering d x y) where
  covers_it : covers (touch_of d x y) ≡ true
  unfolding covers
  covers_it = eq-eqb _ _ c.all

  touches_it : touched d.settings.clip d.shape x y ≡ true
  unfolding touched
  touches_it = rw c.inside (lt-ltb 0 (exact_n d.shape (pos x) (pos y)) (omega (arith, c.all, (sound d.shape (pos x) (pos y) lawful).exact_pos)))

  touches_are : (ds es : List Drawing) → touches_at (ds ++ d ∷ es) x y ≡ touches_at ds x y ++ touch_of d x y ∷ touches_at es x y
  unfolding touches_at
  touches_are ds es = touches_then ds (d ∷ es) x y ∙ rw touches_it refl

  -- only es count
  pub bound_since : (lights : List ℕ) (ds es : List Drawing) → bound_of lights (touches_at (ds ++ d ∷ es) x y) ≡ bound_of lights (touches_at es x y)
  bound_since lights ds es =
      ap (bound_of lights) (touches_are ds es) ∙ bound_cover lights (touches_at ds x y) (touch_of d x y) (touches_at es x y) covers_it

  module _ (lights : List ℕ) (fit : Fit lights) (byte : d.settings.level ≤ 255) where
    byte_since : (b : ℕ) (ds es : List Drawing) → byte_after lights b (touches_at (ds ++ d ∷ es) x y) ≡ byte_after lights d.settings.level (touches_at es x y)
    byte_since b ds es =
        ap (byte_after lights b) (touches_are ds es)
        ∙ byte_cover lights fit b (touches_at ds x y) (touch_of d x y) (touches_at es x y) (byte, sound d.shape (pos x) (pos y) lawful) covers_it

    -- the page's byte is what es leave of the level; with none of them at the pixel, the level itself
    pub page_since : (w h b : ℕ) (ds es : List Drawing) (l : List ℕ) → w * h ≤ length l → x < w → y < h
        → get_or (drawn_page lights w h b (ds ++ d ∷ es) l) (y * w + x) 0 ≡ byte_after lights d.settings.level (touches_at es x y)
    page_since w h b ds es l room i j = byte-is lights w h b (ds ++ d ∷ es) l x y room i j ∙ byte_since b ds es

-- ---- never covered whole
uncovered : (ds : List Drawing) (x y : ℕ) → Uncovered ds x y → covered (touches_at ds x y) ≡ false
unfolding Uncovered touches_at covered covers touched
uncovered [] x y n = refl
uncovered (d ∷ ds) x y n = go (touched d.settings.clip d.shape x y) refl (uncovered ds x y n.1)
  where
    go : (k : Bool) → touched d.settings.clip d.shape x y ≡ k → covered (touches_at ds x y) ≡ false
        → covered (cond k (touch_of d x y ∷ touches_at ds x y) (touches_at ds x y)) ≡ false
    go true e rest =
        let part = ne_eqb (exact_n d.shape (pos x) (pos y)) (exact_d d.shape) (λ q. n.0 (record { inside = (both_true _ _ e).0; all = q })) in
        rw (part, rest)
    go false e rest = rest

-- all count
pub bound_all : (lights : List ℕ) (ds : List Drawing) (x y : ℕ) → Uncovered ds x y → bound_of lights (touches_at ds x y) ≡ margins_of lights (touches_at ds x y)
bound_all lights ds x y n = bound_uncovered lights (touches_at ds x y) (uncovered ds x y n)

-- ---- what the claim says of a byte holds with the margins of all touches too
pub margins_bound : (lights : List ℕ) (u b v : ℕ) (ds : List Drawing) (x y : ℕ) → AllLawful v ds → ByteBounded lights u b (touches_at ds x y)
    → (0 < (margins_of lights (touches_at ds x y)).den)
    × Within (whole (light_of lights u)) (exact_after lights (whole (light_of lights b)) (touches_at ds x y)) (margins_of lights (touches_at ds x y))
margins_bound lights u b v ds x y a c =
    let s = touches-sound v ds x y a in
    (margins_den lights (touches_at ds x y) s, within_margins lights _ _ (touches_at ds x y) s c.within)

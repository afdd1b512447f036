-- What is read from a list shape by shape, by what the coverage query answers, is the bound of a pixel and the margin of a zone.
use mathlib.Core.Bool.{Bool, true, false, cond, ◌&&◌}
use mathlib.Core.List.{List, [], ◌∷◌}
use mathlib.Core.Logic.{◌↔◌, ⊎_elim}
use mathlib.Core.Path.{◌≡◌, refl, sym, ◌∙◌, ap, ap₂, subst}
use Prim.Native.Nat.{ℕ, ◌<◌}
use native.Mathlib.Omega.{arith}
use borrow.Author.Tests.{lt-ltb, le-ltb, eq-eqb, ne_eqb}
use lib.Dec.{eqb, ltb}
use lib.IntN.{pos}
use lib.ListN.{length}
use Rattle.numbers.specs.Fraction.{Frac, ◌⊕◌}
use Rattle.numbers.specs.Sound.{Sound}
use Rattle.numbers.proofs.Order.{lt_or_le, eq_or_ne}
use Rattle.limits.specs.Limits.{shape_refusal}
use Rattle.coverage.proofs.Soundness.{sound}
use Rattle.bound.specs.Exact.{Touch, after, whole, margin_of, covers, bound_of}
use Rattle.bound.proofs.Covers.{keep_bound, bound-kept}
use Rattle.touches.specs.Touch.{keeps, touched}
use Rattle.touches.proofs.Touches.{same_test}
use Rattle.shapes.specs.declared.Record.{Record}
use Rattle.format.specs.Format.{header_at, basis_of}
use Rattle.lists.specs.List.{Records, accepted, page_records, AllBytes}
use Rattle.settings.specs.Drawing.{Drawing, drawings}
use Rattle.drawing.specs.Touches.{touch_of, touches_at}
use Rattle.drawing.specs.Claim.{ClaimBy, Claim}
use Rattle.drawing.specs.Zone.{Zone, zone_sum, OnPage, zone_margin, ZoneWithin}
use Rattle.drawing.specs.Margin.{margin_by, margin_then, margin_after, margin_read, zone_read}
use Rattle.drawing.specs.inner.Walk.{AllLawful}
use Rattle.drawing.specs.Outcome.{Outcome}
use Rattle.drawing.proofs.Lawful.{list_lawful}
use Rattle.drawing.proofs.Zone.{zone_bounded}

same_whole : (n d m e : ℕ) → (n ≡ d) ↔ (m ≡ e) → eqb n d ≡ eqb m e
same_whole n d m e h =
    ⊎_elim (λ k. eq-eqb n d k ∙ sym (eq-eqb m e (h.0 k))) (λ k. ne_eqb n d k ∙ sym (ne_eqb m e (λ q. k (h.1 q)))) (eq_or_ne n d)

-- where n is 0 it is not d, so that either test may come first
none-part : (n d : ℕ) (m b : Frac) → 0 < d → margin_by n d m b ≡ cond (ltb 0 n) (cond (eqb n d) (whole 0) (b ⊕ m)) b
unfolding margin_by
none-part n d m b some =
    ⊎_elim (λ h. rw (lt-ltb 0 n h)) (λ h. let k = ne_eqb n d (λ q. omega arith) in rw (le-ltb 0 n h, k)) (lt_or_le 0 n)

-- the drawn coverage is none, a part or the whole where the exact one is
drawn_tells : (t : Touch) (m b : Frac) → Sound t.drawn t.exact t.off
    → margin_by t.drawn.num t.drawn.den m b ≡ cond (ltb 0 t.exact.num) (cond (covers t) (whole 0) (b ⊕ m)) b
unfolding covers
drawn_tells t m b s =
    none-part t.drawn.num t.drawn.den m b s.drawn_pos
    ∙ ap₂ (λ (k j : Bool). cond k (cond j (whole 0) (b ⊕ m)) b) (sym (same_test _ _ s.touched)) (sym (same_whole _ _ _ _ s.covers))

module _ (lights : List ℕ) (x y : ℕ) where
  -- one drawing, which touches the pixel or does not
  read_step : (d : Drawing) (b : Frac) → shape_refusal d.shape ≡ 0
      → margin_then lights x y b d ≡ cond (touched d.settings.clip d.shape x y) (keep_bound lights b (touch_of d x y)) b
  unfolding margin_then touched margin_of
  read_step d b lawful =
      ap (λ (r : Frac). cond (keeps d.settings.clip x y) r b) (drawn_tells t (margin_of lights t) b (sound d.shape (pos x) (pos y) lawful))
      ∙ go (keeps d.settings.clip x y)
    where
      t : Touch
      t = touch_of d x y

      go : (k : Bool) → cond k (cond (ltb 0 t.exact.num) (keep_bound lights b t) b) b ≡ cond (k && ltb 0 t.exact.num) (keep_bound lights b t) b
      go true = refl
      go false = refl

  read_kept : (v : ℕ) (ds : List Drawing) (b : Frac) → AllLawful v ds → margin_after lights x y b ds ≡ after (keep_bound lights) b (touches_at ds x y)
  unfolding margin_after touches_at after AllLawful
  read_kept v [] b a = refl
  read_kept v (d ∷ ds) b a =
      read_kept v ds (margin_then lights x y b d) a.3
      ∙ ap (λ (c : Frac). after (keep_bound lights) c (touches_at ds x y)) (read_step d b a.2)
      ∙ go (touched d.settings.clip d.shape x y)
    where
      go : (k : Bool) → after (keep_bound lights) (cond k (keep_bound lights b (touch_of d x y)) b) (touches_at ds x y)
          ≡ after (keep_bound lights) b (cond k (touch_of d x y ∷ touches_at ds x y) (touches_at ds x y))
      go true = refl
      go false = refl

-- of a pixel
pub margin_read_lem : (lights : List ℕ) (v : ℕ) (ds : List Drawing) (x y : ℕ) → AllLawful v ds → margin_read lights ds x y ≡ bound_of lights (touches_at ds x y)
margin_read_lem lights v ds x y a = read_kept lights x y v ds (whole 0) a ∙ sym (bound-kept lights (touches_at ds x y))

-- of a zone
zone_read_lem : (lights : List ℕ) (v : ℕ) (ds : List Drawing) (zone : Zone) → AllLawful v ds → zone_read lights ds zone ≡ zone_margin lights ds zone
unfolding zone_sum
zone_read_lem lights v ds [] a = refl
zone_read_lem lights v ds (p ∷ ps) a = ap₂ ◌⊕◌ (margin_read_lem lights v ds p.0 p.1 a) (zone_read_lem lights v ds ps a)

-- an accepted list of bytes leaves the light of any zone of its page within the margin that is read from it
pub zone_told : (lights s l : List ℕ) {m : List ℕ} {rs : List Record} {r : Outcome} → AllBytes s → page_records s (length l) lights ≡ accepted rs → Claim lights s l r m
    → (zone : Zone) → OnPage (header_at s).w (header_at s).h zone
    → let d = header_at s in
    let ds = drawings (basis_of d) rs in
    ZoneWithin lights d ds m zone (zone_read lights ds zone)
zone_told lights s l {m} {rs} {r} bytes e c zone on =
    let d = header_at s in
    let ds = drawings (basis_of d) rs in
    subst (λ (b : Frac). ZoneWithin lights d ds m zone b) (sym (zone_read_lem lights d.version ds zone (list_lawful lights s (length l) rs bytes e)))
    (zone_bounded (subst (λ (x : Records). ClaimBy lights d x l r m) e c) zone on)

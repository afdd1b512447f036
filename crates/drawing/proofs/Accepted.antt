-- What covers and margins come to for every accepted list of bytes: its drawings are lawful, its lights fit, and its page has room.
use mathlib.Core.List.{List, [], ◌∷◌, ◌++◌}
use mathlib.Core.Path.{◌≡◌, sym, ◌∙◌, ap, subst}
use Prim.Native.Nat.{ℕ, ◌+◌, ◌*◌, ◌≤◌, ◌<◌}
use lib.ListN.{length, get_or}
use Rattle.numbers.specs.Fraction.{Within}
use Rattle.limits.specs.Limits.{shape_refusal}
use Rattle.shapes.specs.declared.Record.{Record}
use Rattle.format.specs.Format.{header_at, basis_of}
use Rattle.format.specs.declared.Header.{Header}
use Rattle.settings.specs.Drawing.{Drawing, drawings}
use Rattle.lights.specs.Lights.{light_of}
use Rattle.lights.specs.inner.Fit.{Fit}
use Rattle.lists.specs.List.{Records, accepted, checked_as, AcceptedList}
use Rattle.lists.proofs.Walkable.{room, lit}
use Rattle.bound.specs.Exact.{whole, byte_after, exact_after, margins_of, bound_of}
use Rattle.drawing.specs.Touches.{touches_at}
use Rattle.drawing.specs.Claim.{page_by, Bounded, ClaimBy, Claim}
use Rattle.drawing.specs.Cover.{Covering}
use Rattle.drawing.specs.Zone.{Zone, OnPage, zone_margin, ZoneWithin}
use Rattle.drawing.specs.Margin.{margin_read, zone_read}
use Rattle.drawing.specs.inner.Walk.{AllLawful}
use Rattle.drawing.specs.Outcome.{Outcome}
use Rattle.drawing.proofs.Lawful.{list_lawful}
use Rattle.drawing.proofs.Covers.{bound_since, page_since, margins_bound}
use Rattle.drawing.proofs.Zone.{zone_bounded}
use Rattle.drawing.proofs.Margin.{margin_read_lem, zone_told}

-- one of some lawful drawings
lawful-at : (v : ℕ) (ds : List Drawing) (d : Drawing) (es : List Drawing) → AllLawful v (ds ++ d ∷ es) → (d.settings.level ≤ 255) × (shape_refusal d.shape ≡ 0)
unfolding AllLawful
lawful-at v [] d es a = (a.0, a.2)
lawful-at v (_ ∷ ds) d es a = lawful-at v ds d es a.3

module _ (lights s : List ℕ) (n : ℕ) (rs : List Record) (p : AcceptedList lights s n rs) where
  abbrev d : Header
  d = header_at s

  abbrev ds : List Drawing
  ds = drawings (basis_of d) rs

  lawful : AllLawful d.version ds
  lawful = list_lawful lights s n rs p.bytes p.is

  fits : d.w * d.h ≤ n
  fits = room s n lights d _ (sym (ap (checked_as d) p.is))

  fit : Fit lights
  fit = lit s n lights d _ (sym (ap (checked_as d) p.is))

  -- what is read from the list for a pixel is its bound
  pub accepted_margin : (x y : ℕ) → margin_read lights ds x y ≡ bound_of lights (touches_at ds x y)
  accepted_margin x y = margin_read_lem lights d.version ds x y lawful

  -- ---- a drawing c of the list that covers pixel (x, y) whole
  module _ (before : List Drawing) (c : Drawing) (behind : List Drawing) (e : ds ≡ before ++ c ∷ behind) (x y : ℕ) (cover : Covering c x y) where
    own : (c.settings.level ≤ 255) × (shape_refusal c.shape ≡ 0)
    own = lawful-at d.version before c behind (subst (AllLawful d.version) e lawful)

    pub accepted_bound_since : bound_of lights (touches_at ds x y) ≡ bound_of lights (touches_at behind x y)
    accepted_bound_since = ap (λ (qs : List Drawing). bound_of lights (touches_at qs x y)) e ∙ bound_since c x y own.1 cover lights before behind

-- ---- the page m that it leaves of the page l
module _ (lights s l : List ℕ) (rs : List Record) (p : AcceptedList lights s (length l) rs) (r : Outcome) (m : List ℕ) (done : Claim lights s l r m) where
  abbrev drawn : List Drawing
  drawn = drawings (basis_of (header_at s)) rs

  claimed : ClaimBy lights (header_at s) (accepted rs) l r m
  claimed = subst (λ (x : Records). ClaimBy lights (header_at s) x l r m) p.is done

  pub accepted_page_since : (before : List Drawing) (c : Drawing) (behind : List Drawing) → drawn ≡ before ++ c ∷ behind → (x y : ℕ) → Covering c x y
      → x < (header_at s).w → y < (header_at s).h → get_or m (y * (header_at s).w + x) 0 ≡ byte_after lights c.settings.level (touches_at behind x y)
  unfolding page_by
  accepted_page_since before c behind e x y cover i j =
      let h = header_at s in
      let k = own lights s (length l) rs p before c behind e x y cover in
      ap (λ (q : List ℕ). get_or q (y * h.w + x) 0) claimed.page
      ∙ rw e
      (page_since c x y k.1 cover lights (fit lights s (length l) rs p) k.0 h.w h.h h.background before behind l (fits lights s (length l) rs p) i j)

  pub accepted_margins_bound : (x y : ℕ) → x < (header_at s).w → y < (header_at s).h
      → (0 < (margins_of lights (touches_at drawn x y)).den)
      × Within (whole (light_of lights (get_or m (y * (header_at s).w + x) 0))) (exact_after lights (whole (light_of lights (header_at s).background)) (touches_at drawn x y))
      (margins_of lights (touches_at drawn x y))
  unfolding Bounded
  accepted_margins_bound x y i j =
      margins_bound lights _ (header_at s).background (header_at s).version drawn x y (lawful lights s (length l) rs p) (claimed.bound x y i j)

  pub accepted_zone_bounded : (zone : Zone) → OnPage (header_at s).w (header_at s).h zone → ZoneWithin lights (header_at s) drawn m zone (zone_margin lights drawn zone)
  accepted_zone_bounded = zone_bounded claimed

  pub accepted_zone_told : (zone : Zone) → OnPage (header_at s).w (header_at s).h zone → ZoneWithin lights (header_at s) drawn m zone (zone_read lights drawn zone)
  accepted_zone_told = zone_told lights s l p.bytes p.is done

-- The light of any zone of a page that a list leaves is within the margin of the zone.
use mathlib.Core.List.{List, [], ◌∷◌}
use mathlib.Core.Path.{refl}
use Prim.Native.Nat.{ℕ, ◌<◌}
use native.Mathlib.Nat.{mul-pos}
use native.Mathlib.Omega.{arith}
use Rattle.numbers.specs.Fraction.{Frac, Within}
use Rattle.numbers.proofs.Fraction.{within_same, within-sum}
use Rattle.bound.specs.Exact.{whole}
use Rattle.format.specs.Format.{basis_of}
use Rattle.lists.specs.List.{accepted}
use Rattle.settings.specs.Drawing.{drawings}
use Rattle.format.specs.declared.Header.{Header}
use Rattle.shapes.specs.declared.Record.{Record}
use Rattle.drawing.specs.Claim.{Bounded, ClaimBy}
use Rattle.drawing.specs.Zone.{Zone, zone_sum, OnPage, zone_margin, ZoneWithin}
use Rattle.drawing.specs.Outcome.{Outcome}

module _ (w h : ℕ) where
  -- what holds of each pixel of the page
  abbrev EachPixel : (ℕ → ℕ → Type 0) → Type 0
  EachPixel P = (x y : ℕ) → x < w → y < h → P x y

  sum_pos : (f : ℕ → ℕ → Frac) → EachPixel (λ x y. 0 < (f x y).den) → (zone : Zone) → OnPage w h zone → 0 < (zone_sum f zone).den
  unfolding zone_sum OnPage
  sum_pos f each [] on = omega arith
  sum_pos f each (p ∷ ps) on = mul-pos (each p.0 p.1 on.0 on.1) (sum_pos f each ps on.2)

  sum-within : (f e b : ℕ → ℕ → Frac) → EachPixel (λ x y. Within (f x y) (e x y) (b x y)) → (zone : Zone) → OnPage w h zone
      → Within (zone_sum f zone) (zone_sum e zone) (zone_sum b zone)
  unfolding zone_sum OnPage
  sum-within f e b each [] on = within_same (whole 0) (whole 0) (whole 0) refl
  sum-within f e b each (p ∷ ps) on = within-sum _ _ _ _ _ _ (each p.0 p.1 on.0 on.1) (sum-within f e b each ps on.2)

pub zone_bounded : {lights l m : List ℕ} {d : Header} {rs : List Record} {r : Outcome} → ClaimBy lights d (accepted rs) l r m
    → (zone : Zone) → OnPage d.w d.h zone → ZoneWithin lights d (drawings (basis_of d) rs) m zone (zone_margin lights (drawings (basis_of d) rs) zone)
unfolding Bounded
zone_bounded {d = d} c zone on =
    record {
      exact_pos = sum_pos d.w d.h _ (λ x y i j. (c.bound x y i j).exact_pos) zone on;
      margin_pos = sum_pos d.w d.h _ (λ x y i j. (c.bound x y i j).bound_pos) zone on;
      within = sum-within d.w d.h _ _ _ (λ x y i j. (c.bound x y i j).within) zone on;
    }

-- The margin of a zone (R10.5). The list s of bytes is accepted, with the records rs, for the page l in some lights; drawn on it, it leaves m.
use Rattle.std.specs.Prelude.{List, ◌≡◌, ℕ, length}
use Rattle.bound.specs.Exact.{bound_of}
use Rattle.shapes.specs.declared.Record.{Record}
use Rattle.format.specs.Format.{header_at, basis_of}
use Rattle.settings.specs.Drawing.{drawings}
use Rattle.lists.specs.List.{AcceptedList}
use Rattle.drawing.specs.Touches.{touches_at}
use Rattle.drawing.specs.Claim.{Claim}
use Rattle.drawing.specs.Zone.{Zone, OnPage, zone_margin, ZoneWithin}
use Rattle.drawing.specs.Margin.{margin_read, zone_read}
use Rattle.drawing.specs.Outcome.{Outcome}

pub record Zones : Type 0 where
  -- the light of a zone is no further from its exact blend than the sum of the bounds of its pixels (R10.5)
  pub zone_bounded : (lights s l : List ℕ) (rs : List Record) → AcceptedList lights s (length l) rs → (r : Outcome) (m : List ℕ) → Claim lights s l r m
      → (zone : Zone) → OnPage (header_at s).w (header_at s).h zone
      → let ds = drawings (basis_of (header_at s)) rs in
      ZoneWithin lights (header_at s) ds m zone (zone_margin lights ds zone)
  -- what is read from the list for a pixel, shape by shape, by the n and d that a query answers, is its bound (R10.5)
  pub margin_read_lem : (lights s : List ℕ) (n : ℕ) (rs : List Record) → AcceptedList lights s n rs → (x y : ℕ)
      → let ds = drawings (basis_of (header_at s)) rs in
      margin_read lights ds x y ≡ bound_of lights (touches_at ds x y)
  -- so the light of a zone is within the margin that is read from the list (R10.5)
  pub zone_told : (lights s l : List ℕ) (rs : List Record) → AcceptedList lights s (length l) rs → (r : Outcome) (m : List ℕ) → Claim lights s l r m
      → (zone : Zone) → OnPage (header_at s).w (header_at s).h zone
      → let ds = drawings (basis_of (header_at s)) rs in
      ZoneWithin lights (header_at s) ds m zone (zone_read lights ds zone)

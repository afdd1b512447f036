-- The page of a list, beside what is claimed of every list: which touches of a pixel count, and lights equal to codes (R10.3, R10.4).
-- The list s of bytes is accepted, with the records rs, for the page l in some lights; drawn on it, it leaves m.
use Rattle.std.specs.Prelude.{List, ◌∷◌, ◌++◌, ◌≡◌, ℕ, ◌+◌, ◌*◌, ◌<◌, length, get_or}
use Rattle.numbers.specs.Fraction.{Within}
use Rattle.lights.specs.Lights.{light_of}
use Rattle.lights.specs.Codes.{codes}
use Rattle.bound.specs.Exact.{whole, byte_after, exact_after, margins_of, bound_of}
use Rattle.shapes.specs.declared.Record.{Record}
use Rattle.format.specs.Format.{header_at, basis_of}
use Rattle.settings.specs.Drawing.{Drawing, drawings}
use Rattle.lists.specs.List.{AllBytes, AcceptedList}
use Rattle.drawing.specs.Touches.{touches_at}
use Rattle.drawing.specs.Claim.{Claim}
use Rattle.drawing.specs.Codes.{CodesClaim}
use Rattle.drawing.specs.Cover.{Covering, Uncovered}
use Rattle.drawing.specs.Outcome.{Outcome}

pub record Pages : Type 0 where
  -- where a drawing c covers a pixel whole, inside its clip, the bound of the pixel is that of the drawings behind c alone (R10.4)
  pub bound_since : (lights s : List ℕ) (n : ℕ) (rs : List Record) → AcceptedList lights s n rs
      → (before : List Drawing) (c : Drawing) (behind : List Drawing) → drawings (basis_of (header_at s)) rs ≡ before ++ c ∷ behind
      → (x y : ℕ) → Covering c x y
      → bound_of lights (touches_at (drawings (basis_of (header_at s)) rs) x y) ≡ bound_of lights (touches_at behind x y)
  -- and the byte is what these leave of the level of c, whatever was there before (R10.4)
  pub page_since : (lights s l : List ℕ) (rs : List Record) → AcceptedList lights s (length l) rs → (r : Outcome) (m : List ℕ) → Claim lights s l r m
      → (before : List Drawing) (c : Drawing) (behind : List Drawing) → drawings (basis_of (header_at s)) rs ≡ before ++ c ∷ behind
      → (x y : ℕ) → Covering c x y → x < (header_at s).w → y < (header_at s).h
      → get_or m (y * (header_at s).w + x) 0 ≡ byte_after lights c.settings.level (touches_at behind x y)
  -- the bound of a pixel that was never covered whole is the sum of the margins of all its touches (R10.4)
  pub bound_all : (lights : List ℕ) (ds : List Drawing) (x y : ℕ) → Uncovered ds x y → bound_of lights (touches_at ds x y) ≡ margins_of lights (touches_at ds x y)
  -- within these is every byte of the page, covered or not (R10.3)
  pub margins_bound : (lights s l : List ℕ) (rs : List Record) → AcceptedList lights s (length l) rs → (r : Outcome) (m : List ℕ) → Claim lights s l r m
      → (x y : ℕ) → x < (header_at s).w → y < (header_at s).h
      → let ts = touches_at (drawings (basis_of (header_at s)) rs) x y in
      (0 < (margins_of lights ts).den)
      × Within (whole (light_of lights (get_or m (y * (header_at s).w + x) 0))) (exact_after lights (whole (light_of lights (header_at s).background)) ts) (margins_of lights ts)
  -- with lights equal to codes the claim is one in codes: their blends, half a level a touch, 255·s/(4·l) for an approximate line (R10.4)
  pub codes-claim : (s l : List ℕ) (r : Outcome) (m : List ℕ) → AllBytes s → Claim codes s l r m → CodesClaim s l r m

-- What a squeezed list keeps (R10.7).
use Rattle.std.specs.Prelude.{Bool, ◌≡◌, List, [], ◌∷◌, ℕ, ◌≤◌, length, take, Result, Ok, Err}
use Rattle.shapes.specs.declared.Record.TheVariants.{Shape as shape}
use Rattle.format.specs.Format.{header_at, record_bytes}
use Rattle.settings.specs.Drawing.{Drawing}
use Rattle.lists.specs.List.{records_of, checked_as, pageless_records}
use Rattle.settings.specs.declared.Settings.{Settings}
use Rattle.drawing.specs.Claim.{drawings_by, Claim, list_outcome, list_page}
use Rattle.drawing.specs.Outcome.{Outcome}
use Rattle.squeezed.specs.Squeeze.{squeezed}

-- the bytes that a list s is squeezed to
abbrev pub squeezed_of : List ℕ → List ℕ
squeezed_of s = squeezed (header_at s) (drawings_by (header_at s) (pageless_records s))

-- the list t keeps what s says
pub record Keeps (s t : List ℕ) : Type 0 where
  -- it has the same header and, whatever the two are tried for, the same shapes under the same settings
  pub header : header_at t ≡ header_at s
  pub drawings : (tests : List (Bool × ℕ)) → drawings_by (header_at t) (records_of tests t) ≡ drawings_by (header_at s) (records_of tests s)
  -- so they are accepted with one header and one ceiling, or have one refusal
  pub checked : (tests : List (Bool × ℕ)) → checked_as (header_at t) (records_of tests t) ≡ checked_as (header_at s) (records_of tests s)
  -- drawn on any page in any lights they come to the same answer, counts and bytes, and each byte has the same bound
  pub outcome : (lights l : List ℕ) → list_outcome lights t l ≡ list_outcome lights s l
  pub page : (lights l : List ℕ) → list_page lights t l ≡ list_page lights s l
  pub claim : (lights l : List ℕ) (r : Outcome) (m : List ℕ) → Claim lights s l r m → Claim lights t l r m
  -- t is no longer, and squeezed again it is the same bytes
  pub no_longer : length t ≤ length s
  pub again : squeezed_of t ≡ t

-- the settings of each drawing and the bytes of its shape record: lists with equal headers that have these alike are squeezed to identical bytes
unfoldable pub stored : List Drawing → List (Settings × List ℕ)
stored [] = []
stored (d ∷ ds) = (d.settings, record_bytes (shape d.shape)) ∷ stored ds

-- by the answer to squeezing s into an output, which is then m: the bytes of the length that is told keep what s says
unfoldable pub KeepsBy : List ℕ → Result ℕ (ℕ × ℕ) → List ℕ → Type 0
KeepsBy s (Ok n) m = Keeps s (take n m)
KeepsBy s (Err e) m = Unit {0}

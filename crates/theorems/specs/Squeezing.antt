-- Squeezed lists, beside what each squeezed list keeps (R10.7).
use Rattle.std.specs.Prelude.{Ok, List, ◌≡◌, ℕ, ◌≤◌, length}
use Rattle.shapes.specs.declared.Record.{Record}
use Rattle.format.specs.Format.{header_at}
use Rattle.lists.specs.List.{accepted, pageless_records}
use Rattle.drawing.specs.Claim.{drawings_by}
use Rattle.squeezed.specs.Squeeze.{squeeze_answer}
use Rattle.squeezed.specs.Claim.{squeezed_of, stored}

pub record Squeezing : Type 0 where
  -- lists with equal headers and the same shape records, byte for byte, each under the same settings, are squeezed to identical bytes (R10.7)
  pub alike-bytes : (s t : List ℕ) → header_at s ≡ header_at t
      → stored (drawings_by (header_at s) (pageless_records s)) ≡ stored (drawings_by (header_at t) (pageless_records t)) → squeezed_of s ≡ squeezed_of t
  -- an output of as many bytes as an accepted list has is never too short (R7.8, R10.7)
  pub room_enough : (s : List ℕ) (rs : List Record) → pageless_records s ≡ accepted rs → (n : ℕ) → length s ≤ n
      → squeeze_answer n (header_at s) (pageless_records s) ≡ Ok (length (squeezed_of s))

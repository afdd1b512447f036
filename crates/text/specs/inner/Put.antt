-- A text that grows in a buffer.
use Rattle.std.specs.Prelude.{◌≡◌, List, ◌++◌, ℕ, ◌+◌, ◌≤◌, length, take}
use Rattle.text.specs.declared.Text.{Text}

abbrev pub written : Text → List ℕ
written t = take t.at t.out.now

-- t' is t with so much more text behind it, at most so many bytes, in the same buffer
pub record Put (t t' : Text) (more : List ℕ) (size : ℕ) : Type 0 where
  pub text : written t' ≡ written t ++ more
  pub least : t.at ≤ t'.at
  pub most : t'.at ≤ t.at + size
  pub room : length t'.out.now ≡ length t.out.now
  pub same : t'.out.ghost_name ≡ t.out.ghost_name

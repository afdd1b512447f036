-- What a target has after some bytes.
use Rattle.std.specs.Prelude.{◌≡◌, List, ◌++◌, ℕ, ◌+◌, ◌≤◌, length}

-- s took the bytes bs and is then t: the place behind them, how many bytes there can be, and what became of it besides
pub record Took {S : Type 0} (end_of most_of : S → ℕ) (Wrote : S → List ℕ → S → Type 0) (s : S) (bs : List ℕ) (t : S) : Type 0 where
  pub end : end_of t ≡ end_of s + length bs
  pub most : most_of t ≡ most_of s
  pub wrote : Wrote s bs t

-- one run of bytes, then another behind it, where there is room for both
abbrev pub Joins : {S : Type 0} → (S → ℕ) → (S → ℕ) → (S → List ℕ → S → Type 0) → Type 0
Joins {S} end_of most_of Wrote =
    (s t u : S) (bs cs : List ℕ) → end_of s + length (bs ++ cs) ≤ most_of s → Took end_of most_of Wrote s bs t
    → Took end_of most_of Wrote t cs u → Wrote s (bs ++ cs) u

-- What one spot does to a page.
use mathlib.Core.Bool.{true}
use mathlib.Core.Path.{◌≡◌, sym, ap, ◌∙◌}
use mathlib.Core.List.{List}
use Prim.Native.Nat.{ℕ}
use lib.ListN.{get_or, set}
use lib.Seq.{set-get_or}
use Rattle.page.specs.inner.Paint.{dot}
use Rattle.page.proofs.Paint.{dot-none}
use Rattle.columns.specs.inner.Layout.{spotted}

-- coverage 0 leaves it as it was
pub spotted-none : (ink : ℕ → ℕ → ℕ) (n k : ℕ) (l : List ℕ) → n ≡ 0 → l ≡ spotted true ink n k l
spotted-none ink n k l e = sym (ap (set l k) (ap (λ (m : ℕ). dot ink m (get_or l k 0)) e ∙ dot-none ink (get_or l k 0)) ∙ set-get_or l k 0)

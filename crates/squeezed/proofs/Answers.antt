-- What squeezing a list answers, and what it leaves in the output, by the check of the list.
use mathlib.Core.Path.{◌≡◌, refl, sym, ◌∙◌, ap, ap₂}
use mathlib.Core.List.{List, []}
use Prim.Native.Nat.{ℕ}
use native.Mathlib.Omega.{arith}
use lib.ListN.{length}
use Rattle.format.specs.Format.{header_at, basis_of}
use Rattle.settings.specs.Drawing.{Drawing, drawings}
use Rattle.lists.specs.List.{Records, accepted, refused, checked_as, pageless_records, checked_without_page}
use Rattle.lists.specs.inner.Walk.{list_drawings}
use Rattle.format.specs.declared.Header.{Header}
use Rattle.std.proofs.Common.{Result, Err}
use Rattle.lists.proofs.Accepted.{AcceptedAs}
use Rattle.lists.proofs.Walkable.{drawings_are}
use Rattle.squeezed.specs.Squeeze.{squeezed, fitted, filled, squeeze_answer, squeeze_output}

pub refused-claim : (s l : List ℕ) (e : ℕ × ℕ) → Err e ≡ checked_without_page s
    → (Err e ≡ squeeze_answer (length l) (header_at s) (pageless_records s)) × (l ≡ squeeze_output l (header_at s) (pageless_records s))
unfolding squeeze_answer squeeze_output
refused-claim s l e k = go (pageless_records s) k
  where
    go : (x : Records) → Err e ≡ checked_as (header_at s) x → (Err e ≡ squeeze_answer (length l) (header_at s) x) × (l ≡ squeeze_output l (header_at s) x)
    go (accepted rs) j = absurd (let z : ◌≡◌ {A = ℕ} 0 1 = cc in omega arith)
    go (refused g q) j = let same : e ≡ (g, q) = cc in (ap Err same, refl)

pub accepted-claim : (s : List ℕ) (d : Header) (p : AcceptedAs [] s d) (l : List ℕ) {r : Result ℕ (ℕ × ℕ)} {m : List ℕ}
    → r ≡ fitted (length l) (squeezed d (list_drawings (basis_of d) s)) → m ≡ filled l (squeezed d (list_drawings (basis_of d) s))
    → (r ≡ squeeze_answer (length l) (header_at s) (pageless_records s)) × (m ≡ squeeze_output l (header_at s) (pageless_records s))
unfolding squeeze_answer squeeze_output
accepted-claim s d p l a b =
    let same : list_drawings (basis_of d) s ≡ drawings (basis_of d) p.records = drawings_are p in (
      a ∙ ap (λ (ds : List Drawing). fitted (length l) (squeezed d ds)) same ∙ ap₂ (squeeze_answer (length l)) p.header (sym p.is),
      b ∙ ap (λ (ds : List Drawing). filled l (squeezed d ds)) same ∙ ap₂ (squeeze_output l) p.header (sym p.is),
    )

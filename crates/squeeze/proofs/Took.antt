-- Bytes that a target took, one run behind the other.
use Rattle.std.proofs.Common.{◌≡◌, refl, sym, ◌∙◌, subst, Bool, true, false, List, [], ◌++◌, ℕ, ◌+◌, ◌≤◌, length, take, arith, length-append}
use Rattle.std.proofs.Math.Seq.{take-append_seam}
use Rattle.shapes.specs.declared.Setting.{Setting}
use Rattle.shapes.specs.declared.Record.TheVariants.{Setting as setting}
use Rattle.format.specs.Format.{record_bytes}
use Rattle.format.specs.inner.Record.{padded}
use Rattle.squeezed.specs.Squeeze.{change, all_bytes}
use Rattle.squeezed.proofs.Sizes.{change-none, change-some}
use Rattle.squeeze.specs.inner.Target.{Took, Joins}

-- bytes at the front of an array that has zeros behind them
pub take_padded : (bs : List ℕ) → take (length bs) (padded bs) ≡ bs
take_padded bs = take-append_seam bs _

module _ {S : Type 0} {end_of most_of : S → ℕ} {Wrote : S → List ℕ → S → Type 0} where
  pub took_none : (s : S) → Wrote s [] s → Took end_of most_of Wrote s [] s
  took_none s none = record { end = omega arith; most = refl; wrote = none }

  -- the same bytes, told otherwise
  pub took_is : {s t : S} {bs cs : List ℕ} → bs ≡ cs → Took end_of most_of Wrote s bs t → Took end_of most_of Wrote s cs t
  took_is {s} {t} e p = subst (λ (xs : List ℕ). Took end_of most_of Wrote s xs t) e p

  pub took_then : {s t u : S} {bs cs : List ℕ} → Joins end_of most_of Wrote → end_of s + length (bs ++ cs) ≤ most_of s
      → Took end_of most_of Wrote s bs t → Took end_of most_of Wrote t cs u → Took end_of most_of Wrote s (bs ++ cs) u
  took_then {s} {t} {u} {bs} {cs} joins room p q =
      record {
        end = omega (arith, p.end, q.end, length-append bs cs);
        most = q.most ∙ p.most;
        wrote = joins s t u bs cs room p q;
      }

  -- a setting that differs, and one that does not
  pub took_changed : {s t : S} {same : Bool} (g : Setting) → same ≡ false → Took end_of most_of Wrote s (record_bytes (setting g)) t
      → Took end_of most_of Wrote s (all_bytes (change same g)) t
  took_changed g e p = took_is (sym (change-some g e)) p

  pub took_same : {s t : S} {same : Bool} (g : Setting) → same ≡ true → Wrote s [] s → t ≡ s → Took end_of most_of Wrote s (all_bytes (change same g)) t
  took_same {s} g e none k = took_is (sym (change-none g e)) (rw k (took_none s none))

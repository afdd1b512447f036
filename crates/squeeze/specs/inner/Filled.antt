-- An output that took some bytes.
use Rattle.std.specs.Prelude.{◌≡◌, List, [], ℕ, length}
use Rattle.std.proofs.Common.{refl, ◌∙◌, ap₂, arith, length-append}
use Rattle.std.proofs.Math.Seq.{paste-zero}
use Rattle.records.specs.Write.{put_at}
use Rattle.lists.proofs.WriteBack.{put_put}
use Rattle.squeeze.specs.inner.Target.{Joins}
use Rattle.squeeze.specs.declared.target.Output.{Output}

abbrev pub end_of : Output → ℕ
end_of s = s.end

abbrev pub most_of : Output → ℕ
most_of s = length s.out.now

-- the bytes stand at the place where the output was, and it is the same output
pub record Filled (s : Output) (bs : List ℕ) (t : Output) : Type 0 where
  pub list : t.out.now ≡ put_at s.end bs s.out.now
  pub same : t.out.ghost_name ≡ s.out.ghost_name

pub filled_none : (s : Output) → Filled s [] s
filled_none s = record { list = paste-zero s.out.now s.end []; same = refl }

pub filled_then : Joins end_of most_of Filled
filled_then s t u bs cs h p q =
    let n = length-append bs cs in
    record {
      list =
          q.wrote.list
          ∙ ap₂ (λ (i : ℕ) (x : List ℕ). put_at i cs x) p.end p.wrote.list
          ∙ put_put s.out.now s.end bs cs (omega arith);
      same = q.wrote.same ∙ p.wrote.same;
    }

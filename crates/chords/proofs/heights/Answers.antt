-- The heights before k are held, the rest are 0, and y is not below the next one.
use mathlib.Core.Path.{◌≡◌, sym, ◌∙◌}
use mathlib.Core.Logic.{⊎_elim}
use Prim.Native.Nat.{ℕ, ◌+◌, ◌-◌, ◌*◌, ◌≤◌, ◌<◌}
use native.Mathlib.Omega.{arith}
use lib.ListN.{get_or, set, length-set}
use lib.Seq.{get_or-set_same, get_or-set_other}
use borrow.Author.Count.{below_more}
use Rattle.numbers.proofs.Order.{lt_or_le}
use Rattle.chords.specs.Circle.{half_root, height_of}
use Rattle.chords.proofs.Height.{half_root_le, half_root_from, half_root_high, height_beyond}
use Rattle.chords.proofs.heights.Goals as goal

-- next is the height at k: not above y, and not below the height at k + 1
record Found (R k y next : ℕ) : Type 0 where
  is : next ≡ height_of R k
  most : next ≤ y
  above : 262144 * (R * R - (k + 1) * (k + 1)) < (2 * next + 1) * (2 * next + 1)

found : (R k y : ℕ) {next : ℕ} → y ≤ 256 * R → 262144 * (R * R - k * k) < (2 * y + 1) * (2 * y + 1) → next ≡ half_root y (262144 * (R * R - k * k)) → Found R k y next
unfolding height_of
found R k y h₁ h₂ e =
    let m = 262144 * (R * R - k * k) in
    rw e
    (record {
      is = sym (half_root_from (256 * R) m y h₁ h₂);
      most = half_root_le y m;
      above = omega (arith, half_root_high y m h₂);
    })

pub overflow_cast-hs : goal.overflow_cast-hs
overflow_cast-hs c =
    let l = c.loop-k in
    omega (arith, (found c.args.radius l.k l.y l.invariant.0 l.invariant.1 c.next_height-next.ensures).most)

pub overflow_sub-step : goal.overflow_sub-step
overflow_sub-step c = let l = c.loop-k in (found c.args.radius l.k l.y l.invariant.0 l.invariant.1 c.next_height-next.ensures).most

pub loop-k-preserved : goal.loop-k-preserved
loop-k-preserved c =
    let R : ℕ = c.args.radius in
    let l = c.loop-k in
    let k : ℕ = l.k in
    let y = c.next_height-next.result in
    let here = found R k l.y l.invariant.0 l.invariant.1 c.next_height-next.ensures in (
      omega (arith, here.most),
      here.above,
      length-set l.hs k y ∙ l.invariant.2,
      below_more (λ (j : ℕ). get_or (set l.hs k y) j 0 ≡ height_of R j) k
          (λ j h. get_or-set_other l.hs k j y 0 (λ q. omega arith) ∙ l.invariant.3 j h)
          (get_or-set_same l.hs k y 0 (omega arith) ∙ here.is),
      λ j h. get_or-set_other l.hs k j y 0 (λ q. omega arith) ∙ l.invariant.4 j (omega arith),
    )

pub returns : goal.returns
returns c =
    let R : ℕ = c.args.radius in
    let l = c.loop-k in
    record {
      each = λ j.
          ⊎_elim (λ h. l.invariant.3 j (omega arith)) (λ h. l.invariant.4 j (omega arith) ∙ sym (height_beyond R j h)) (lt_or_le j R);
      size = l.invariant.2;
    }

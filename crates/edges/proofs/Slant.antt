-- The slant of an edge by differences of naturals: four squares, or two strips.
use mathlib.Core.Path.{◌≡◌, subst, ap}
use Prim.Native.Nat.{ℕ, ◌+◌, ◌*◌, ◌-◌}
use native.Mathlib.Omega.{arith}
use lib.IntN.{ℤ, pos, negsuc, ◌-ℤ◌}
use Rattle.numbers.proofs.Integer.{Diff, plus, diff_pos, diff_add, diff_minus, diff_shift, plus_diff}
use Rattle.edges.specs.Edge.{P, slant}
use Rattle.edges.specs.inner.Strip.{strip}
use Rattle.edges.proofs.Strip.{strip_square}

abbrev pub sq : ℕ → ℕ
sq n = n * n

square : (z : ℤ) → Diff (P z) (sq (plus z)) 0
unfolding P
square (pos h) = diff_pos (h * h)
square (negsuc h) = diff_pos 0

P-diff : {z : ℤ} {x y : ℕ} → Diff z x y → Diff (P z) (sq (x - y)) 0
P-diff {z} d = subst (λ (n : ℕ). Diff (P z) (sq n) 0) (plus_diff d) (square z)

-- an edge from height x − y to height x' − y'
pub slant_diff : (H : ℕ) {a b : ℤ} {x y x' y' : ℕ} → Diff a x y → Diff b x' y'
    → Diff (slant H a b) (sq (x' - y') + sq (x - (y + H))) (sq (x - y) + sq (x' - (y' + H)))
unfolding slant
slant_diff H {x = x} {y = y} {x' = x'} {y' = y'} d d' =
    diff_shift (sq (x' - y') + sq (x - (y + H))) (sq (x - y) + sq (x' - (y' + H)))
    (diff_add (diff_minus (diff_minus (P-diff d') (P-diff d)) (P-diff (less d'))) (P-diff (less d)))
    (omega arith)
  where
    less : {z : ℤ} {u v : ℕ} → Diff z u v → Diff (z -ℤ pos H) u (v + H)
    less {u = u} {v = v} e = diff_shift u (v + H) (diff_minus e (diff_pos H)) (omega arith)

pub slant_strips : (H : ℕ) {a b : ℤ} {x y x' y' : ℕ} → Diff a x y → Diff b x' y' → Diff (slant H a b) (strip H (x' - y')) (strip H (x - y))
slant_strips H {x = x} {y} {x'} {y'} d d' =
    let e : x - (y + H) ≡ x - y - H = omega arith in
    let f : x' - (y' + H) ≡ x' - y' - H = omega arith in
    diff_shift (strip H (x' - y')) (strip H (x - y)) (slant_diff H d d')
    (omega (arith, strip_square H (x - y), strip_square H (x' - y'), ap sq e, ap sq f))

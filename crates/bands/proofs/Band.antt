-- A line's exact coverage is the area under the edge half a row above the segment less that under the edge half a row below.
use mathlib.Core.Path.{◌≡◌, refl, sym, ◌∙◌, ap, ap₂}
use Prim.Native.Nat.{ℕ, zero, suc, ◌+◌, ◌*◌, ◌-◌, ◌<◌, min}
use native.Mathlib.Omega.{arith}
use lib.IntN.{ℤ, pos, negsuc, ◌+ℤ◌, ◌-ℤ◌, ◌*ℤ◌}
use Rattle.numbers.proofs.Integer.{Diff, diff_of, diff_pos, diff_add, diff_minus, diff_mul, diff_shift, diff_unique, diff_abs}
use Rattle.edges.specs.Edge.{under_d, height_at, edge_n, edge_d}
use Rattle.edges.proofs.Under.{under_level, whole-level, whole_slanted}
use Rattle.edges.proofs.Slant.{slant_strips}
use Rattle.edges.proofs.Edge.{height_diff, under_rises}
use Rattle.bands.specs.Line.{left_height, right_height, F, level_row, exact_row, exact_whole}
use Rattle.bands.specs.Band.{along_n, along_d, over_n, below_n}

-- over the same for both edges
pub whole_is : (h : ℤ) (l s : ℕ) → along_d h l s ≡ under_d (2 * l) (2 * s)
unfolding along_d edge_d
whole_is h l s = ap (under_d (2 * l)) (diff_abs (diff_minus (diff_add (diff_of h) (diff_pos (2 * s))) (diff_of h)) ∙ omega arith)

module _ (i m s : ℕ) {h j : ℤ} {h₁ h₂ u w : ℕ} (dh : Diff h h₁ h₂) (dj : Diff j u w) where
  -- the ends of the edge, over the floor of row j
  start : Diff (h -ℤ pos 2 *ℤ j) (h₁ + 2 * w) (h₂ + 2 * u)
  start = diff_shift (h₁ + 2 * w) (h₂ + 2 * u) (diff_minus dh (diff_mul (diff_pos 2) dj)) (omega arith)

  stop : Diff (h +ℤ pos (2 * s) -ℤ pos 2 *ℤ j) (h₁ + 2 * s + 2 * w) (h₂ + 2 * u)
  stop = diff_shift (h₁ + 2 * s + 2 * w) (h₂ + 2 * u) (diff_minus (diff_add dh (diff_pos (2 * s))) (diff_mul (diff_pos 2) dj)) (omega arith)

  -- its heights at the sides of the pixel
  left : Diff (height_at i (m + 1) (h -ℤ pos 2 *ℤ j) (h +ℤ pos (2 * s) -ℤ pos 2 *ℤ j)) ((i + 1 + m) * (h₁ + 2 * w) + 2 * s * i) ((i + 1 + m) * (h₂ + 2 * u))
  left = diff_shift ((i + 1 + m) * (h₁ + 2 * w) + 2 * s * i) ((i + 1 + m) * (h₂ + 2 * u)) (height_diff i (m + 1) start stop) (omega arith)

  right : Diff (height_at (i + 1) m (h -ℤ pos 2 *ℤ j) (h +ℤ pos (2 * s) -ℤ pos 2 *ℤ j)) ((i + 1 + m) * (h₁ + 2 * w) + 2 * s * i + 2 * s) ((i + 1 + m) * (h₂ + 2 * u))
  right =
      diff_shift ((i + 1 + m) * (h₁ + 2 * w) + 2 * s * i + 2 * s) ((i + 1 + m) * (h₂ + 2 * u)) (height_diff (i + 1) m start stop) (omega arith)

  -- F of the row in which the edge stands half a row above the first end, h − 2·j = 1 − 2·k
  along-F : {k : ℤ} {u' w' : ℕ} → Diff k u' w' → 0 < s → h₁ + 2 * w + 2 * u' ≡ 1 + 2 * w' + h₂ + 2 * u → F (i + 1 + m) s i k ≡ pos (along_n h s i m j)
  unfolding F left_height right_height along_n edge_n
  along-F {k} {u'} {w'} dk p e =
      let l : ℕ = i + 1 + m in
      let x : ℕ = l * (h₁ + 2 * w) + 2 * s * i in
      let y : ℕ = l * (h₂ + 2 * u) in
      let a = diff_shift x y (diff_minus (diff_pos (l + 2 * s * i)) (diff_mul (diff_pos (2 * l)) dk)) (omega (arith, ap (λ (v : ℕ). l * v) e)) in
      let b = diff_shift (x + 2 * s) y (diff_add a (diff_pos (2 * s))) (omega arith) in
      diff_unique (slant_strips (2 * l) a b) (diff_pos _) (omega (arith, under_rises (2 * l) left right {k = 2 * s} (omega arith) (omega arith)))

  -- of a level edge
  along-level : s ≡ 0 → along_n h s i m j ≡ min ((i + 1 + m) * (h₁ + 2 * w) + 2 * s * i - (i + 1 + m) * (h₂ + 2 * u)) (2 * (i + 1 + m))
  unfolding along_n edge_n
  along-level e = under_level (2 * (i + 1 + m)) left right (omega arith)

-- ---- a line that is not level: the same n and d
pub band_slanted : (s i m : ℕ) (j : ℤ)
    → (exact_row (i + 1 + m) (suc s) i j ≡ pos (over_n (suc s) i m j) -ℤ pos (below_n (suc s) i m j)) × (exact_whole (i + 1 + m) (suc s) ≡ along_d (pos 1) (i + 1 + m) (suc s))
unfolding exact_row exact_whole
band_slanted s i m j =
    let up = along-F i m (suc s) (diff_pos 1) (diff_of j) (diff_of j) (omega arith) (omega arith) in
    let down = along-F i m (suc s) (diff_of (negsuc 0)) (diff_of j) (diff_add (diff_of j) (diff_pos 1)) (omega arith) (omega arith) in
    (ap₂ (λ (a b : ℤ). a -ℤ b) up down, sym (whole_is (pos 1) (i + 1 + m) (suc s) ∙ whole_slanted (2 * (i + 1 + m)) (2 * suc s) (omega arith) ∙ omega arith))

-- ---- a level line: half a pixel in the rows above and below it
level-is : (r u w l : ℕ) → r * (2 * l) + w * 2 ≡ u * 2 → pos r *ℤ pos (2 * l) ≡ (pos u -ℤ pos w) *ℤ pos 2
level-is r u w l e = diff_unique (diff_mul (diff_pos r) (diff_pos (2 * l))) (diff_mul (diff_minus (diff_pos u) (diff_pos w)) (diff_pos 2)) (omega arith)

band-level : (i m : ℕ) (j : ℤ) → level_row j *ℤ pos (2 * (i + 1 + m)) ≡ (pos (over_n 0 i m j) -ℤ pos (below_n 0 i m j)) *ℤ pos 2
unfolding level_row
band-level i m (pos zero) =
    level-is 1 (over_n 0 i m (pos 0)) (below_n 0 i m (pos 0)) (i + 1 + m)
    (omega (arith, along-level i m 0 (diff_pos 1) (diff_pos 0) refl, along-level i m 0 (diff_of (negsuc 0)) (diff_pos 0) refl))
band-level i m (pos (suc n)) =
    level-is 0 (over_n 0 i m (pos (suc n))) (below_n 0 i m (pos (suc n))) (i + 1 + m)
    (omega (arith, along-level i m 0 (diff_pos 1) (diff_pos (suc n)) refl, along-level i m 0 (diff_of (negsuc 0)) (diff_pos (suc n)) refl))
band-level i m (negsuc zero) =
    level-is 1 (over_n 0 i m (negsuc 0)) (below_n 0 i m (negsuc 0)) (i + 1 + m)
    (omega (arith, along-level i m 0 (diff_pos 1) (diff_of (negsuc 0)) refl, along-level i m 0 (diff_of (negsuc 0)) (diff_of (negsuc 0)) refl))
band-level i m (negsuc (suc n)) =
    level-is 0 (over_n 0 i m (negsuc (suc n))) (below_n 0 i m (negsuc (suc n))) (i + 1 + m)
    (omega (arith, along-level i m 0 (diff_pos 1) (diff_of (negsuc (suc n))) refl, along-level i m 0 (diff_of (negsuc 0)) (diff_of (negsuc (suc n))) refl))

-- ---- any line, as fractions
pub band : (s i m : ℕ) (j : ℤ)
    → exact_row (i + 1 + m) s i j *ℤ pos (along_d (pos 1) (i + 1 + m) s) ≡ (pos (over_n s i m j) -ℤ pos (below_n s i m j)) *ℤ pos (exact_whole (i + 1 + m) s)
unfolding exact_row exact_whole
band zero i m j = rw (whole_is (pos 1) (i + 1 + m) 0, whole-level (2 * (i + 1 + m))) (band-level i m j)
band (suc s) i m j = let b = band_slanted s i m j in ap₂ (λ (z : ℤ) (d : ℕ). z *ℤ pos d) b.0 (sym b.1)

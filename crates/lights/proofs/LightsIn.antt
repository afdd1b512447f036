-- The lights of a palette.
use Rattle.std.proofs.Common.{◌≡◌, ℕ, suc, ◌≤◌, List, arith, length-take, get_or-take}
use Rattle.lights.specs.Lights.{light_of}
use Rattle.lights.specs.inner.Fit.{Fit}
use Rattle.lights.specs.inner.Palette.{lights_in, Palette}

-- those of the codes are the palette's first numbers
pub light_in : (p : List ℕ) (k : ℕ) → k ≤ 255 → light_of (lights_in p) k ≡ light_of p k
light_in p k h = get_or-take 256 p k 0 (omega arith)

pub lights-fit : (p : List ℕ) → Palette p → Fit (lights_in p)
lights-fit p q =
    record {
      count = simp length-take (omega (arith, q.guesses.size));
      rising = λ k h. rw (light_in p k (omega arith), light_in p (suc k) h) (q.rising k h);
    }

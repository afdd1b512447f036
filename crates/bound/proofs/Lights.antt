-- Blending in light is a scale on which a byte has its light for a place, so that the light is within the bound of the exact blend.
use mathlib.Core.Bool.{Bool, true, false, cond}
use mathlib.Core.List.{List}
use mathlib.Core.Path.{◌≡◌}
use Prim.Native.Nat.{ℕ, ◌+◌, ◌≤◌, ◌<◌}
use native.Mathlib.Nat.{mul-pos}
use native.Mathlib.Omega.{arith}
use Rattle.numbers.specs.Fraction.{Frac, ◌over◌, ◌≼◌, Within}
use Rattle.numbers.proofs.Fraction.{within_wider}
use Rattle.lights.specs.Lights.{light_of, widest_gap, light_span}
use Rattle.blending.specs.Blend.{blend}
use Rattle.lights.specs.inner.Fit.{Fit}
use Rattle.lights.proofs.Neighbours.{light_mono}
use Rattle.blending.proofs.Blend.{blend-byte, blend-whole, blend-within}
use Rattle.bound.specs.Exact.{Touch, mix, whole, byte_after, exact_after, half_gap, margin_of, margins_of, covers, bound_of}
use Rattle.bound.specs.Sound.{SoundTouch, AllSound}
use Rattle.bound.proofs.Fractions.{mix-den, mix-whole}
use Rattle.bound.proofs.Bound.{Scale, close, exact_step, after_den}
use Rattle.bound.proofs.Covers.{add_margin, keep_bound, bound-kept, bound_le}

abbrev blend_by : List ℕ → ℕ → ℕ → Frac → ℕ
blend_by lights u v c = blend lights u v c.num c.den

-- picking the nearest code costs half the widest gap at most
half_enough : (lights : List ℕ) → widest_gap lights over 2 ≼ half_gap lights
unfolding half_gap
half_enough lights = omega arith

module _ (lights : List ℕ) (fit : Fit lights) where
  span_enough : (u v : ℕ) → u ≤ 255 → v ≤ 255 → light_of lights u ≤ light_of lights v + light_span lights
  span_enough u v hu hv =
      omega (
        arith,
        light_mono (light_of lights) fit.rising u 255 hu (omega arith),
        light_mono (light_of lights) fit.rising 0 v (omega arith) hv,
      )

  blend_rounds : (u v : ℕ) (c : Frac) → u ≤ 255 → v ≤ 255 → c.num ≤ c.den → 0 < c.den
      → Within (whole (light_of lights (blend_by lights u v c))) (mix (whole (light_of lights u)) (light_of lights v) c) (half_gap lights)
  blend_rounds u v c hu hv le pos =
      within_wider (whole (light_of lights (blend_by lights u v c))) (mix (whole (light_of lights u)) (light_of lights v) c) (widest_gap lights over 2) (half_gap lights)
      (omega arith) (half_enough lights)
      (rw (mix-whole (light_of lights u) (light_of lights v) c) (blend-within lights fit u v c.num c.den hu hv le pos))

  blend-keeps : (u v : ℕ) (c : Frac) → v ≤ 255 → 0 < c.den → c.num ≡ c.den → blend_by lights u v c ≡ v
  blend-keeps u v c hv pos e = rw e (blend-whole lights fit u v c.den hv pos)

  in_light : Scale (light_of lights) (blend_by lights) (half_gap lights) (light_span lights)
  in_light =
      record {
        byte = λ u v c hu hv le pos. blend-byte lights u v c.num c.den;
        rounds = blend_rounds;
        keeps = blend-keeps;
        reach = span_enough;
      }

  -- whatever touches a pixel, its byte's light is within the bound of its exact blend
  pub close_to_exact : (u : ℕ) (ts : List Touch) → u ≤ 255 → AllSound ts
      → Within (whole (light_of lights (byte_after lights u ts))) (exact_after lights (whole (light_of lights u)) ts) (bound_of lights ts)
  unfolding byte_after exact_after
  close_to_exact u ts hu s = rw (bound-kept lights ts) (close (light_of lights) (blend_by lights) (half_gap lights) (light_span lights) in_light u ts hu s).1

-- ---- no denominator is 0: with one that is, a cross product would hold of anything
pub exact-den : (lights : List ℕ) (e : Frac) (ts : List Touch) → AllSound ts → 0 < e.den → 0 < (exact_after lights e ts).den
unfolding exact_after
exact-den lights = after_den (exact_step (light_of lights)) (λ e t s pos. mix-den e (light_of lights t.level) t.exact pos s.1.exact_pos)

margin_den : (lights : List ℕ) (b : Frac) (t : Touch) → SoundTouch t → 0 < b.den → 0 < (add_margin lights b t).den
unfolding half_gap
margin_den lights b t s pos = mul-pos pos (mul-pos {m = 2} (omega arith) s.1.off_pos)

pub margins_den : (lights : List ℕ) (ts : List Touch) → AllSound ts → 0 < (margins_of lights ts).den
unfolding margins_of margin_of
margins_den lights ts s = after_den (add_margin lights) (margin_den lights) (whole 0) ts s (omega arith)

pub bound-den : (lights : List ℕ) (ts : List Touch) → AllSound ts → 0 < (bound_of lights ts).den
bound-den lights ts s = rw (bound-kept lights ts) (after_den (keep_bound lights) keep (whole 0) ts s (omega arith))
  where
    keep : (b : Frac) (t : Touch) → SoundTouch t → 0 < b.den → 0 < (keep_bound lights b t).den
    keep b t s pos = go (covers t)
      where
        go : (k : Bool) → 0 < (cond k (whole 0) (add_margin lights b t)).den
        go true = omega arith
        go false = margin_den lights b t s pos

-- what is within the bound is within the margins of all touches
pub within_margins : (lights : List ℕ) (p e : Frac) (ts : List Touch) → AllSound ts → Within p e (bound_of lights ts) → Within p e (margins_of lights ts)
within_margins lights p e ts s = within_wider p e (bound_of lights ts) (margins_of lights ts) (bound-den lights ts s) (bound_le lights ts)

-- The bound on a byte's distance from the exact blend, for any scale on which bytes have places.
use mathlib.Core.Bool.{Bool, true, false, cond}
use mathlib.Core.Path.{◌≡◌, refl, subst}
use mathlib.Core.List.{List, [], ◌∷◌}
use Prim.Native.Nat.{ℕ, ◌+◌, ◌≤◌, ◌<◌}
use native.Mathlib.Omega.{arith}
use borrow.Author.Tests.{eqb-true}
use Rattle.numbers.specs.Fraction.{Frac, ◌⊕◌, Within}
use Rattle.numbers.proofs.Fraction.{⊕_comm, triangle, within_same}
use Rattle.bound.specs.Exact.{Touch, after, mix, whole, times, covers}
use Rattle.bound.specs.Sound.{SoundTouch, AllSound}
use Rattle.bound.proofs.Fractions.{mix-den, mix-covers, mix-within, mix-off}

-- all that the bound rests on: blending bytes gives a byte; its place is within half of the mixture of their places; whole coverage
-- leaves the level; no two places are more than span apart
pub record Scale (place : ℕ → ℕ) (blend : ℕ → ℕ → Frac → ℕ) (half : Frac) (span : ℕ) : Type 0 where
  pub byte : (u v : ℕ) (c : Frac) → u ≤ 255 → v ≤ 255 → c.num ≤ c.den → 0 < c.den → blend u v c ≤ 255
  pub rounds : (u v : ℕ) (c : Frac) → u ≤ 255 → v ≤ 255 → c.num ≤ c.den → 0 < c.den
      → Within (whole (place (blend u v c))) (mix (whole (place u)) (place v) c) half
  pub keeps : (u v : ℕ) (c : Frac) → v ≤ 255 → 0 < c.den → c.num ≡ c.den → blend u v c ≡ v
  pub reach : (u v : ℕ) → u ≤ 255 → v ≤ 255 → place u ≤ place v + span

-- ---- what one touch makes of the byte, of the exact blend and of the bound
abbrev pub byte_step : (ℕ → ℕ → Frac → ℕ) → ℕ → Touch → ℕ
byte_step blend u t = blend u t.level t.drawn

abbrev pub exact_step : (ℕ → ℕ) → Frac → Touch → Frac
exact_step place e t = mix e (place t.level) t.exact

abbrev pub margin_step : Frac → ℕ → Frac → Touch → Frac
margin_step half span b t = b ⊕ (half ⊕ times span t.off)

-- a whole cover leaves no error
abbrev pub bound_step : Frac → ℕ → Frac → Touch → Frac
bound_step half span b t = cond (covers t) (whole 0) (margin_step half span b t)

module _ (place : ℕ → ℕ) (blend : ℕ → ℕ → Frac → ℕ) (half : Frac) (span : ℕ) (scale : Scale place blend half span) where
  -- u is a byte, and its place is within b of e
  abbrev pub Close : ℕ → Frac → Frac → Type 0
  Close u e b = (u ≤ 255) × Within (whole (place u)) e b

  -- from the rounded blend to the drawn mixture (half), to the exact mixture of the same byte (span times off), to that of e (b)
  margin_step_lem : (u : ℕ) (e b : Frac) (t : Touch) → SoundTouch t → Close u e b → Close (byte_step blend u t) (exact_step place e t) (margin_step half span b t)
  margin_step_lem u e b t s h = (
    scale.byte u t.level t.drawn h.0 s.0 s.1.drawn_le s.1.drawn_pos,
    subst (λ (x : Frac). Within new (exact_step place e t) (b ⊕ x)) (⊕_comm off half)
        (triangle new exact (exact_step place e t) (off ⊕ half) b (mix-den (whole p) v t.exact (omega arith) s.1.exact_pos)
        (triangle new drawn exact half off (mix-den (whole p) v t.drawn (omega arith) s.1.drawn_pos) rounded moved)
        (mix-within (whole p) e b v t.exact s.1.exact_le h.1)),
  )
    where
      p : ℕ
      p = place u

      v : ℕ
      v = place t.level

      off : Frac
      off = times span t.off

      new : Frac
      new = whole (place (byte_step blend u t))

      drawn : Frac
      drawn = mix (whole p) v t.drawn

      exact : Frac
      exact = mix (whole p) v t.exact

      rounded : Within new drawn half
      rounded = scale.rounds u t.level t.drawn h.0 s.0 s.1.drawn_le s.1.drawn_pos

      moved : Within drawn exact off
      moved =
          let up = scale.reach t.level u s.0 h.0 in
          let down = scale.reach u t.level h.0 s.0 in
          mix-off p v span t.off up down t.drawn t.exact s.1.drawn_le s.1.exact_le s.1.near

  -- byte and exact blend are both the level's
  cover_step : (u : ℕ) (e : Frac) (t : Touch) → SoundTouch t → covers t ≡ true → Close (byte_step blend u t) (exact_step place e t) (whole 0)
  unfolding covers
  cover_step u e t s k =
      let n = eqb-true t.exact.num t.exact.den k in
      rw (scale.keeps u t.level t.drawn s.0 s.1.drawn_pos (s.1.covers.0 n)) (s.0, mix-covers e (place t.level) t.exact n)

  close_step : (u : ℕ) (e b : Frac) (t : Touch) → SoundTouch t → Close u e b → Close (byte_step blend u t) (exact_step place e t) (bound_step half span b t)
  close_step u e b t s h = go (covers t) refl
    where
      go : (k : Bool) → covers t ≡ k → Close (byte_step blend u t) (exact_step place e t) (cond k (whole 0) (margin_step half span b t))
      go true k = cover_step u e t s k
      go false k = margin_step_lem u e b t s h

  close_from : (u : ℕ) (e b : Frac) (ts : List Touch) → AllSound ts → Close u e b
      → Close (after (byte_step blend) u ts) (after (exact_step place) e ts) (after (bound_step half span) b ts)
  unfolding after
  close_from u e b [] s h = h
  close_from u e b (t ∷ ts) s h =
      close_from (byte_step blend u t) (exact_step place e t) (bound_step half span b t) ts s.1 (close_step u e b t s.0 h)

  -- from any byte, after any touches
  pub close : (u : ℕ) (ts : List Touch) → u ≤ 255 → AllSound ts
      → Close (after (byte_step blend) u ts) (after (exact_step place) (whole (place u)) ts) (after (bound_step half span) (whole 0) ts)
  close u ts hu s = close_from u (whole (place u)) (whole 0) ts s (hu, within_same (whole (place u)) (whole (place u)) (whole 0) refl)

-- a denominator that no touch makes 0 is not 0 after them
pub after_den : (f : Frac → Touch → Frac) → ((e : Frac) (t : Touch) → SoundTouch t → 0 < e.den → 0 < (f e t).den)
    → (e : Frac) (ts : List Touch) → AllSound ts → 0 < e.den → 0 < (after f e ts).den
unfolding after
after_den f keep e [] s pos = pos
after_den f keep e (t ∷ ts) s pos = after_den f keep (f e t) ts s.1 (keep e t s.0 pos)

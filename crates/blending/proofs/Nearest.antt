-- The code nearest in light is the one whose light has the blended light between the middles on its two sides.
use mathlib.Core.Bool.{Bool, true, false, cond}
use mathlib.Core.Path.{◌≡◌, refl, sym, ◌∙◌, ap, subst}
use mathlib.Core.Logic.{◌⊎◌, inl, inr}
use Prim.Native.Nat.{ℕ, zero, suc, ◌+◌, ◌*◌, ◌-◌, ◌≤◌, ◌<◌}
use native.Mathlib.Nat.{mul-le-mul_right, le_trans}
use native.Mathlib.Omega.{arith}
use lib.Dec.{leb}
use borrow.Author.Tests.{leb-true, leb-false}
use Rattle.numbers.proofs.Order.{lt_or_le}
use Rattle.blending.specs.Blend.{apart, nearest_to, nearest_code, Nearest}
use Rattle.lights.specs.inner.Fit.{Rising}
use Rattle.lights.specs.inner.Palette.{middle}
use Rattle.lights.proofs.Neighbours.{light_mono, middle-some}

pub nearest_unique : (light : ℕ → ℕ) (b n d a c : ℕ) → Nearest light b n d a → Nearest light b n d c → a ≡ c
nearest_unique light b n d a c p q = go (lt_or_le a c) (lt_or_le c a)
  where
    go : (a < c) ⊎ (c ≤ a) → (c < a) ⊎ (a ≤ c) → a ≡ c
    go (inl h) w = absurd (omega (arith, p.higher c h q.code, q.none a p.code))
    go (inr h) (inl w) = absurd (omega (arith, q.higher a w p.code, p.none c q.code))
    go (inr h) (inr w) = omega arith

-- the last of the codes wins, or it does not
nearest-last : (light : ℕ → ℕ) (b n d c : ℕ) → Nearest light b n d c → apart n (light (suc b) * d) ≤ apart n (light c * d) → Nearest light (suc b) n d (suc b)
nearest-last light b n d c p h =
    record { code = omega arith; none = λ k w. none k w (lt_or_le b k); higher = λ k w z. absurd (omega arith) }
  where
    none : (k : ℕ) → k ≤ suc b → (b < k) ⊎ (k ≤ b) → apart n (light (suc b) * d) ≤ apart n (light k * d)
    none k w (inl z) = same (omega arith)
      where
        same : suc b ≡ k → apart n (light (suc b) * d) ≤ apart n (light k * d)
        same e = subst (λ (i : ℕ). apart n (light (suc b) * d) ≤ apart n (light i * d)) e (omega arith)
    none k w (inr z) = le_trans h (p.none k z)

nearest-kept : (light : ℕ → ℕ) (b n d c : ℕ) → Nearest light b n d c → apart n (light c * d) < apart n (light (suc b) * d) → Nearest light (suc b) n d c
nearest-kept light b n d c p h =
    record { code = omega (arith, p.code); none = λ k w. none k w (lt_or_le b k); higher = λ k z w. higher k z w (lt_or_le b k) }
  where
    last : (k : ℕ) → suc b ≡ k → apart n (light c * d) < apart n (light k * d)
    last k e = subst (λ (i : ℕ). apart n (light c * d) < apart n (light i * d)) e h

    none : (k : ℕ) → k ≤ suc b → (b < k) ⊎ (k ≤ b) → apart n (light c * d) ≤ apart n (light k * d)
    none k w (inl z) = omega (arith, last k (omega arith))
    none k w (inr z) = p.none k z

    higher : (k : ℕ) → c < k → k ≤ suc b → (b < k) ⊎ (k ≤ b) → apart n (light c * d) < apart n (light k * d)
    higher k z w (inl y) = last k (omega arith)
    higher k z w (inr y) = p.higher k z y

pub code-nearest : (light : ℕ → ℕ) (b n d : ℕ) → Nearest light b n d (nearest_to light b n d)
unfolding nearest_to
code-nearest light zero n d = record { code = omega arith; none = λ k h. zeros k (omega arith); higher = λ k h w. absurd (omega arith) }
  where
    zeros : (k : ℕ) → 0 ≡ k → apart n (light 0 * d) ≤ apart n (light k * d)
    zeros k e = subst (λ (i : ℕ). apart n (light 0 * d) ≤ apart n (light i * d)) e (omega arith)
code-nearest light (suc b) n d = go (leb (apart n (light (suc b) * d)) (apart n (light (nearest_to light b n d) * d))) refl (code-nearest light b n d)
  where
    go : (t : Bool) → leb (apart n (light (suc b) * d)) (apart n (light (nearest_to light b n d) * d)) ≡ t → Nearest light b n d (nearest_to light b n d)
        → Nearest light (suc b) n d (cond t (suc b) (nearest_to light b n d))
    go true e p = nearest-last light b n d (nearest_to light b n d) p (leb-true (apart n (light (suc b) * d)) (apart n (light (nearest_to light b n d) * d)) e)
    go false e p = nearest-kept light b n d (nearest_to light b n d) p (leb-false (apart n (light (suc b) * d)) (apart n (light (nearest_to light b n d) * d)) e)

-- ---- the middles
-- ---- by the middles: of two lights the upper is as near where n is not below their middle
nearer : (n a b : ℕ) → a ≤ b → a + b ≤ 2 * n → apart n b ≤ apart n a
nearer n a b h k = omega arith

further : (n a b : ℕ) → a < b → 2 * n < a + b → apart n a < apart n b
further n a b h k = omega arith

not_below : (n a b : ℕ) → a < b → apart n b ≤ apart n a → a + b ≤ 2 * n
not_below n a b h k = omega arith

below : (n a b : ℕ) → a < b → apart n a < apart n b → 2 * n < a + b
below n a b h k = omega arith

module _ (light : ℕ → ℕ) (rising : Rising light) where
  -- later lights are greater, also over d
  above : (j k d : ℕ) → 0 < d → j < k → k ≤ 255 → light j * d < light k * d
  above j k d pos h w = omega (arith, mul-le-mul_right d (rising j (omega arith)), mul-le-mul_right d (light_mono light rising (suc j) k h w))

  module _ (n d c : ℕ) (pos : 0 < d) where
    -- c is nearest where n lies between the middles on its two sides
    pub nearest_amid : c ≤ 255 → ((j : ℕ) → suc j ≡ c → (light j + light c) * d ≤ 2 * n) → (c < 255 → 2 * n < (light c + light (suc c)) * d)
        → Nearest light 255 n d c
    nearest_amid code low high =
        record { code = code; none = λ k b. none k b (lt_or_le k c) (lt_or_le c k); higher = higher }
      where
        higher : (k : ℕ) → c < k → k ≤ 255 → apart n (light c * d) < apart n (light k * d)
        higher k h b =
            further n (light c * d) (light k * d) (above c k d pos h b)
            (omega (arith, high (omega arith), mul-le-mul_right d (light_mono light rising (suc c) k h b)))

        lower : (j k : ℕ) → suc j ≡ c → k ≤ j → apart n (light c * d) ≤ apart n (light k * d)
        lower j k e h =
            nearer n (light k * d) (light c * d) (mul-le-mul_right d (light_mono light rising k c (omega arith) code))
            (omega (arith, low j e, mul-le-mul_right d (light_mono light rising k j h (omega arith))))

        none : (k : ℕ) → k ≤ 255 → (k < c) ⊎ (c ≤ k) → (c < k) ⊎ (k ≤ c) → apart n (light c * d) ≤ apart n (light k * d)
        none k b (inl h) w = lower (c - 1) k (omega arith) (omega arith)
        none k b (inr h) (inl w) = omega (arith, higher k w b)
        none k b (inr h) (inr w) = subst (λ (i : ℕ). apart n (light c * d) ≤ apart n (light i * d)) e (omega arith)
          where
            e : c ≡ k
            e = omega arith

    -- and only there
    pub low_of : Nearest light 255 n d c → (j : ℕ) → suc j ≡ c → (light j + light c) * d ≤ 2 * n
    low_of p j e = omega (arith, not_below n (light j * d) (light c * d) (above j c d pos (omega arith) p.code) (p.none j (omega (arith, p.code))))

    pub high_of : Nearest light 255 n d c → c < 255 → 2 * n < (light c + light (suc c)) * d
    high_of p h = omega (arith, below n (light c * d) (light (suc c) * d) (above c (suc c) d pos (omega arith) h) (p.higher (suc c) (omega arith) h))

  -- the code that lies between its middles is the nearest
  pub nearest-code : (n d c : ℕ) → 0 < d → c ≤ 255 → middle light c * d ≤ 2 * n → 2 * n < middle light (suc c) * d → c ≡ nearest_code light n d
  nearest-code n d c pos code low high =
      nearest_unique light 255 n d c (nearest_code light n d) (nearest_amid n d c pos code below_it above_it) (code-nearest light 255 n d)
    where
      below_it : (j : ℕ) → suc j ≡ c → (light j + light c) * d ≤ 2 * n
      below_it j e =
          let f : middle light c ≡ light j + light c = ap (middle light) (sym e) ∙ middle-some light j (omega arith) ∙ ap (λ (i : ℕ). light j + light i) e in
          subst (λ (y : ℕ). y * d ≤ 2 * n) f low

      above_it : c < 255 → 2 * n < (light c + light (suc c)) * d
      above_it h = subst (λ (y : ℕ). 2 * n < y * d) (middle-some light c h) high

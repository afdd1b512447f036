-- What is drawn in lights equal to codes is what blending codes as they stand leaves, with the bound that holds of it.
use mathlib.Core.Bool.{cond}
use mathlib.Core.List.{List, [], ◌∷◌}
use mathlib.Core.Path.{◌≡◌, refl, sym, ◌∙◌, ap, subst}
use Prim.Native.Nat.{ℕ, ◌+◌, ◌*◌, ◌%◌, ◌/◌, ◌≤◌, ◌<◌}
use native.Mathlib.Omega.{arith}
use lib.Dec.{ltb}
use lib.ListN.{length, get_or}
use Rattle.numbers.specs.Fraction.{Frac}
use Rattle.lights.specs.Codes.{codes}
use Rattle.blending.specs.Blend.{blend}
use Rattle.blending.proofs.Blend.{blend-byte}
use Rattle.lights.proofs.Codes.{code-light, codes-fit}
use Rattle.page.proofs.Over.{over_ext}
use Rattle.bound.specs.Exact.{Touch, whole, after, byte_after, exact_after}
use Rattle.bound.specs.Sound.{AllSound}
use Rattle.bound.proofs.Codes.{byte-codes, exact-codes, bound-codes}
use Rattle.format.specs.Format.{header_at, basis_of}
use Rattle.lists.specs.List.{Records, accepted, refused, header_refusal, records_of, page_records, checked_as, AllBytes}
use Rattle.settings.specs.Drawing.{Drawing, drawings}
use Rattle.format.specs.declared.Header.{Header}
use Rattle.lists.proofs.Walkable.{room}
use Rattle.drawing.specs.Touches.{touches_at}
use Rattle.drawing.specs.Page.{drawn_page}
use Rattle.drawing.specs.Claim.{page_by, ByteBounded, Bounded, ClaimBy, Claim}
use Rattle.drawing.specs.Codes.{codes_page, CodeBounded, CodesBounded, CodesClaimBy, CodesClaim}
use Rattle.drawing.specs.inner.Walk.{AllLawful}
use Rattle.drawing.specs.Outcome.{Outcome}
use Rattle.drawing.proofs.Bytes.{touches-sound, byte-is}
use Rattle.drawing.proofs.Lawful.{list_lawful}

-- what is known of an accepted list of bytes
abbrev Known : Header → Records → List ℕ → Type 0
Known d (accepted rs) l = (d.w * d.h ≤ length l) × (d.background ≤ 255) × AllLawful d.version (drawings (basis_of d) rs)
Known d (refused f place) l = Unit {0}

-- touches leave a byte of a byte
after_byte : (u : ℕ) (ts : List Touch) → u ≤ 255 → byte_after codes u ts ≤ 255
unfolding byte_after after
after_byte u [] h = h
after_byte u (t ∷ ts) h = after_byte (blend codes u t.level t.drawn.num t.drawn.den) ts (blend-byte codes u t.level t.drawn.num t.drawn.den)

-- a byte's light is the byte, and the exact blend and the bound are those of codes
byte_in_codes : (u b : ℕ) (ts : List Touch) → u ≤ 255 → b ≤ 255 → AllSound ts → ByteBounded codes u b ts → CodeBounded u b ts
byte_in_codes u b ts hu hb s c =
    let e = ap (λ (k : ℕ). exact_after codes (whole k) ts) (code-light b hb) ∙ exact-codes (whole b) ts s in
    let f = bound-codes ts in
    record {
      exact_pos = subst (λ (q : Frac). 0 < q.den) e c.exact_pos;
      bound_pos = subst (λ (q : Frac). 0 < q.den) f c.bound_pos;
      within = rw (code-light u hu, e, f) at c.within;
    }

claim_in_codes : (d : Header) (x : Records) (l : List ℕ) {r : Outcome} {m : List ℕ} → Known d x l → ClaimBy codes d x l r m → CodesClaimBy d x l r m
unfolding page_by drawn_page Bounded codes_page CodesBounded
claim_in_codes d (refused f place) l k c = record { answer = c.answer; page = c.page; bound = tt; counts = c.counts }
claim_in_codes d (accepted rs) l {m = m} k c =
    record {
      answer = c.answer;
      page = c.page ∙ over_ext _ _ l (λ j _. ap (λ (v : ℕ). cond (ltb j (d.w * d.h)) v (get_or l j 0)) (byte-codes d.background _ k.1 (sound (j % d.w) (j / d.w))));
      bound = λ x y i j. byte_in_codes _ d.background (touches_at ds x y) (small x y i j) k.1 (sound x y) (c.bound x y i j);
      counts = c.counts;
    }
  where
    ds : List Drawing
    ds = drawings (basis_of d) rs

    sound : (x y : ℕ) → AllSound (touches_at ds x y)
    sound x y = touches-sound d.version ds x y k.2

    small : (x y : ℕ) → x < d.w → y < d.h → get_or m (y * d.w + x) 0 ≤ 255
    small x y i j =
        let e = ap (λ (q : List ℕ). get_or q (y * d.w + x) 0) c.page ∙ byte-is codes d.w d.h d.background ds l x y k.0 i j in
        rw e (after_byte d.background (touches_at ds x y) k.1)

-- codes are fit, so that nothing is refused for them
codes_records : (s : List ℕ) (n : ℕ) → page_records s n codes ≡ records_of ((ltb n ((header_at s).w * (header_at s).h), 21) ∷ []) s
unfolding records_of header_refusal
codes_records s n = rw codes-fit refl

-- a list of bytes, drawn in lights equal to codes, keeps the claim in codes
pub codes-claim : (s l : List ℕ) {r : Outcome} {m : List ℕ} → AllBytes s → Claim codes s l r m → CodesClaim s l r m
codes-claim s l {r} {m} bytes c =
    subst (λ (x : Records). CodesClaimBy (header_at s) x l r m) (codes_records s (length l))
    (claim_in_codes (header_at s) (page_records s (length l) codes) l (known (page_records s (length l) codes) refl) c)
  where
    known : (x : Records) → page_records s (length l) codes ≡ x → Known (header_at s) x l
    known (refused f place) e = tt
    known (accepted rs) e = (
      room s (length l) codes (header_at s) _ (sym (ap (checked_as (header_at s)) e)),
      omega (arith, bytes 9),
      list_lawful codes s (length l) rs bytes e,
    )

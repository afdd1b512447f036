-- The claim about a list, refused and accepted.
use mathlib.Core.Path.{◌≡◌, refl, sym, ap, subst}
use mathlib.Core.List.{List, [], ◌++◌}
use Prim.Native.Nat.{ℕ, ◌+◌, ◌*◌, ◌^◌, ◌≤◌, ◌<◌}
use native.Mathlib.Nat.{mul-le-mul}
use native.Mathlib.Omega.{arith}
use Rattle.std.specs.Prelude.{Ok, Err}
use lib.ListN.{length, get_or, replicate, take, drop, length-take}
use Rattle.numbers.specs.Sum.{total}
use Rattle.limits.proofs.Limits.{basis-size}
use Rattle.lights.specs.inner.Fit.{Fit}
use Rattle.format.specs.Format.{header_at, basis_of}
use Rattle.lists.specs.List.{Records, accepted, refused, page_records, checked_as, checked_of}
use Rattle.settings.specs.Drawing.{Drawing, drawings}
use Rattle.settings.specs.Settings.{start}
use Rattle.lists.specs.inner.Walk.{list_drawings}
use Rattle.format.specs.declared.Header.{Header}
use Rattle.lists.proofs.InForce.{start-clip}
use Rattle.lists.proofs.Walkable.{found, room, lit, list_walkable, drawings_are}
use Rattle.draw.proofs.Refusals.{view_lawful}
use Rattle.drawing.specs.Touches.{touches_at}
use Rattle.drawing.specs.Page.{drawn_page}
use Rattle.drawing.specs.Counts.{shapes_count, own_of, player_counts}
use Rattle.drawing.specs.Claim.{answer_by, drawings_by, page_by, ByteBounded, Bounded, ClaimBy, Claim, outcome_by}
use Rattle.drawing.specs.inner.Walk.{AllLawful, Drawable, ListPainted}
use Rattle.drawing.specs.Outcome.{Outcome}
use Rattle.drawing.proofs.Players.{counted}
use Rattle.drawing.proofs.Bytes.{page-whole, all_bounded}

-- no drawings, no counts
none-counted : (w h : ℕ) → replicate 8 0 ≡ player_counts (shapes_count w h) []
unfolding own_of total
none-counted w h = refl

-- a list that the check refuses
pub refused-claim : (lights s l : List ℕ) (f place : ℕ) → Err (f, place) ≡ checked_of s (length l) lights → Claim lights s l (record { answer = Err (f, place); touched = replicate 8 0 }) l
unfolding answer_by drawings_by page_by Bounded AllLawful
refused-claim lights s l f place e = go (page_records s (length l) lights) e
  where
    go : (x : Records) → Err (f, place) ≡ checked_as (header_at s) x → ClaimBy lights (header_at s) x l (record { answer = Err (f, place); touched = replicate 8 0 }) l
    go (accepted rs) k = absurd (let z : ◌≡◌ {A = ℕ} 0 1 = cc in omega arith)
    go (refused g q) k =
        let both : ◌≡◌ {A = ℕ × ℕ} (f, place) (g, q) = cc in
        let a : f ≡ g = ap (λ (z : ℕ × ℕ). z.0) both in
        let b : place ≡ q = ap (λ (z : ℕ × ℕ). z.1) both in
        let d = header_at s in
        record { answer = rw (a, b); page = refl; bound = tt; counts = counted d.version d.w d.h [] (replicate 8 0) tt (none-counted d.w d.h) }

-- one that it accepts with the header d
module _ (lights s l : List ℕ) (d : Header) (t : ℕ) (e : Ok (record { header = d; ceiling = t }) ≡ checked_of s (length l) lights) where
  fits : d.w * d.h ≤ length l
  fits = room s (length l) lights d t e

  pub fit : Fit lights
  fit = lit s (length l) lights d t e

  -- the page's W-as-H bytes are lent
  abbrev lent : List ℕ
  lent = take (d.w * d.h) l

  pub lent_length : d.w * d.h ≡ length lent
  lent_length = let f = fits in simp length-take (omega arith)

  pub lent_room : d.w * d.h ≤ length l
  lent_room = fits

  pub lent_drawable : Drawable s (basis_of d) (length lent)
  lent_drawable = let k = lent_length in record { walk = list_walkable (found s (length l) lights d t e); room = omega arith }

  pub few : d.w * d.h < 2 ^ 64
  few =
      let drawable = lent_drawable in
      let law = view_lawful d.w d.h _ (start (basis_of d)).clip (basis-size (basis_of d) drawable.walk.basis) drawable.room (start-clip (basis_of d)) in
      omega (arith, mul-le-mul {n₁ = d.w} {m₁ = d.h} {n₂ = 1024} {m₂ = 1024} law.w-most law.h-most)

  abbrev ds : List Drawing
  ds = drawings (basis_of d) (found s (length l) lights d t e).records

  -- the walk over the list draws these
  same : list_drawings (basis_of d) s ≡ ds
  same = drawings_are (found s (length l) lights d t e)

  -- it left p of what was lent, and touched ts pixels by player
  module _ {p ts : List ℕ} (done : ListPainted lights (basis_of d) d.background (list_drawings (basis_of d) s) lent p ts) where
    painted : ListPainted lights (basis_of d) d.background ds lent p ts
    painted = subst (λ (q : List Drawing). ListPainted lights (basis_of d) d.background q lent p ts) same done

    abbrev outcome : Outcome
    outcome = record { answer = Ok (record { w = d.w; h = d.h }); touched = ts }

    abbrev whole : List ℕ
    whole = p ++ drop (d.w * d.h) l

    page-is : whole ≡ drawn_page lights d.w d.h d.background ds l
    page-is = page-whole lights d.w d.h d.background ds l p fits painted.page

    bounded : (x y : ℕ) → x < d.w → y < d.h → ByteBounded lights (get_or whole (y * d.w + x) 0) d.background (touches_at ds x y)
    bounded x y i j =
        subst (λ (m : List ℕ). ByteBounded lights (get_or m (y * d.w + x) 0) d.background (touches_at ds x y)) (sym page-is)
        (all_bounded lights fit d.version d.w d.h d.background ds l fits painted.byte painted.lawful x y i j)

    records_claim : ClaimBy lights d (accepted (found s (length l) lights d t e).records) l outcome whole
    unfolding answer_by drawings_by page_by Bounded
    records_claim =
        record {
          answer = refl;
          page = page-is;
          bound = bounded;
          counts = counted d.version d.w d.h ds ts painted.lawful painted.counts;
        }

    pub accepted-claim : Claim lights s l outcome whole
    accepted-claim =
        subst (λ (q : Header). ClaimBy lights q (page_records s (length l) lights) l outcome whole) (found s (length l) lights d t e).header
        (subst (λ (x : Records). ClaimBy lights d x l outcome whole) (sym (found s (length l) lights d t e).is) records_claim)

-- what comes of a list is its answer and its counts
pub claimed_outcome : {lights : List ℕ} {d : Header} {x : Records} {l m : List ℕ} {r : Outcome} → ClaimBy lights d x l r m → r ≡ outcome_by d x
claimed_outcome c = λ i. record { answer = c.answer i; touched = c.counts.shapes i }

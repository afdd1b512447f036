-- The drawings of each player, and what is counted of them.
use mathlib.Core.Path.{◌≡◌, refl, sym, ◌∙◌, ap, ap₂, subst}
use mathlib.Core.Bool.{Bool, true, false, cond}
use mathlib.Core.List.{List, [], ◌∷◌, ◌++◌}
use Prim.Native.Nat.{ℕ, ◌+◌, ◌≤◌, ◌<◌}
use native.Mathlib.Omega.{arith}
use borrow.Author.Tests.{eq-eqb, ne_eqb, eqb-true, eqb-false}
use lib.Dec.{eqb}
use lib.ListN.{length, get_or, set}
use lib.Seq.{ext_get_or, get_or-set_same, get_or-set_other}
use Rattle.numbers.specs.Sum.{sum_to, total}
use Rattle.numbers.proofs.Order.{below, cond_le}
use Rattle.numbers.proofs.Sum.{sum_one, sum_total}
use Rattle.shapes.specs.declared.Record.{Record}
use Rattle.shapes.specs.declared.Record.TheVariants.{End as end, Setting as setting, Shape as shape}
use Rattle.settings.specs.Drawing.{Drawing, drawing_of}
use Rattle.lists.specs.inner.Walk.{players_in}
use Rattle.settings.specs.declared.Settings.{Settings}
use Rattle.drawing.specs.Counts.{drawing_count, shapes_count, own_of, by_player, player_counts, on_first, Counted}
use Rattle.drawing.specs.inner.Walk.{AllLawful}
use Rattle.drawing.proofs.Shapes.{counts_same}

-- ---- eight numbers

-- the number of player p
pub player-number : (n : ℕ → ℕ) (p : ℕ) → p < 8 → get_or (by_player n) p 0 ≡ n p
player-number n = below 8 (λ p. get_or (by_player n) p 0 ≡ n p) ((((((((tt, refl), refl), refl), refl), refl), refl), refl), refl)

pub players_are : (n : ℕ → ℕ) (ts : List ℕ) → length ts ≡ 8 → ((p : ℕ) → get_or ts p 0 ≡ n p) → ts ≡ by_player n
players_are n ts e h = ext_get_or 0 ts (by_player n) e (λ p i. h p ∙ sym (player-number n p (omega arith)))

-- n more for player q
pub raised : (ts : List ℕ) (q n p : ℕ) → q < length ts → get_or (set ts q (get_or ts q 0 + n)) p 0 ≡ get_or ts p 0 + cond (eqb q p) n 0
raised ts q n p h = go (eqb q p) refl
  where
    same : q ≡ p → get_or ts q 0 ≡ get_or ts p 0
    same e = ap (λ (j : ℕ). get_or ts j 0) e

    go : (b : Bool) → eqb q p ≡ b → get_or (set ts q (get_or ts q 0 + n)) p 0 ≡ get_or ts p 0 + cond b n 0
    go true e =
        let at = eqb-true q p e in
        ap (λ (j : ℕ). get_or (set ts q (get_or ts q 0 + n)) j 0) (sym at) ∙ get_or-set_same ts q (get_or ts q 0 + n) 0 h ∙ ap (λ (k : ℕ). k + n) (same at)
    go false e = get_or-set_other ts q p (get_or ts q 0 + n) 0 (λ i. eqb-false q p e (sym i)) ∙ omega arith

-- ---- a player's own drawings

pub own_++ : (p : ℕ) (ds es : List Drawing) → own_of p (ds ++ es) ≡ own_of p ds ++ own_of p es
unfolding own_of
own_++ p [] es = refl
own_++ p (d ∷ ds) es = go (eqb d.settings.player p) (own_++ p ds es)
  where
    go : (b : Bool) → own_of p (ds ++ es) ≡ own_of p ds ++ own_of p es
        → cond b (d ∷ own_of p (ds ++ es)) (own_of p (ds ++ es)) ≡ cond b (d ∷ own_of p ds) (own_of p ds) ++ own_of p es
    go true e = ap (λ (xs : List Drawing). d ∷ xs) e
    go false e = e

none : (b : Bool) → ◌≡◌ {A = ℕ} 0 (cond b 0 0)
none true = refl
none false = refl

-- what is counted of one record: all for the player in force, nothing for the others
pub own_record : (m : Drawing → ℕ) (f : Settings) (r : Record) (p : ℕ) → total m (own_of p (drawing_of f r)) ≡ cond (eqb f.player p) (total m (drawing_of f r)) 0
unfolding own_of total drawing_of
own_record m f end p = none (eqb f.player p)
own_record m f (setting g) p = none (eqb f.player p)
own_record m f (shape s) p = go (eqb f.player p)
  where
    d : Drawing
    d = record { settings = f; shape = s }

    go : (b : Bool) → total m (cond b (d ∷ []) []) ≡ cond b (m d + 0) 0
    go true = refl
    go false = refl

-- ---- the counts together

own_total : (m : Drawing → ℕ) (p : ℕ) (ds : List Drawing) → total m (own_of p ds) ≡ total (λ d. cond (eqb d.settings.player p) (m d) 0) ds
unfolding own_of total
own_total m p [] = refl
own_total m p (d ∷ ds) = go (eqb d.settings.player p) (own_total m p ds)
  where
    go : (b : Bool) → total m (own_of p ds) ≡ total (λ e. cond (eqb e.settings.player p) (m e) 0) ds
        → total m (cond b (d ∷ own_of p ds) (own_of p ds)) ≡ cond b (m d) 0 + total (λ e. cond (eqb e.settings.player p) (m e) 0) ds
    go true e = omega arith
    go false e = omega arith

pub players_most : (v : ℕ) → players_in v ≤ 8
players_most v = cond_le (eqb v 1) (omega arith) (omega arith)

-- each drawing is counted for one of eight players
each_once : (m : Drawing → ℕ) (v : ℕ) (ds : List Drawing) → AllLawful v ds → total (λ d. sum_to 8 (λ p. cond (eqb d.settings.player p) (m d) 0)) ds ≡ total m ds
unfolding total AllLawful
each_once m v [] a = refl
each_once m v (d ∷ ds) a = ap₂ ◌+◌ one (each_once m v ds a.3)
  where
    q : ℕ
    q = d.settings.player

    one : sum_to 8 (λ p. cond (eqb q p) (m d) 0) ≡ m d
    one =
        sum_one 8 q (λ p. cond (eqb q p) (m d) 0) (omega (arith, a.1, players_most v)) (λ k e. rw (ne_eqb q k (λ i. e (sym i))))
        ∙ rw (eq-eqb q q refl)

pub players_sum : (m : Drawing → ℕ) (v : ℕ) (ds : List Drawing) → AllLawful v ds → total (λ n. n) (player_counts (total m) ds) ≡ total m ds
unfolding total sum_to
players_sum m v ds a =
    let all = sum_total 8 (λ p d. cond (eqb d.settings.player p) (m d) 0) ds in
    let once = each_once m v ds a in
    let own : (p : ℕ) → total m (own_of p ds) ≡ total (λ d. cond (eqb d.settings.player p) (m d) 0) ds = λ p. own_total m p ds in
    omega (arith, all, once, own 0, own 1, own 2, own 3, own 4, own 5, own 6, own 7)

-- ---- version 1: all drawings are player 0's

own_all : (ds : List Drawing) → AllLawful 1 ds → own_of 0 ds ≡ ds
unfolding own_of AllLawful
own_all [] a = refl
own_all (d ∷ ds) a =
    let one = eq-eqb d.settings.player 0 (omega (arith, a.1)) in
    rw one (ap (λ (xs : List Drawing). d ∷ xs) (own_all ds a.3))

own_none : (p : ℕ) (ds : List Drawing) → 0 < p → AllLawful 1 ds → own_of p ds ≡ []
unfolding own_of AllLawful
own_none p [] h a = refl
own_none p (d ∷ ds) h a =
    let other = ne_eqb d.settings.player p (λ e. omega (arith, a.1)) in
    rw other (own_none p ds h a.3)

pub all_on_first : (m : Drawing → ℕ) (ds : List Drawing) → AllLawful 1 ds → player_counts (total m) ds ≡ on_first (total m ds)
unfolding total
all_on_first m ds a =
    let zero : (p : ℕ) → 0 < p → total m (own_of p ds) ≡ 0 = λ p h. ap (total m) (own_none p ds h a) in
    rw (own_all ds a, zero 1 (omega arith), zero 2 (omega arith), zero 3 (omega arith), zero 4 (omega arith), zero 5 (omega arith), zero 6 (omega arith), zero 7 (omega arith))

-- ---- all that is said of the counts follows from the first of it
pub counted : (v w h : ℕ) (ds : List Drawing) (ts : List ℕ) → AllLawful v ds → ts ≡ player_counts (shapes_count w h) ds → Counted v w h ds ts
counted v w h ds ts a e =
    let sum = ap (total (λ n. n)) e ∙ players_sum (drawing_count w h) v ds a in
    record {
      shapes = e;
      pixels = e ∙ (λ i. by_player (λ p. counts_same w h (own_of p ds) i));
      sum = sum;
      sum-pixels = sum ∙ counts_same w h ds;
      first = λ one. e ∙ all_on_first (drawing_count w h) ds (subst (λ (u : ℕ). AllLawful u ds) one a);
    }

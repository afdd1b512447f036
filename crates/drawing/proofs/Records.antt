-- The records of a list, drawn one after the other.
use mathlib.Core.Path.{◌≡◌, refl, sym, ◌∙◌, ap, subst}
use mathlib.Core.Bool.{cond}
use mathlib.Core.List.{List, ◌++◌}
use Prim.Native.Nat.{ℕ, ◌+◌, ◌*◌, ◌-◌, ◌≤◌, ◌<◌}
use native.Mathlib.Omega.{arith}
use lib.Dec.{eqb}
use lib.ListN.{length, get_or, set, replicate, take, drop, length-set}
use Rattle.numbers.specs.Sum.{total}
use Rattle.numbers.proofs.Order.{cond_le}
use Rattle.numbers.proofs.Sum.{total_++}
use Rattle.limits.specs.Limits.{shape_refusal, record_refusal}
use Rattle.limits.proofs.Limits.{basis-size, record_shape}
use Rattle.shapes.specs.declared.Shape.{Shape}
use Rattle.shapes.specs.declared.Basis.{Basis}
use Rattle.shapes.specs.declared.Record.{Record}
use Rattle.shapes.specs.declared.Record.TheVariants.{End as end, Setting as setting, Shape as shape}
use Rattle.coverage.specs.Coverage.{drawn_d}
use Rattle.chords.proofs.Height.{zeros}
use Rattle.page.specs.inner.Ink.{ink_of}
use Rattle.page.specs.inner.Paint.{Lawful, DrawnIn}
use Rattle.page.proofs.Drawn.{drawn-count}
use Rattle.format.specs.Format.{header_size, kind_size, record_at}
use Rattle.coverage.specs.inner.OnPage.{shape_on}
use Rattle.touches.specs.inner.View.{view_of}
use Rattle.draw.proofs.Refusals.{view_lawful}
use Rattle.touches.proofs.Touches.{page-touched, count-touched}
use Rattle.settings.specs.Drawing.{Drawing, drawing_of, drawings_from}
use Rattle.settings.specs.Settings.{start, in_force}
use Rattle.drawing.specs.Counts.{drawing_count, shapes_count, own_of, player_counts}
use Rattle.drawing.specs.inner.Walk.{shapes_page, Drawable, AllLawful, ShapesDrawn}
use Rattle.lists.specs.inner.Walk.{records_in, list_records, list_drawings, players_in}
use Rattle.settings.specs.declared.Settings.{Settings}
use Rattle.drawing.proofs.Shapes.{page_then, length-shapes}
use Rattle.drawing.proofs.Players.{players_most, players_are, raised, own_++, own_record}
use Rattle.lists.proofs.Left.{Left, left-start, left-basis, left-inside, left_end, left-lawful, Step, left-next}

-- ---- one record

pub shape-drawn : {lights : List ℕ} {b : Basis} {size t : ℕ} (f : Settings) (s : Shape) {l m : List ℕ} → Lawful (view_of b.w b.h f.clip) size → shape_refusal s ≡ 0
    → DrawnIn (view_of b.w b.h f.clip) (ink_of lights f.level (drawn_d s)) (shape_on s) l m t
    → ShapesDrawn lights b (drawing_of f (shape s)) l m t × (t ≤ 1048576)
unfolding shapes_page total drawing_of
shape-drawn {lights} {b} f s {l} law z d =
    let e = count-touched b.w b.h f.clip s z in
    let k = d.count in
    (record { page = d.page ∙ page-touched b.w b.h f.clip s z lights f.level l; count = omega arith }, drawn-count law d)

-- a record without a refusal, drawn at a level that is a byte for a player of the version, in front of lawful drawings
pub lawful_then : (b : Basis) (f : Settings) (r : Record) (ds : List Drawing) → record_refusal b r ≡ 0 → f.level ≤ 255
    → f.player < players_in b.version → AllLawful b.version ds
    → AllLawful b.version (drawing_of f r ++ ds)
unfolding record_refusal drawing_of AllLawful
lawful_then b f end ds z k i a = a
lawful_then b f (setting g) ds z k i a = a
lawful_then b f (shape s) ds z k i a = (k, i, record_shape s z, a)

-- ---- the walk

-- at a place, with the settings f, the page l and the counts ts: what is left makes of them the page goal and the counts of all
pub record Remaining (lights : List ℕ) (b : Basis) (list : List ℕ) (all : List Drawing) (goal : List ℕ) (place : ℕ) (f : Settings) (l ts : List ℕ) : Type 0 where
  pub records : List Record
  pub left : Left b list place f records
  pub page : goal ≡ shapes_page lights b.w (drawings_from f records) l
  pub counts : (p : ℕ) → shapes_count b.w b.h (own_of p all) ≡ get_or ts p 0 + shapes_count b.w b.h (own_of p (drawings_from f records))
  pub lawful : AllLawful b.version (drawings_from f records) → AllLawful b.version all
  pub room : b.w * b.h ≤ length l
  pub eight : length ts ≡ 8
  pub few : (p : ℕ) → get_or ts p 0 ≤ 1048576 * place

-- the whole list on the page l
abbrev pub RemainingOf : List ℕ → Basis → List ℕ → List ℕ → ℕ → Settings → List ℕ → List ℕ → Type 0
RemainingOf lights b list l = Remaining lights b list (list_drawings b list) (shapes_page lights b.w (list_drawings b list) l)

pub remaining_start : (lights : List ℕ) (b : Basis) (list l : List ℕ) → Drawable list b (length l) → RemainingOf lights b list l header_size (start b) l (replicate 8 0)
remaining_start lights b list l d =
    record {
      records = records_in (list_records b list);
      left = left-start b list d.walk;
      page = refl;
      counts = λ p. omega (arith, zeros 8 p);
      lawful = λ a. a;
      room = d.room;
      eight = refl;
      few = λ p. omega (arith, zeros 8 p);
    }

module _ {lights : List ℕ} {b : Basis} {place : ℕ} {list goal l ts : List ℕ} {all : List Drawing} {f : Settings} (p : Remaining lights b list all goal place f l ts) where
  -- the player in force has a count
  pub player-below : f.player < 8
  player-below = omega (arith, p.left.player, players_most b.version)

  player-inside : f.player < length ts
  player-inside = omega (arith, p.eight, player-below)

  -- the end record: all is drawn
  pub remaining_end : get_or list place 0 ≡ 0 → (l ≡ goal) × (ts ≡ player_counts (shapes_count b.w b.h) all) × AllLawful b.version all
  unfolding AllLawful drawings_from drawing_of shapes_page total own_of
  remaining_end z =
      let e = left_end p.left z in
      let page : goal ≡ l = p.page ∙ ap (λ (rs : List Record). shapes_page lights b.w (drawings_from f rs) l) e in
      let count : (q : ℕ) → shapes_count b.w b.h (own_of q all) ≡ get_or ts q 0 + 0
      = λ q. p.counts q ∙ ap (λ (rs : List Record). get_or ts q 0 + shapes_count b.w b.h (own_of q (drawings_from f rs))) e in (
        sym page,
        players_are (λ q. shapes_count b.w b.h (own_of q all)) ts p.eight (λ q. omega (arith, count q)),
        p.lawful (subst (λ (rs : List Record). AllLawful b.version (drawings_from f rs)) (sym e) tt),
      )

  module _ {r : Record} (found : r ≡ record_at (take (length list - place) (drop place list))) where
    pub lawful_record : Lawful (view_of b.w b.h f.clip) (length l) × (record_refusal b r ≡ 0)
    lawful_record = (view_lawful b.w b.h (length l) f.clip (basis-size b (left-basis p.left)) p.room p.left.clip, left-lawful p.left found)

    -- it is no end: it is drawn, and the rest is left
    module _ (some : get_or list place 0 ≡ 0 → ⊥) {m : List ℕ} {k after : ℕ} {g : Settings}
        (drawn : ShapesDrawn lights b (drawing_of f r) l m k) (most : k ≤ 1048576) (byte : f.level ≤ 255)
        (next : g ≡ in_force f r) (past : after ≡ place + kind_size (get_or list place 0)) where
      abbrev then_left : Step p.left found some next past
      then_left = left-next p.left found some next past

      abbrev rest : List Record
      rest = then_left.records_left

      -- the counts with that of the player in force raised
      abbrev more : List ℕ
      more = set ts f.player (get_or ts f.player 0 + k)

      page-left : goal ≡ shapes_page lights b.w (drawings_from g rest) m
      page-left =
          p.page
          ∙ ap (λ ds. shapes_page lights b.w ds l) then_left.drawings
          ∙ page_then lights b.w (drawing_of f r) (drawings_from g rest) l
          ∙ ap (shapes_page lights b.w (drawings_from g rest)) (sym drawn.page)

      -- a player's own drawings of what is left: those of the record, then the rest
      own_then : (q : ℕ) → shapes_count b.w b.h (own_of q (drawings_from f p.records))
          ≡ cond (eqb f.player q) k 0 + shapes_count b.w b.h (own_of q (drawings_from g rest))
      own_then q =
          let one = own_record (drawing_count b.w b.h) f r q ∙ ap (λ (n : ℕ). cond (eqb f.player q) n 0) (sym drawn.count) in
          ap (λ ds. shapes_count b.w b.h (own_of q ds)) then_left.drawings
          ∙ ap (shapes_count b.w b.h) (own_++ q (drawing_of f r) (drawings_from g rest))
          ∙ total_++ (drawing_count b.w b.h) (own_of q (drawing_of f r)) (own_of q (drawings_from g rest))
          ∙ ap (λ (n : ℕ). n + shapes_count b.w b.h (own_of q (drawings_from g rest))) one

      counts-left : (q : ℕ) → shapes_count b.w b.h (own_of q all) ≡ get_or more q 0 + shapes_count b.w b.h (own_of q (drawings_from g rest))
      counts-left q = omega (arith, p.counts q, own_then q, raised ts f.player k q player-inside)

      lawful-left : AllLawful b.version (drawings_from g rest) → AllLawful b.version all
      lawful-left a =
          p.lawful (subst (AllLawful b.version) (sym then_left.drawings) (lawful_then b f r (drawings_from g rest) (left-lawful p.left found) byte p.left.player a))

      few-left : (q : ℕ) → get_or more q 0 ≤ 1048576 * after
      few-left q =
          let i = left-inside p.left in
          let add : cond (eqb f.player q) k 0 ≤ 1048576 = cond_le (eqb f.player q) most (omega arith) in
          omega (arith, p.few q, raised ts f.player k q player-inside)

      pub remaining_next : Remaining lights b list all goal after g m more
      remaining_next =
          let room = p.room in
          let same = ap length drawn.page ∙ length-shapes lights b.w (drawing_of f r) l in
          record {
            records = rest;
            left = then_left.left;
            page = page-left;
            counts = counts-left;
            lawful = lawful-left;
            room = omega arith;
            eight = simp length-set p.eight;
            few = few-left;
          }

-- A walk over an accepted list that squeezes it record by record.
use Rattle.std.proofs.Common.{◌≡◌, refl, sym, ◌∙◌, ap, subst, Bool, true, false, true≢false, ⊎_elim, List, [], ◌∷◌, ◌++◌, append_assoc, ℕ, ◌+◌, ◌-◌, ◌≤◌, ◌<◌, arith, length, get_or, take, drop, length-append, length-drop}
use Rattle.numbers.proofs.Order.{eq_or_ne}
use Rattle.shapes.specs.declared.Basis.{Basis}
use Rattle.shapes.specs.declared.Setting.{Setting}
use Rattle.shapes.specs.declared.Shape.{Shape}
use Rattle.shapes.specs.declared.Record.{Record}
use Rattle.shapes.specs.declared.Record.TheVariants.{End as end, Setting as setting, Shape as shape}
use Rattle.format.specs.Format.{header_size, kind_size, kind_of, fields_of, kind_at, decoded, record_at, record_bytes}
use Rattle.settings.specs.Settings.{start, in_force}
use Rattle.settings.specs.Drawing.{Drawing, drawing_of, drawings_from}
use Rattle.lists.specs.inner.Walk.{records_in, list_records, Walkable}
use Rattle.settings.specs.declared.Settings.{Settings}
use Rattle.format.proofs.Bytes.{record_size_lem, each-kind, kind-found}
use Rattle.lists.proofs.Accepted.{Holds, last, more}
use Rattle.lists.proofs.Left.{Left, left-start, left-inside, left_stands, left-kind, left-found, left_end, left-next}
use Rattle.lists.specs.List.{AllBytes}
use Rattle.lists.proofs.WriteBack.{drop-bytes, record_again}
use Rattle.squeezed.specs.Squeeze.{changes, kept_from, all_bytes}
use Rattle.squeezed.specs.inner.Size.{size_of}
use Rattle.squeeze.specs.inner.Walk.{kept_of, is_setting}
use Rattle.squeeze.specs.inner.Target.{Took, Joins}
use Rattle.squeeze.proofs.Took.{took_none, took_is, took_then}
use Rattle.squeezed.proofs.Sizes.{all_append}

-- ---- one record

-- a record, and whether its kind is that of a setting
data Sort : Bool → Record → Type 0 where
  of_end : Sort false end
  of_setting : (g : Setting) → Sort true (setting g)
  of_shape : (s : Shape) → Sort false (shape s)

sort_found : (s : List ℕ) (k : ℕ) → 0 < kind_size k → Sort (is_setting k) (decoded k s)
unfolding decoded is_setting
sort_found s =
    each-kind (λ k. Sort (is_setting k) (decoded k s))
    (((((((((((tt, of_end), of_setting _), of_setting _), of_shape _), of_shape _), of_shape _), of_shape _), of_setting _), of_shape _), of_shape _), of_shape _)

module _ (b f : Settings) (ds : List Drawing) where
  -- a setting adds nothing
  kept_setting : {t : Bool} {r : Record} → Sort t r → t ≡ true → kept_from b (drawing_of f r ++ ds) ≡ kept_from b ds
  unfolding drawing_of
  kept_setting of_end e = refl
  kept_setting (of_setting g) e = refl
  kept_setting (of_shape s) e = absurd (true≢false (sym e))

  -- a shape adds the settings that differ, and its own bytes
  kept-shape : {t : Bool} {r : Record} → Sort t r → t ≡ false → (kind_of r ≡ 0 → ⊥)
      → all_bytes (kept_from b (drawing_of f r ++ ds)) ≡ all_bytes (changes b f) ++ record_bytes r ++ all_bytes (kept_from f ds)
  unfolding drawing_of kept_from all_bytes kind_of
  kept-shape of_end e some = absurd (some refl)
  kept-shape (of_setting g) e some = absurd (true≢false e)
  kept-shape (of_shape s) e some =
      all_append (changes b f) (shape s ∷ kept_from f ds)
      ∙ sym (append_assoc (all_bytes (changes b f)) (record_bytes (shape s)) (all_bytes (kept_from f ds)))

-- and sets nothing
shape_sets : (f : Settings) {t : Bool} {r : Record} → Sort t r → t ≡ false → f ≡ in_force f r
unfolding in_force
shape_sets f of_end e = refl
shape_sets f (of_setting g) e = absurd (true≢false e)
shape_sets f (of_shape s) e = refl

-- there are eleven kinds
pub kind-below : (k : ℕ) → 0 < kind_size k → k < 11
kind-below =
    each-kind (λ k. k < 11)
    (((((((((((tt, omega arith), omega arith), omega arith), omega arith), omega arith), omega arith), omega arith), omega arith), omega arith), omega arith), omega arith)

-- the end record has one byte, and is the last; every other has two at least
long-kind : (k : ℕ) → 0 < kind_size k → (k ≡ 0 → ⊥) → 2 ≤ kind_size k
unfolding kind_size
long-kind =
    each-kind (λ k. (k ≡ 0 → ⊥) → 2 ≤ kind_size k)
    (((((((((((tt, λ n. absurd (n refl)), λ n. omega arith), λ n. omega arith), λ n. omega arith), λ n. omega arith), λ n. omega arith), λ n. omega arith), λ n. omega arith), λ n. omega arith), λ n. omega arith), λ n. omega arith)

end-alone : {b : Basis} {s : List ℕ} {rs : List Record} → Holds b s rs → kind_at s ≡ 0 → length s ≡ 1
unfolding kind_size
end-alone (last none k all) e = all ∙ ap kind_size e
end-alone (more none k p) e = absurd (k e)

-- ---- the walk

-- the kind and the record at a place, as they are read
abbrev pub kind_in : List ℕ → ℕ → ℕ
kind_in list place = get_or list place 0

abbrev pub record_in : List ℕ → ℕ → Record
record_in list place = record_at (take (length list - place) (drop place list))

-- at a place, where the settings f are in force and before were at the shape before:
-- the bytes done, and those of what is kept of the records that are left, make goal
pub record Squeezing (b : Basis) (list goal : List ℕ) (place : ℕ) (before f : Settings) (done : List ℕ) : Type 0 where
  pub records : List Record
  pub left : Left b list place f records
  pub same : goal ≡ done ++ all_bytes (kept_from before (drawings_from f records))

squeezing_start : (b : Basis) (list : List ℕ) → Walkable list b → Squeezing b list (all_bytes (kept_of b list)) header_size (start b) (start b) []
squeezing_start b list d = record { records = records_in (list_records b list); left = left-start b list d; same = refl }

module _ {b : Basis} {place : ℕ} {list goal done : List ℕ} {before f : Settings} (p : Squeezing b list goal place before f done) where
  abbrev here : List ℕ
  here = drop place list

  abbrev kind : ℕ
  kind = kind_in list place

  kind_here : kind_at here ≡ kind
  kind_here = left-kind p.left

  -- behind a byte there is another: the record is no end
  pub squeezing_more : place + 1 < length list → kind ≡ 0 → ⊥
  squeezing_more another z = omega (arith, end-alone p.left.holds (kind_here ∙ z), length-drop place list)

  -- else the end record alone is left
  squeezing_end : length list ≤ place + 1 → goal ≡ done ++ 0 ∷ []
  unfolding kept_from drawings_from drawing_of all_bytes kind_of fields_of
  squeezing_end none =
      p.same ∙ ap (λ (rs : List Record). done ++ all_bytes (kept_from before (drawings_from f rs))) (left_end p.left ended)
    where
      ended : kind ≡ 0
      ended = ⊎_elim (λ z. z) (λ z. absurd (let i = left-inside p.left in omega (arith, long-kind kind i.2 z))) (eq_or_ne kind 0)

  module _ (some : kind ≡ 0 → ⊥) {r : Record} (found : r ≡ record_in list place) where
    found_here : r ≡ record_at here
    found_here = left-found p.left found

    kind_of_lem : kind_of r ≡ kind
    kind_of_lem = ap kind_of found_here ∙ kind-found (kind_at here) here (left_stands p.left).known ∙ kind_here

    sort_here : Sort (is_setting kind) r
    sort_here =
        subst (λ (k : ℕ). Sort (is_setting k) r) kind_here
        (subst (Sort (is_setting (kind_at here))) (sym found_here) (sort_found here (kind_at here) (left_stands p.left).known))

    -- the record has as many bytes as its kind, and they are those that were read
    squeezing_size : kind_size kind ≡ length (record_bytes r)
    squeezing_size = ap kind_size (sym kind_of_lem) ∙ record_size_lem r

    squeezing_bytes : AllBytes list → (n : ℕ) → n ≡ kind_size kind → take n here ≡ record_bytes r
    squeezing_bytes bytes n e =
        ap (λ (k : ℕ). take k here) (e ∙ ap kind_size (sym kind_here))
        ∙ sym (record_again here (drop-bytes place list bytes) (left_stands p.left))
        ∙ ap record_bytes (sym found_here)

    module _ {after : ℕ} (past : after ≡ place + kind_size kind) where
      -- behind a setting
      squeezing_setting : is_setting kind ≡ true → {g : Settings} → g ≡ in_force f r → Squeezing b list goal after before g done
      squeezing_setting e next =
          let step = left-next p.left found some next past in
          record {
            records = step.records_left;
            left = step.left;
            same = p.same ∙ ap (λ (rs : List Record). done ++ all_bytes rs) (ap (kept_from before) step.drawings ∙ kept_setting before f _ sort_here e);
          }

      -- behind a shape
      module _ (e : is_setting kind ≡ false) where
        abbrev adds : List ℕ
        adds = all_bytes (changes before f) ++ record_bytes r

        abbrev rest : List Record
        rest = (left-next p.left found some (shape_sets f sort_here e) past).records_left

        -- goal = done ++ what the shape adds ++ what is kept of the rest
        goal_then : goal ≡ done ++ adds ++ all_bytes (kept_from f (drawings_from f rest))
        goal_then =
            p.same
            ∙ ap (λ (ds : List Drawing). done ++ all_bytes (kept_from before ds)) (left-next p.left found some (shape_sets f sort_here e) past).drawings
            ∙ ap (λ (bs : List ℕ). done ++ bs) (kept-shape before f (drawings_from f rest) sort_here e (λ z. some (sym kind_of_lem ∙ z)))
            ∙ sym (append_assoc done adds (all_bytes (kept_from f (drawings_from f rest))))

        squeezing_shape : Squeezing b list goal after f f (done ++ adds)
        squeezing_shape =
            record { records = rest; left = (left-next p.left found some (shape_sets f sort_here e) past).left; same = goal_then }

        squeezing_room : length done + length adds ≤ length goal
        squeezing_room =
            omega (arith, ap length goal_then, length-append (done ++ adds) (all_bytes (kept_from f (drawings_from f rest))), length-append done adds)

-- ---- a target that takes it

-- so far the target s took the bytes done, and is now t
pub record Taking {S : Type 0} (end_of most_of : S → ℕ) (Wrote : S → List ℕ → S → Type 0) (s : S) (b : Basis) (list : List ℕ) (place : ℕ) (before f : Settings) (t : S) : Type 0 where
  pub done : List ℕ
  pub walk : Squeezing b list (all_bytes (kept_of b list)) place before f done
  pub took : Took end_of most_of Wrote s done t

module _ {S : Type 0} {end_of most_of : S → ℕ} {Wrote : S → List ℕ → S → Type 0} {s : S} {b : Basis} {list : List ℕ} where
  pub taking_start : Wrote s [] s → Walkable list b → Taking end_of most_of Wrote s b list header_size (start b) (start b) s
  taking_start none d = record { done = []; walk = squeezing_start b list d; took = took_none s none }

  module _ {place : ℕ} {before f : Settings} {t : S} (p : Taking end_of most_of Wrote s b list place before f t) where
    pub taking_setting : {r : Record} {after : ℕ} {g : Settings} → (kind_in list place ≡ 0 → ⊥) → r ≡ record_in list place → after ≡ place + kind_size (kind_in list place) → is_setting (kind_in list place) ≡ true → g ≡ in_force f r
        → Taking end_of most_of Wrote s b list after before g t
    taking_setting some found past e next = record { done = p.done; walk = squeezing_setting p.walk some found past e next; took = p.took }

    module _ (room : end_of s + size_of (kept_of b list) ≤ most_of s) where
      -- the end record, one byte
      pub taking_end-room : length list ≤ place + 1 → end_of t + 1 ≤ most_of t
      taking_end-room none = omega (arith, room, p.took.end, p.took.most, ap length (squeezing_end p.walk none), length-append p.done (0 ∷ []))

      pub taking_end : Joins end_of most_of Wrote → length list ≤ place + 1 → {u : S} → Took end_of most_of Wrote t (0 ∷ []) u
          → Took end_of most_of Wrote s (all_bytes (kept_of b list)) u
      taking_end joins none q =
          let goal = squeezing_end p.walk none in
          took_is (sym goal) (took_then joins (omega (arith, room, ap length goal)) p.took q)

      module _ {after : ℕ} (some : kind_in list place ≡ 0 → ⊥) (past : after ≡ place + kind_size (kind_in list place)) (e : is_setting (kind_in list place) ≡ false) (bytes : AllBytes list) where
        -- the bytes of the shape, as they stand in the list
        read : take (after - place) (drop place list) ≡ record_bytes (record_in list place)
        read = squeezing_bytes p.walk some refl bytes (after - place) (omega arith)

        pub taking_shape-room : end_of t + length (all_bytes (changes before f) ++ take (after - place) (drop place list)) ≤ most_of t
        taking_shape-room =
            let fits = squeezing_room p.walk some refl past e in
            let same = ap (λ (bs : List ℕ). length (all_bytes (changes before f) ++ bs)) read in
            omega (arith, room, p.took.end, p.took.most)

        pub taking_shape : Joins end_of most_of Wrote → {u : S} → Took end_of most_of Wrote t (all_bytes (changes before f) ++ take (after - place) (drop place list)) u
            → Taking end_of most_of Wrote s b list after f f u
        taking_shape joins q =
            let adds : List ℕ = all_bytes (changes before f) ++ record_bytes (record_in list place) in
            let fits = squeezing_room p.walk some refl past e in
            record {
              done = p.done ++ adds;
              walk = squeezing_shape p.walk some refl past e;
              took = took_then joins (omega (arith, room, length-append p.done adds)) p.took (took_is (ap (λ (bs : List ℕ). all_bytes (changes before f) ++ bs) read) q);
            }

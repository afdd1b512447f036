-- What is known of a record in which no refusal is found.
use Rattle.std.proofs.Common.{◌≡◌, refl, sym, ◌∙◌, ap, Bool, true, false, cond, List, [], ◌∷◌, ℕ, arith, ltb-false, ltb, eqb, length}
use Rattle.limits.specs.Limits.{first, tried, basis_refusal, refusal_within, radius_room, record_refusal}
use Rattle.limits.proofs.Limits.{clear, tried_clear, disc_lawful, ring_lawful}
use Rattle.shapes.specs.declared.Shape.{Shape}
use Rattle.shapes.specs.declared.Shape.TheVariants.{Line as line, Disc as disc, Ring as ring, Triangle as triangle}
use Rattle.shapes.specs.declared.Basis.{Basis}
use Rattle.shapes.specs.declared.Record.{Record}
use Rattle.shapes.specs.declared.Record.TheVariants.{End as end, Setting as setting, Shape as shape}
use Rattle.format.specs.Format.{off_kind, kind_at, size_at, record_at}
use Rattle.format.specs.inner.Record.{Whole, ShapeFits, RecordFits}
use Rattle.format.proofs.Bytes.{known-kind}
use Rattle.records.specs.Read.{read_refusal}
use Rattle.records.specs.inner.Front.{opening_refusal}

-- the reader's refusals by those of the basis, of what is tried before the fields are read, and of the record
pub read_refusal_by : (b : Basis) (s : List ℕ)
    → read_refusal b s ≡ first (tried (basis_refusal b) ∷ tried (opening_refusal b s) ∷ tried (record_refusal b (record_at s)) ∷ [])
unfolding read_refusal opening_refusal
read_refusal_by b s =
    ap (λ (f : ℕ). first (tried (basis_refusal b) ∷ (true, f) ∷ []))
    (by_tests (eqb (length s) 0) (off_kind b.version (kind_at s)) (ltb (length s) (size_at s)) (first (tried (record_refusal b (record_at s)) ∷ [])))
  where
    by_tests : (none off short : Bool) (f : ℕ)
        → cond none 5 (cond off 4 (cond short 5 f)) ≡ cond (ltb 0 (cond none 5 (cond off 4 (cond short 5 0)))) (cond none 5 (cond off 4 (cond short 5 0))) f
    by_tests true off short f = refl
    by_tests false true short f = refl
    by_tests false false true f = refl
    by_tests false false false f = refl

opened : (b : Basis) (s : List ℕ) → opening_refusal b s ≡ 0 → (off_kind b.version (kind_at s) ≡ false) × Whole s
unfolding opening_refusal
opened b s e =
    let some = clear (eqb (length s) 0) 4 _ e in
    let kind = clear (off_kind b.version (kind_at s)) 3 _ some.1 in
    let fits = clear (ltb (length s) (size_at s)) 4 0 kind.1 in
    (kind.0, record { known = known-kind b.version (kind_at s) kind.0; fits = ltb-false _ _ fits.0 })

pub opening_whole : (b : Basis) (s : List ℕ) → opening_refusal b s ≡ 0 → Whole s
opening_whole b s e = (opened b s e).1

pub record Readable (b : Basis) (s : List ℕ) : Type 0 where
  pub basis : basis_refusal b ≡ 0
  pub kind : off_kind b.version (kind_at s) ≡ false
  pub whole : Whole s
  pub lawful : record_refusal b (record_at s) ≡ 0

pub readable : (b : Basis) (s : List ℕ) → read_refusal b s ≡ 0 → Readable b s
readable b s e =
    let basis = tried_clear (basis_refusal b) _ (sym (read_refusal_by b s) ∙ e) in
    let opening = tried_clear (opening_refusal b s) _ basis.1 in
    let lawful = tried_clear (record_refusal b (record_at s)) 0 opening.1 in
    let front = opened b s opening.0 in
    record { basis = basis.0; kind = front.0; whole = front.1; lawful = lawful.0 }

pub whole_read : (b : Basis) (s : List ℕ) → read_refusal b s ≡ 0 → Whole s
whole_read b s e = (readable b s e).whole

-- the radius and the width of a lawful record fit it
shape-fits : (s : Shape) → refusal_within (radius_room s) s ≡ 0 → ShapeFits s
unfolding ShapeFits
shape-fits (line l) e = tt
shape-fits (disc d) e = ((disc_lawful d e).most, omega arith)
shape-fits (ring g) e = let p = ring_lawful g e in (p.circle.most, p.most)
shape-fits (triangle t) e = tt

pub record_fits : (b : Basis) (r : Record) → record_refusal b r ≡ 0 → RecordFits r
unfolding record_refusal
record_fits b end e = tt
record_fits b (setting g) e = tt
record_fits b (shape s) e = shape-fits s e

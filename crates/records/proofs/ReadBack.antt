-- A record that is written reads back as the same record.
use Rattle.std.proofs.Common.{◌≡◌, refl, sym, ◌∙◌, ap, Bool, true, false, cond, List, [], ◌∷◌, ◌++◌, append_assoc, ℕ, ◌+◌, ◌/◌, ◌%◌, ◌≤◌, arith, le-ltb, ne_eqb, ℤ, length, take, drop, length-append, drop_at, length-take-le, Ok}
use Rattle.numbers.specs.Coordinate.{bits_of, signed_of, word_of}
use Rattle.numbers.proofs.Integer.{sfits_diff}
use Rattle.numbers.proofs.Coordinate.{InRange, signed_bits, word_bytes}
use Rattle.limits.specs.Limits.{basis_refusal, refusal_within, radius_room, record_refusal}
use Rattle.shapes.specs.declared.Line.{Line}
use Rattle.shapes.specs.declared.Disc.{Disc}
use Rattle.shapes.specs.declared.Ring.{Ring}
use Rattle.shapes.specs.declared.Triangle.{Triangle}
use Rattle.shapes.specs.declared.Shape.{Shape}
use Rattle.shapes.specs.declared.Shape.TheVariants.{Line as line, Disc as disc, Ring as ring, Triangle as triangle}
use Rattle.shapes.specs.declared.Setting.TheVariants.{Clip as clip, Level as level, Player as player}
use Rattle.shapes.specs.declared.Basis.{Basis}
use Rattle.shapes.specs.declared.Record.{Record}
use Rattle.shapes.specs.declared.Record.TheVariants.{End as end, Setting as setting, Shape as shape}
use Rattle.format.specs.Format.{off_kind, kind_of, fields_of, record_bytes, coordinates, line_at, size_at, decoded, record_at}
use Rattle.records.specs.Read.{read_refusal, reading_of, past_record}
use Rattle.records.specs.Write.{put_at, record_write_refusal, record_list}
use Rattle.records.specs.declared.write.Cursor.{Cursor}
use Rattle.format.proofs.Bytes.{record_size_lem}
use Rattle.limits.proofs.Limits.{LawfulLine, line_lawful, LawfulCircle, disc_lawful, ring_lawful}
use Rattle.limits.proofs.Triangles.{CornersIn, triangle_lawful}
use Rattle.records.proofs.Writes.{writable, record_done}

-- ---- a record from its own bytes, whatever bytes follow

coordinate_back : (z : ℤ) → InRange z → signed_of (word_of (bits_of z % 256) (bits_of z / 256)) ≡ z
coordinate_back z p =
    ap signed_of (word_bytes (bits_of z)) ∙ signed_bits z (sfits_diff p.diff (omega (arith, p.less)) (omega (arith, p.less)))

module _ (t : List ℕ) where
  line_back : (l : Line) → LawfulLine l → record_at (record_bytes (shape (line l)) ++ t) ≡ shape (line l)
  unfolding kind_of fields_of decoded
  line_back l p = of l.exact
    where
      fields : (kind : ℕ) (b : Bool) → line_at b (kind ∷ coordinates (l.x0 ∷ l.y0 ∷ l.x1 ∷ l.y1 ∷ []) ++ t) ≡ record { exact = b; x0 = l.x0; y0 = l.y0; x1 = l.x1; y1 = l.y1 }
      fields kind b =
          let at = coordinate_back in
          λ i. record { exact = b; x0 = at l.x0 p.x0_in i; y0 = at l.y0 p.y0_in i; x1 = at l.x1 p.x1_in i; y1 = at l.y1 p.y1_in i }

      of : (b : Bool) → record_at (cond b 3 4 ∷ coordinates (l.x0 ∷ l.y0 ∷ l.x1 ∷ l.y1 ∷ []) ++ t) ≡ shape
          (line (record { exact = b; x0 = l.x0; y0 = l.y0; x1 = l.x1; y1 = l.y1 }))
      of true = ap (λ (l : Line). shape (line l)) (fields 3 true)
      of false = ap (λ (l : Line). shape (line l)) (fields 4 false)

  disc_back : {m : ℕ} (d : Disc) → LawfulCircle m d.x d.y d.radius → record_at (record_bytes (shape (disc d)) ++ t) ≡ shape (disc d)
  unfolding kind_of fields_of decoded
  disc_back d p = of d.big
    where
      under : Bool → Record
      under big = shape (disc (record { x = d.x; y = d.y; radius = d.radius; big = big }))

      of : (big : Bool) → record_at (record_bytes (under big) ++ t) ≡ under big
      of true =
          let at = coordinate_back in
          λ i. shape (disc (record { x = at d.x p.x_in i; y = at d.y p.y_in i; radius = word_bytes d.radius i; big = true }))
      of false =
          let at = coordinate_back in
          λ i. shape (disc (record { x = at d.x p.x_in i; y = at d.y p.y_in i; radius = d.radius; big = false }))

  ring_back : {m : ℕ} (g : Ring) → LawfulCircle m g.x g.y g.radius → record_at (record_bytes (shape (ring g)) ++ t) ≡ shape (ring g)
  unfolding kind_of fields_of decoded
  ring_back g p = of g.big
    where
      under : Bool → Record
      under big = shape (ring (record { x = g.x; y = g.y; radius = g.radius; width = g.width; big = big }))

      of : (big : Bool) → record_at (record_bytes (under big) ++ t) ≡ under big
      of true =
          let at = coordinate_back in
          λ i. shape (ring (record { x = at g.x p.x_in i; y = at g.y p.y_in i; radius = word_bytes g.radius i; width = word_bytes g.width i; big = true }))
      of false =
          let at = coordinate_back in
          λ i. shape (ring (record { x = at g.x p.x_in i; y = at g.y p.y_in i; radius = g.radius; width = g.width; big = false }))

  triangle_back : (g : Triangle) → CornersIn g → record_at (record_bytes (shape (triangle g)) ++ t) ≡ shape (triangle g)
  unfolding kind_of fields_of decoded
  triangle_back g p =
      let at = coordinate_back in
      λ i. shape (triangle (record { x0 = at g.x0 p.x0_in i; y0 = at g.y0 p.y0_in i; x1 = at g.x1 p.x1_in i; y1 = at g.y1 p.y1_in i; x2 = at g.x2 p.x2_in i; y2 = at g.y2 p.y2_in i }))

  shape_back : (s : Shape) → refusal_within (radius_room s) s ≡ 0 → record_at (record_bytes (shape s) ++ t) ≡ shape s
  shape_back (line l) e = line_back l (line_lawful l e)
  shape_back (disc d) e = disc_back d (disc_lawful d e)
  shape_back (ring g) e = ring_back g (ring_lawful g e).circle
  shape_back (triangle g) e = triangle_back g (triangle_lawful g e).corners

  pub record_back : (b : Basis) (r : Record) → record_refusal b r ≡ 0 → record_at (record_bytes r ++ t) ≡ r
  unfolding kind_of fields_of decoded record_refusal
  record_back b end e = refl
  record_back b (setting (clip c)) e =
      λ i. setting (clip (record { x0 = word_bytes c.x0 i; y0 = word_bytes c.y0 i; x1 = word_bytes c.x1 i; y1 = word_bytes c.y1 i }))
  record_back b (setting (level v)) e = refl
  record_back b (setting (player p)) e = refl
  record_back b (shape s) e = shape_back s e

  -- and where its version has its kind, it is read without a refusal
  module _ (b : Basis) (r : Record) (basis : basis_refusal b ≡ 0) (kind : off_kind b.version (kind_of r) ≡ false) (lawful : record_refusal b r ≡ 0) where
    pub no_refusal : read_refusal b (record_bytes r ++ t) ≡ 0
    unfolding read_refusal
    no_refusal =
        let size = record_size_lem r in
        let long = length-append (record_bytes r) t in
        let s : List ℕ = record_bytes r ++ t in
        let fits = le-ltb (length s) (size_at s) (omega arith) in
        simp (basis, ne_eqb (length s) 0 (λ e. omega arith), kind, fits, ap (record_refusal b) (record_back b r lawful) ∙ lawful)

    pub read_bytes : reading_of b (record_bytes r ++ t) ≡ Ok r
    unfolding reading_of
    read_bytes = simp no_refusal (ap (λ (x : Record). Ok x) (record_back b r lawful))

    -- the bytes past it are handed back: drop (its size) (its bytes ++ t) = t
    pub past_bytes : past_record b (record_bytes r ++ t) ≡ t
    unfolding past_record
    past_bytes = simp no_refusal (drop_at (record_bytes r) t (size_at (record_bytes r ++ t)) (sym (record_size_lem r)))

-- ---- the bytes of a list from the place on

-- drop place (take place l ++ bs ++ rest) = bs ++ rest
drop_put : (l : List ℕ) (place : ℕ) (bs : List ℕ) → place ≤ length l → drop place (put_at place bs l) ≡ bs ++ drop (place + length bs) l
drop_put l place bs h =
    ap (drop place) (append_assoc (take place l) bs (drop (place + length bs) l))
    ∙ drop_at (take place l) (bs ++ drop (place + length bs) l) place (length-take-le place l h)

-- where the writer refuses nothing, the record is read at the place where it was written:
-- drop place (the list written) = its bytes ++ rest, and a record reads back from its bytes
module _ (l : List ℕ) (c : Cursor) (r : Record) (none : record_write_refusal (length l) c r ≡ 0) where
  after_place : drop c.place (record_list l c r) ≡ record_bytes r ++ drop (c.place + length (record_bytes r)) l
  after_place =
      let p = writable (length l) c r none in
      ap (drop c.place) (record_done l c r none).1 ∙ drop_put l c.place (record_bytes r) (omega (arith, p.room.inside))

  pub read_written : reading_of c.basis (drop c.place (record_list l c r)) ≡ Ok r
  read_written =
      let p = writable (length l) c r none in
      ap (reading_of c.basis) after_place ∙ read_bytes (drop (c.place + length (record_bytes r)) l) c.basis r p.basis p.kind p.lawful

  -- and the part past it is handed back: what stood behind it in the list
  pub past_written : past_record c.basis (drop c.place (record_list l c r)) ≡ drop (c.place + length (record_bytes r)) l
  past_written =
      let p = writable (length l) c r none in
      ap (past_record c.basis) after_place ∙ past_bytes (drop (c.place + length (record_bytes r)) l) c.basis r p.basis p.kind p.lawful

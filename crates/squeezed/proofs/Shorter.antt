-- What is kept of a list's records is no longer than these are.
use mathlib.Core.Path.{◌≡◌, sym, ◌∙◌, ap}
use mathlib.Core.List.{List, ◌∷◌}
use Prim.Native.Nat.{ℕ, ◌+◌, ◌≤◌}
use native.Mathlib.Omega.{arith}
use lib.Dec.{eqb}
use lib.ListN.{length, length-drop}
use Rattle.shapes.specs.declared.Basis.{Basis}
use Rattle.shapes.specs.declared.Setting.TheVariants.{Clip as clip, Level as level, Player as player}
use Rattle.shapes.specs.declared.Record.{Record}
use Rattle.shapes.specs.declared.Record.TheVariants.{End as end, Setting as setting, Shape as shape}
use Rattle.format.specs.Format.{header_size, kind_size, kind_at, size_at, record_at, record_bytes}
use Rattle.records.specs.Read.{read_refusal}
use Rattle.settings.specs.Settings.{start, in_force}
use Rattle.settings.specs.Drawing.{drawing_of, drawings_from}
use Rattle.lists.specs.inner.Walk.{list_drawings, Walkable}
use Rattle.settings.specs.declared.Settings.{Settings}
use Rattle.format.proofs.Bytes.{record_size_lem, kind-found}
use Rattle.records.proofs.Refusals.{readable}
use Rattle.lists.proofs.Accepted.{Holds, last as at_last, more as and-more}
use Rattle.lists.proofs.Left.{left-start}
use Rattle.squeezed.specs.Squeeze.{same_clip, changes, kept_from}
use Rattle.squeezed.specs.inner.Size.{size_of}
use Rattle.squeezed.proofs.Sizes.{size-append, size-more, size_one, change-few, size-changes, no_size}
use Rattle.squeezed.proofs.Lawful.{Lawful, last, more, holds_lawful}

-- ---- the bytes of an accepted list are as many as those of its records

size-found : (b : Basis) (s : List ℕ) → read_refusal b s ≡ 0 → size_at s ≡ length (record_bytes (record_at s))
size-found b s none = ap kind_size (sym (kind-found (kind_at s) s (readable b s none).whole.known)) ∙ record_size_lem (record_at s)

holds_length : {b : Basis} {s : List ℕ} {rs : List Record} → Holds b s rs → length s ≡ size_of rs
holds_length {b} (at_last {s} none k all) = omega (arith, size-found b s none, size_one (record_at s), all)
holds_length {b} (and-more {s} {rs} none k p) =
    let fits = (readable b s none).whole.fits in
    omega (arith, size-found b s none, size-more (record_at s) rs, holds_length p, length-drop (size_at s) s, fits)

-- ---- records where f is in force, b at the shape before

-- what is kept of them has no more bytes than they have, with the changes from b to f in front
abbrev Shorter : List Record → Type 0
Shorter rs = (b f : Settings) → size_of (kept_from b (drawings_from f rs)) ≤ size_of (changes b f) + size_of rs

-- a setting adds at most itself to the changes; a shape takes them, and behind it there are none
one_more : (r : Record) (rs : List Record) → Shorter rs → Shorter (r ∷ rs)
unfolding drawings_from drawing_of in_force kept_from
one_more end rs p b f = omega (arith, p b f, size-more end rs)
one_more (setting (clip c)) rs p b f =
    let g : Settings = record { clip = c; level = f.level; player = f.player } in
    omega (arith, p b g, size-more (setting (clip c)) rs, size-changes b f, size-changes b g, change-few (same_clip b.clip c) (clip c))
one_more (setting (level v)) rs p b f =
    let g : Settings = record { clip = f.clip; level = v; player = f.player } in
    omega (arith, p b g, size-more (setting (level v)) rs, size-changes b f, size-changes b g, change-few (eqb b.level v) (level v))
one_more (setting (player q)) rs p b f =
    let g : Settings = record { clip = f.clip; level = f.level; player = q } in
    omega (arith, p b g, size-more (setting (player q)) rs, size-changes b f, size-changes b g, change-few (eqb b.player q) (player q))
one_more (shape s) rs p b f =
    let ks : List Record = kept_from f (drawings_from f rs) in
    omega (arith, p f f, no_size f, size-more (shape s) rs, size-more (shape s) ks, size-append (changes b f) (shape s ∷ ks))

shorter : {b : Basis} {rs : List Record} → Lawful b rs → Shorter rs
unfolding drawings_from drawing_of kept_from
shorter last b f = omega arith
shorter (more {r} {rs} k a p) b f = one_more r rs (shorter p) b f

-- ---- a whole list

-- 10 + what is kept ≤ 10 + the changes from the start to the start, which are none, + its records = its length
pub kept-few : (s : List ℕ) (b : Basis) → Walkable s b → header_size + size_of (kept_from (start b) (list_drawings b s)) ≤ length s
kept-few s b d =
    let p = (left-start b s d).holds in
    omega (arith, shorter (holds_lawful p) (start b) (start b), no_size (start b), holds_length p, length-drop header_size s, d.least)

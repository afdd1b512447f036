-- The drawings of an accepted list of bytes are lawful.
use mathlib.Core.Bool.{false}
use mathlib.Core.List.{List, []}
use mathlib.Core.Path.{◌≡◌}
use Prim.Native.Nat.{ℕ, ◌≤◌, ◌<◌}
use native.Mathlib.Omega.{arith}
use lib.ListN.{drop}
use Rattle.shapes.specs.declared.Basis.{Basis}
use Rattle.shapes.specs.declared.Record.{Record}
use Rattle.format.specs.Format.{header_size, kind_size, off_kind, kind_of, decoded, header_at, basis_of, kind_at, size_at, record_at}
use Rattle.lists.specs.List.{accepted, page_records, AllBytes}
use Rattle.settings.specs.Drawing.{drawings, drawings_from}
use Rattle.settings.specs.Settings.{start, in_force}
use Rattle.lists.specs.inner.Walk.{players_in}
use Rattle.settings.specs.declared.Settings.{Settings}
use Rattle.lists.proofs.Accepted.{Holds, last, more, list_holds}
use Rattle.format.proofs.Bytes.{known-kind, each-kind, kind-found}
use Rattle.lists.proofs.InForce.{start-player, player-kept}
use Rattle.records.proofs.Refusals.{readable}
use Rattle.lists.proofs.WriteBack.{drop-bytes}
use Rattle.drawing.specs.inner.Walk.{AllLawful}
use Rattle.drawing.proofs.Records.{lawful_then}

-- a level that is read is a byte
level-kept : (f : Settings) (s : List ℕ) → AllBytes s → f.level ≤ 255 → (k : ℕ) → 0 < kind_size k → (in_force f (decoded k s)).level ≤ 255
unfolding decoded in_force
level-kept f s bytes byte =
    each-kind (λ k. (in_force f (decoded k s)).level ≤ 255) (((((((((((tt, byte), byte), omega (arith, bytes 1)), byte), byte), byte), byte), byte), byte), byte), byte)

drawings-lawful : (b : Basis) (f : Settings) (s : List ℕ) (rs : List Record) → Holds b s rs → AllBytes s → f.level ≤ 255 → f.player < players_in b.version
    → AllLawful b.version (drawings_from f rs)
unfolding drawings_from AllLawful
drawings-lawful b f s _ (last none k e) bytes byte player = lawful_then b f (record_at s) [] (readable b s none).lawful byte player tt
drawings-lawful b f s _ (more {rs = rs} none k h) bytes byte player =
    let d = readable b s none in
    let known = known-kind b.version (kind_at s) d.kind in
    let kind : off_kind b.version (kind_of (record_at s)) ≡ false = rw (kind-found (kind_at s) s known) d.kind in
    lawful_then b f (record_at s) (drawings_from (in_force f (record_at s)) rs) d.lawful byte player
    (drawings-lawful b (in_force f (record_at s)) (drop (size_at s) s) rs h (drop-bytes (size_at s) s bytes) (level-kept f s bytes byte (kind_at s) known)
    (player-kept b f (record_at s) kind d.lawful player))

start-level : (b : Basis) → (start b).level ≤ 255
unfolding start
start-level b = omega arith

-- for a page of n bytes in some lights
pub list_lawful : (lights s : List ℕ) (n : ℕ) (rs : List Record) → AllBytes s → page_records s n lights ≡ accepted rs
    → AllLawful (header_at s).version (drawings (basis_of (header_at s)) rs)
list_lawful lights s n rs bytes e =
    let b = basis_of (header_at s) in
    drawings-lawful b (start b) (drop header_size s) rs (list_holds _ s rs e) (drop-bytes header_size s bytes) (start-level b) (start-player b)

-- "Lists squeezed for storage": the records that a squeezed list has, and its bytes, by the header and the drawings of a list (R7.8).
use Rattle.std.specs.Prelude.{Bool, cond, ◌&&◌, List, [], ◌∷◌, ◌++◌, ℕ, ltb, eqb, length, drop, Result, Ok, Err}
use Rattle.shapes.specs.declared.Clip.{Clip}
use Rattle.shapes.specs.declared.Setting.{Setting}
use Rattle.shapes.specs.declared.Setting.TheVariants.{Clip as clip, Level as level, Player as player}
use Rattle.shapes.specs.declared.Record.{Record}
use Rattle.shapes.specs.declared.Record.TheVariants.{End as end, Setting as setting, Shape as shape}
use Rattle.format.specs.Format.{header_bytes, record_bytes, basis_of}
use Rattle.settings.specs.Settings.{start}
use Rattle.settings.specs.Drawing.{Drawing, drawings}
use Rattle.lists.specs.List.{Records, accepted, refused}
use Rattle.format.specs.declared.Header.{Header}
use Rattle.settings.specs.declared.Settings.{Settings}

-- ---- its records

unfoldable pub same_clip : Clip → Clip → Bool
same_clip a b = eqb a.x0 b.x0 && (eqb a.y0 b.y0 && (eqb a.x1 b.x1 && eqb a.y1 b.y1))

-- a setting is a record, or nothing where its value is the same
unfoldable pub change : Bool → Setting → List Record
change same g = cond same [] (setting g ∷ [])

-- the settings whose value in f differs from the one in b, in the order clip, level, player
unfoldable pub changes : Settings → Settings → List Record
changes b f =
    change (same_clip b.clip f.clip) (clip f.clip)
    ++ change (eqb b.level f.level) (level f.level)
    ++ change (eqb b.player f.player) (player f.player)

-- before each shape the settings that differ from those at the shape before, at the first from b; after the last shape the end record alone
unfoldable pub kept_from : Settings → List Drawing → List Record
kept_from b [] = end ∷ []
kept_from b (d ∷ ds) = changes b d.settings ++ shape d.shape ∷ kept_from d.settings ds

-- for the drawings of a list, from the start values on
abbrev pub kept : Header → List Drawing → List Record
kept d = kept_from (start (basis_of d))

-- ---- its bytes

-- the bytes of some records, one after the other
unfoldable pub all_bytes : List Record → List ℕ
all_bytes [] = []
all_bytes (r ∷ rs) = record_bytes r ++ all_bytes rs

-- a list of the header d and some records
unfoldable pub list_bytes : Header → List Record → List ℕ
list_bytes d rs = header_bytes d ++ all_bytes rs

abbrev pub squeezed : Header → List Drawing → List ℕ
squeezed d ds = list_bytes d (kept d ds)

-- ---- what squeezing a list with the header d into an output l answers and leaves

-- the length of the bytes bs, or 22 at place 0 where n bytes are too few for them
abbrev pub fitted : ℕ → List ℕ → Result ℕ (ℕ × ℕ)
fitted n bs = cond (ltb n (length bs)) (Err (22, 0)) (Ok (length bs))

-- the bytes bs, and behind them what l holds there; where they do not fit, l as it was
abbrev pub filled : List ℕ → List ℕ → List ℕ
filled l bs = cond (ltb (length l) (length bs)) l (bs ++ drop (length bs) l)

-- by the records of the list, or by its refusal, which comes before 22
unfoldable pub squeeze_answer : ℕ → Header → Records → Result ℕ (ℕ × ℕ)
squeeze_answer n d (accepted rs) = fitted n (squeezed d (drawings (basis_of d) rs))
squeeze_answer n d (refused f place) = Err (f, place)

unfoldable pub squeeze_output : List ℕ → Header → Records → List ℕ
squeeze_output l d (accepted rs) = filled l (squeezed d (drawings (basis_of d) rs))
squeeze_output l d (refused f place) = l

-- What trying a record tells: its refusal, or what it means for the ceiling of its list.
use Rattle.std.specs.Prelude.{ℕ, min, Result}
use Rattle.limits.specs.Limits.{record_refusal}
use Rattle.limits.specs.Refusal.{unless}
use Rattle.ceilings.specs.Ceiling.{shape_ceiling, clip_pixels}
use Rattle.shapes.specs.declared.Basis.{Basis}
use Rattle.shapes.specs.declared.Setting.TheVariants.{Clip as clip, Level as level, Player as player}
use Rattle.shapes.specs.declared.Record.{Record}
use Rattle.shapes.specs.declared.Record.TheVariants.{End as end, Setting as setting, Shape as shape}
use Rattle.ceilings.specs.declared.Counted.{Counted}

-- what is counted under a clip of so many pixels
abbrev pub counted : ℕ → ℕ → Counted
counted most pixels = record { ceiling = min most pixels; pixels = pixels }

abbrev pub tried_by : ℕ → ℕ → ℕ → Result Counted ℕ
tried_by refusal most pixels = unless refusal (counted most pixels)

-- what a record counts under a clip of any size
unfoldable pub record_counts : Record → ℕ
record_counts end = 0
record_counts (setting g) = 0
record_counts (shape s) = shape_ceiling s

-- the pixels of the clip in force behind a record, where the clip before it has so many
unfoldable pub pixels_after : ℕ → Record → ℕ
pixels_after pixels end = pixels
pixels_after pixels (setting (clip c)) = clip_pixels c
pixels_after pixels (setting (level v)) = pixels
pixels_after pixels (setting (player p)) = pixels
pixels_after pixels (shape s) = pixels

abbrev pub record_tried : Basis → ℕ → Record → Result Counted ℕ
record_tried b pixels r = tried_by (record_refusal b r) (record_counts r) (pixels_after pixels r)

-- What a record adds to the ceiling of its list, and that this is no more than a page has.
use Rattle.std.proofs.Common.{◌≡◌, refl, List, ◌∷◌, ◌+◌, ◌-◌, ◌≤◌, min, mul-le-mul, arith}
use Rattle.numbers.specs.Sum.{total}
use Rattle.numbers.proofs.Sum.{total_++}
use Rattle.limits.specs.Limits.{clip_refusal, basis_refusal}
use Rattle.ceilings.specs.Ceiling.{clip_pixels, ceiling_under}
use Rattle.ceilings.specs.inner.Tried.{record_counts, pixels_after}
use Rattle.limits.proofs.Limits.{size-lawful, clip-lawful, basis-size}
use Rattle.shapes.specs.declared.Basis.{Basis}
use Rattle.shapes.specs.declared.Record.{Record}
use Rattle.shapes.specs.declared.Setting.TheVariants.{Clip as clip, Level as level, Player as player}
use Rattle.shapes.specs.declared.Record.TheVariants.{End as end, Setting as setting, Shape as shape}
use Rattle.settings.specs.Settings.{in_force}
use Rattle.settings.specs.Drawing.{drawing_of, drawings_from}
use Rattle.settings.specs.Ceiling.{drawing_ceiling, ceiling}
use Rattle.settings.specs.declared.Settings.{Settings}

-- a record under the settings f: only a shape counts, and only a clip changes what those behind it count at most
pub record_counts_lem : (f : Settings) (r : Record) → min (record_counts r) (pixels_after (clip_pixels f.clip) r) ≡ ceiling (drawing_of f r)
unfolding record_counts pixels_after drawing_of total ceiling_under
record_counts_lem f end = omega arith
record_counts_lem f (setting (clip c)) = omega arith
record_counts_lem f (setting (level v)) = omega arith
record_counts_lem f (setting (player p)) = omega arith
record_counts_lem f (shape s) = omega arith

pub pixels_after_lem : (f : Settings) (r : Record) → pixels_after (clip_pixels f.clip) r ≡ clip_pixels (in_force f r).clip
unfolding pixels_after in_force
pixels_after_lem f end = refl
pixels_after_lem f (setting (clip c)) = refl
pixels_after_lem f (setting (level v)) = refl
pixels_after_lem f (setting (player p)) = refl
pixels_after_lem f (shape s) = refl

-- a record counts under the settings of those before it
pub ceiling_then : (f : Settings) (r : Record) (rs : List Record) → ceiling (drawings_from f (r ∷ rs)) ≡ ceiling (drawing_of f r) + ceiling (drawings_from (in_force f r) rs)
unfolding drawings_from
ceiling_then f r rs = total_++ drawing_ceiling (drawing_of f r) (drawings_from (in_force f r) rs)

-- a record counts no more than the pixels of the clip in force
pub record_within : (f : Settings) (r : Record) → ceiling (drawing_of f r) ≤ clip_pixels f.clip
unfolding drawing_of total ceiling_under
record_within f end = omega arith
record_within f (setting g) = omega arith
record_within f (shape s) = omega arith

-- nor than any page has
pub record_few : (b : Basis) (f : Settings) (r : Record) → basis_refusal b ≡ 0 → clip_refusal b.w b.h f.clip ≡ 0 → ceiling (drawing_of f r) ≤ 1048576
unfolding clip_pixels
record_few b f r e z =
    let page = size-lawful b.w b.h (basis-size b e) in
    let c = clip-lawful b.w b.h f.clip z in
    omega (
      arith,
      record_within f r,
      mul-le-mul {n₁ = f.clip.x1 - f.clip.x0} {m₁ = f.clip.y1 - f.clip.y0} {n₂ = 1024} {m₂ = 1024} (omega (arith, page.w-most, c.x-most))
          (omega (arith, page.h-most, c.y-most)),
    )

-- The settings in force (R7.4).
use Rattle.shapes.specs.declared.Basis.{Basis}
use Rattle.shapes.specs.declared.Setting.TheVariants.{Clip as clip, Level as level, Player as player}
use Rattle.shapes.specs.declared.Record.{Record}
use Rattle.shapes.specs.declared.Record.TheVariants.{End as end, Setting as setting, Shape as shape}
use Rattle.settings.specs.declared.Settings.{Settings}

-- the clip starts as the whole page, the level as 255, the player as 0
unfoldable pub start : Basis → Settings
start b = record { clip = record { x0 = 0; y0 = 0; x1 = b.w; y1 = b.h }; level = 255; player = 0 }

-- a setting holds until the next of its kind
unfoldable pub in_force : Settings → Record → Settings
in_force f end = f
in_force f (setting (clip c)) = record { clip = c; level = f.level; player = f.player }
in_force f (setting (level v)) = record { clip = f.clip; level = v; player = f.player }
in_force f (setting (player p)) = record { clip = f.clip; level = f.level; player = p }
in_force f (shape s) = f

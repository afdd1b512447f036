-- The drawings of a list: its shapes, each with the settings in force (R7.5).
use Rattle.std.specs.Prelude.{List, [], ◌∷◌, ◌++◌}
use Rattle.shapes.specs.declared.Basis.{Basis}
use Rattle.shapes.specs.declared.Shape.{Shape}
use Rattle.shapes.specs.declared.Record.{Record}
use Rattle.shapes.specs.declared.Record.TheVariants.{End as end, Setting as setting, Shape as shape}
use Rattle.settings.specs.Settings.{start, in_force}
use Rattle.settings.specs.declared.Settings.{Settings}

-- a shape with the settings in force
pub record Drawing : Type 0 where
  pub settings : Settings
  pub shape : Shape

unfoldable pub drawing_of : Settings → Record → List Drawing
drawing_of f end = []
drawing_of f (setting g) = []
drawing_of f (shape s) = record { settings = f; shape = s } ∷ []

-- the drawings of some records, in order
unfoldable pub drawings_from : Settings → List Record → List Drawing
drawings_from f [] = []
drawings_from f (r ∷ rs) = drawing_of f r ++ drawings_from (in_force f r) rs

-- the drawings of a list's records
abbrev pub drawings : Basis → List Record → List Drawing
drawings b = drawings_from (start b)

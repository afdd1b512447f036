-- The size of some records.
use Rattle.std.specs.Prelude.{List, ℕ, length}
use Rattle.shapes.specs.declared.Record.{Record}
use Rattle.squeezed.specs.Squeeze.{all_bytes}

-- how many bytes some records have
abbrev pub size_of : List Record → ℕ
size_of rs = length (all_bytes rs)

-- What is said of a table of examples.
use Rattle.std.specs.Prelude.{◌≡◌, List, map}
use Rattle.meaning.specs.Examples.Row.{Row, got}

-- every row shows what it should
abbrev pub Hold : List Row → Type 0
Hold rows = map got rows ≡ map (λ (w : Row). w.want) rows

-- The shelf of four drives again: all four blocks of drive 1 are rebuilt.
use Rattle.std.specs.Prelude.{[], ◌∷◌}
use Rattle.drives.specs.Table.{to}
use Rattle.callers.specs.Lists.{source}
use Rattle.divided.specs.InParts.{Sent, rebuilding}

-- one REBUILD over all three drives
abbrev pub whole : Sent
whole = rebuilding (to 1) 0 0xFFFFFFFF 0 (source 4 0 ∷ source 2 0 ∷ source 3 0 ∷ []) [] []

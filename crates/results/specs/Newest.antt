-- XDREAD's answer, as the search over the slots has it and as the list by age has it.
use Prim.Native.Nat.{ℕ}
use Rattle.std.specs.Prelude.{Bool, eqb}
use mathlib.Core.List.{List, [], ◌∷◌}
use Rattle.folds.specs.Every.{every}
use Rattle.geometry.specs.declared.Geometry.{Geometry}
use Rattle.slots.specs.Record.{slot_of}
use Rattle.slots.specs.Find.{wanted}
use Rattle.results.specs.Results.{Result}

-- ---- over an image

-- slot i is wanted
abbrev pub wanted_at : List ℕ → Geometry → ℕ → ℕ → ℕ → Bool
wanted_at m g drive block i = wanted drive block (slot_of m g i)

-- a result on a drive with a block number
abbrev pub answers : ℕ → ℕ → Result → Bool
answers drive block r = every (eqb r.drive drive ∷ eqb r.block block ∷ [])

-- What every call keeps: the unread lines are the retained results, and a row's sum and what is owed, together, stay.
use Rattle.std.specs.Prelude.{ℕ, ◌<◌, ◌≡◌, List}
use Rattle.octets.specs.Xor.{◌⊻◌}
use Rattle.geometry.specs.declared.Geometry.{Geometry}
use Rattle.results.specs.Results.{results}
use Rattle.sums.specs.Row.{row_sum}
use Rattle.parity.specs.Ledger.{Line}
use Rattle.parity.specs.Owed.{owed}
use Rattle.parity.specs.Waiting.{waiting}

-- the unread lines of ledger fs are the retained results of image t, newest first
abbrev pub Tallies : Geometry → List ℕ → List Line → Type 0
Tallies g t fs = waiting fs ≡ results t g

-- sum and what is owed, together
abbrev pub SumKept : Geometry → List ℕ → List Line → List ℕ → List Line → Type 0
SumKept g m es t fs = (r : ℕ) → r < g.b → row_sum t g r ⊻ owed g r fs ≡ row_sum m g r ⊻ owed g r es

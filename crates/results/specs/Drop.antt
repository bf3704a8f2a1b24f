-- The results that stay where all results of a drive go.
use Rattle.std.specs.Prelude.{ℕ, Bool}
use Rattle.std.proofs.Math.Bool.{not}
use Rattle.std.proofs.Math.Dec.{eqb}
use Rattle.results.specs.Results.{Result}

-- a result of another drive
abbrev pub of_other : ℕ → Result → Bool
of_other drive r = not (eqb r.drive drive)

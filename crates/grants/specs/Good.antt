-- The checks by which GOOD is answered without an act: 6 and 7.
use Rattle.std.specs.Prelude.{ℕ, Bool, true, cond, not, List, map, eqb}
use Rattle.folds.specs.Every.{every}
use Rattle.rules.specs.Rule.{rule}
use Rattle.sense.specs.Answers.{number_of}
use Rattle.meaning.specs.Checks.{Check}

abbrev idle_check : ℕ → Bool
idle_check n = cond (eqb n 6) true (eqb n 7)

-- a check with answer GOOD is check 6 or 7, or does not apply
abbrev pub fine : Check → Bool
fine (rule n w b a) = cond (eqb (number_of a) 0) (cond (idle_check n) true (not b)) true

unfoldable pub all_fine : List Check → Bool
all_fine qs = every (map fine qs)

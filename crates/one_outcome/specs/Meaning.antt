-- The contract of each public function of `meaning` allows one outcome only.
use Rattle.meaning.proofs as meaning
use Rattle.one_outcome.specs.Only.{Only, equation}

pub at_once : Only meaning.Stop.at.Reads.Post (λ _ r _. r)
at_once = equation

pub check_once : Only meaning.check.Reads.Post (λ _ r _. r)
check_once = equation

pub accept_once : Only meaning.accept.Reads.Post (λ _ r _. r)
accept_once = equation

-- The contract of each public function of `sense` allows one outcome only.
use Rattle.sense.proofs as sense
use Rattle.one_outcome.specs.Only.{Only, equation}

pub sense_of_once : Only sense.sense_of.Reads.Post (λ _ r _. r)
sense_of_once = equation

pub number_once : Only sense.number.Reads.Post (λ _ r _. r)
number_once = equation

pub outcome_of_once : Only sense.outcome_of.Reads.Post (λ _ r _. r)
outcome_of_once = equation

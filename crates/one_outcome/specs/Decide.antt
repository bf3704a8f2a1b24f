-- The contract of each public function of `decide` allows one outcome only; `inner` has those of its private modules.
use Rattle.decide.proofs as decide
use Rattle.decide.proofs.Contracts as inner
use Rattle.one_outcome.specs.Only.{Only, equation}

pub each_once : Only inner.each (λ _ r _. r)
each_once = equation

pub called_once : Only decide.called.Reads.Post (λ _ r _. r)
called_once = equation

pub decide_once : Only decide.decide.Reads.Post (λ _ r _. r)
decide_once = equation

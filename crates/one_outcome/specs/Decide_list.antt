-- The contract of each public function of `decide_list` allows one outcome only; `inner` has those of its private modules.
use Rattle.decide_list.proofs as decide_list
use Rattle.decide_list.proofs.Contracts as inner
use Rattle.one_outcome.specs.Only.{Only, equation}

pub rebuild_once : Only decide_list.rebuild.Reads.Post (λ _ r _. r)
rebuild_once = equation

pub regenerate_once : Only decide_list.regenerate.Reads.Post (λ _ r _. r)
regenerate_once = equation

pub listed_once : Only inner.listed (λ _ r _. r)
listed_once = equation

pub placed_once : Only inner.placed (λ _ r _. r)
placed_once = equation

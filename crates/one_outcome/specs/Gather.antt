-- The contract of each public function of `gather` allows one outcome only; `inner` has those of its private modules.
use Rattle.gather.proofs as gather
use Rattle.gather.proofs.Contracts as inner
use Rattle.one_outcome.specs.Only.{Only, equation}

pub gather_once : Only gather.gather.Reads.Post (λ _ _ s. s.0.now)
gather_once = equation

pub in_turn_once : Only gather.in_turn.Reads.Post (λ _ _ s. s.0.now)
in_turn_once = equation

pub at_once_once : Only gather.at_once.Reads.Post (λ _ _ s. s.0.now)
at_once_once = equation

pub start_once : Only inner.start (λ _ r _. r)
start_once = equation

pub find_all_once : Only inner.find_all (λ _ _ s. s.1.0.now)
find_all_once = equation

pub seed_once : Only inner.seed (λ _ _ s. s.1.0.now)
seed_once = equation

pub xor_rest_once : Only inner.xor_rest (λ _ _ s. s.1.0.now)
xor_rest_once = equation

pub xor_int_once : Only inner.xor_int (λ _ _ s. s.0.now)
xor_int_once = equation

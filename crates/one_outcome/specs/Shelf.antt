-- The contract of each public function of `shelf` allows one outcome only.
use Rattle.shelf.proofs as shelf
use Rattle.one_outcome.specs.Only.{Only, ◌&◌, ◌and◌, from}

pub step_once : Only shelf.step.Reads.Post (λ _ r s. r & s.0.now & s.1.1.1.1.0.now)
step_once = from (λ _ _ _ _ p. p.outcome and p.image and p.room)

pub reset_once : Only shelf.reset.Reads.Post (λ _ r s. r & s.0.now)
reset_once = from (λ _ _ _ _ p. p.answer and p.image)

pub mark_once : Only shelf.mark.Reads.Post (λ _ r s. r & s.0.now)
mark_once = from (λ _ _ _ _ p. p.answer and p.image)

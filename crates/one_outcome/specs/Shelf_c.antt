-- The contract of each public function of `shelf_c` allows one outcome only.
use Rattle.shelf_c.proofs as shelf_c
use Rattle.one_outcome.specs.Only.{Only, ◌&◌, ◌and◌, both, from, equation}

pub shelf_step_once : Only shelf_c.shelf_step.Reads.Post (λ _ r s. r & s.0.now & s.1.1.1.1.0.now & s.1.1.1.1.1.0.now & s.1.1.1.1.1.1.0.now)
shelf_step_once = from (λ _ _ _ _ p. p.number and p.image and p.room and p.sense and p.count)

pub shelf_reset_once : Only shelf_c.shelf_reset.Reads.Post (λ _ r s. r & s.0.now)
shelf_reset_once = both

pub shelf_mark_once : Only shelf_c.shelf_mark.Reads.Post (λ _ r s. r & s.0.now)
shelf_mark_once = both

pub shelf_xor_once : Only shelf_c.shelf_xor.Reads.Post (λ _ _ s. s.0.now)
shelf_xor_once = equation

pub shelf_xor_four_once : Only shelf_c.shelf_xor_four.Reads.Post (λ _ _ s. s.0.now)
shelf_xor_four_once = equation

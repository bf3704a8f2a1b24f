-- The contract of each public function of `decide_two` allows one outcome only.
use Rattle.decide_two.proofs as decide_two
use Rattle.one_outcome.specs.Only.{Only, equation}

pub xdwrite_once : Only decide_two.xdwrite.Reads.Post (λ _ r _. r)
xdwrite_once = equation

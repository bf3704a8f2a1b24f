-- The contract of each public function of `image` allows one outcome only.
use Rattle.image.proofs as image
use Rattle.one_outcome.specs.Only.{Only, equation}
use Rattle.one_outcome.specs.Geometry.{answer_same}

pub valid_once : Only image.valid.Reads.Post (λ _ r _. r)
valid_once = equation

pub shelf_in_once : Only image.shelf_in.Reads.Post (λ _ r _. r)
shelf_in_once = record { same = λ κs a r r' s s' p q. answer_same _ a.0 _ r r' p q }

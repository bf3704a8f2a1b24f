-- The contract of each public function of `hex_words` allows one outcome only.
use Rattle.hex_words.specs.Words.{cut_at}
use Rattle.hex_words.proofs as hex_words
use Rattle.one_outcome.specs.Only.{Only, ◌&◌, ◌and◌, equation, from}

pub is_bytes_once : Only hex_words.is_bytes.Reads.Post (λ _ r _. r)
is_bytes_once = equation

pub is_number_once : Only hex_words.is_number.Reads.Post (λ _ r _. r)
is_number_once = equation

pub unhex_once : Only hex_words.unhex.Reads.Post (λ _ r s. r & s.1.0.now)
unhex_once = from (λ _ _ _ _ p. p.wrote.ends and p.wrote.leaves)

pub number_once : Only hex_words.number.Reads.Post (λ _ r _. r)
number_once = equation

pub cut_once : Only hex_words.cut.Reads.Post (λ _ r _. r)
cut_once = from (λ _ _ _ _ p. cut_at _ _ p)

pub same_once : Only hex_words.same.Reads.Post (λ _ r _. r)
same_once = equation

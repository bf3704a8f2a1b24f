-- The contract of each public function of `text` allows one outcome only.
use Rattle.text.proofs as text
use Rattle.one_outcome.specs.Only.{Only, ◌&◌, bounded, both, from}

pub put_word_once : Only text.Page.put_word.Reads.Post (λ _ _ s. s.0.now)
put_word_once = from (λ _ _ _ _ p. p.page)

pub put_decimal_once : Only text.Page.put_decimal.Reads.Post (λ _ _ s. s.0.now)
put_decimal_once = from (λ _ _ _ _ p. p.page)

pub decimal_len_once : Only text.decimal_len.Reads.Post (λ _ r _. r)
decimal_len_once = bounded

pub put_field_once : Only text.Page.put_field.Reads.Post (λ _ _ s. s.0.now)
put_field_once = from (λ _ _ _ _ p. p.page)

pub put_hexadecimal_once : Only text.Page.put_hexadecimal.Reads.Post (λ _ _ s. s.0.now)
put_hexadecimal_once = from (λ _ _ _ _ p. p.page)

pub put_fitted_once : Only text.put_fitted.Reads.Post (λ _ r s. r & s.0.now)
put_fitted_once = both

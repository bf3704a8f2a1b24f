-- The contract of each public function of `rowsum` allows one outcome only; `inner` has those of its private modules.
use Rattle.std.proofs.Common.{ap₂}
use Rattle.std.specs.Prelude.{ℕ}
use Rattle.rowsum.proofs as rowsum
use Rattle.rowsum.proofs.Contracts as inner
use Rattle.one_outcome.specs.Only.{Only, ◌&◌, ◌and◌, equation, bounded, both, from}

pub is_open_once : Only inner.is_open (λ _ r s. r & s.0.now)
is_open_once = both

pub head_length_once : Only inner.head_length (λ _ r _. r)
head_length_once = bounded

pub count_rows_once : Only inner.count_rows (λ _ r s. r & s.0.now)
count_rows_once = from (λ _ _ _ _ p. ap₂ (λ (n k : ℕ). record { rows = n; bytes = k }) p.0.rows_are p.0.bytes_are and p.1)

pub listing_once : Only rowsum.listing.Reads.Post (λ _ r s. r & s.1.0.now)
listing_once = both

pub printed_once : Only rowsum.printed.Reads.Post (λ _ r s. r & s.1.0.now)
printed_once = both

pub put_shelf_once : Only inner.put_shelf (λ _ r s. s.1.0.now & r & s.0.now)
put_shelf_once = from (λ _ _ _ _ p. p.0 and p.1.0 and p.1.1)

pub row_sum_once : Only inner.row_sum (λ _ _ s. s.0.now)
row_sum_once = equation

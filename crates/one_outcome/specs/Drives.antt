-- The contract of each public function of `drives` allows one outcome only.
use Rattle.std.proofs.Common.{ap}
use Rattle.std.specs.Prelude.{ℕ}
use Rattle.drives.proofs as drives
use Rattle.one_outcome.specs.Only.{Only, equation, from}

pub is_failed_once : Only drives.is_failed.Reads.Post (λ _ r _. r)
is_failed_once = equation

pub address_once : Only drives.address.Reads.Post (λ _ r _. r)
address_once = from (λ _ _ _ _ p. ap (λ (n : ℕ). record { 0 = n }) p.0)

pub find_target_once : Only drives.find_target.Reads.Post (λ _ r _. r)
find_target_once = equation

pub find_secondary_once : Only drives.find_secondary.Reads.Post (λ _ r _. r)
find_secondary_once = equation

pub find_source_once : Only drives.find_source.Reads.Post (λ _ r _. r)
find_source_once = equation

pub table_ok_once : Only drives.table_ok.Reads.Post (λ _ r _. r)
table_ok_once = equation

pub mark_once : Only drives.mark.Reads.Post (λ _ _ s. s.0.now)
mark_once = equation

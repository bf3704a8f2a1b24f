-- The contract of each public function of `list_entries` allows one outcome only.
use Rattle.list_entries.proofs as list_entries
use Rattle.one_outcome.specs.Only.{Only, equation}

pub is_at_once : Only list_entries.is_at.Reads.Post (λ _ r _. r)
is_at_once = equation

pub own_entry_once : Only list_entries.own_entry.Reads.Post (λ _ r _. r)
own_entry_once = equation

pub first_bad_once : Only list_entries.first_bad.Reads.Post (λ _ r _. r)
first_bad_once = equation

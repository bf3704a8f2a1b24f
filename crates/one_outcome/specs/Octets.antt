-- The contract of each public function of `octets` allows one outcome only.
use Rattle.std.specs.Prelude.{ℕ}
use Rattle.std.proofs.Common.{Fits, w64}
use Rattle.octets.proofs as octets
use Rattle.one_outcome.specs.Only.{Only, ◌&◌, ◌and◌, from, equation, bounded}

pub xor_into_once : Only octets.xor_into.Reads.Post (λ _ _ s. s.0.now)
xor_into_once = equation

pub xor_four_into_once : Only octets.xor_four_into.Reads.Post (λ _ _ s. s.0.now)
xor_four_into_once = equation

pub xor_over_once : Only octets.xor_over.Reads.Post (λ _ _ s. s.0.now)
xor_over_once = equation

pub xor_eight_over_once : Only octets.xor_eight_over.Reads.Post (λ _ _ s. s.0.now)
xor_eight_over_once = equation

pub xor_at_once : Only octets.xor_at.Reads.Post (λ _ _ s. s.0.now)
xor_at_once = equation

pub put_at_once : Only octets.put_at.Reads.Post (λ _ _ s. s.0.now)
put_at_once = equation

pub xor_from_once : Only octets.xor_from.Reads.Post (λ _ _ s. s.0.now)
xor_from_once = equation

pub xor_four_from_once : Only octets.xor_four_from.Reads.Post (λ _ _ s. s.0.now)
xor_four_from_once = equation

pub xor_both_once : Only octets.xor_both.Reads.Post (λ _ _ s. s.0.now)
xor_both_once = equation

pub copy_from_once : Only octets.copy_from.Reads.Post (λ _ _ s. s.0.now)
copy_from_once = equation

pub byte_once : Only octets.byte.Reads.Post (λ _ r _. r)
byte_once = bounded

pub keep_new_once : Only octets.keep_new.Reads.Post (λ _ r s. r & s.0.now)
keep_new_once = from (λ κs a r s p. p.0 and p.1)

pub copy_into_once : Only octets.copy_into.Reads.Post (λ _ _ s. s.0.now)
copy_into_once = equation

pub fill_zero_once : Only octets.fill_zero.Reads.Post (λ _ _ s. s.0.now)
fill_zero_once = equation

pub least_once : Only octets.least.Reads.Post (λ _ r _. r)
least_once = equation

pub be_once : (n : ℕ) (f : Fits w64 n) → Only (octets.be.Reads.Post n f) (λ _ r _. r)
be_once n f = bounded

pub to_be_once : (n : ℕ) (f : Fits w64 n) → Only (octets.to_be.Reads.Post n f) (λ _ r _. r)
to_be_once n f = equation

pub put_be_once : (n : ℕ) (f : Fits w64 n) → Only (octets.put_be.Reads.Post n f) (λ _ _ s. s.0.now)
put_be_once n f = equation

-- Lists whose elements are bytes. A slice of `u8` is one; a list of numbers need not be.
use Rattle.std.specs.Prelude.{◌≡◌, true, List, [], ◌∷◌, ℕ, zero, suc, ◌+◌, ◌<◌, get_or, take, drop, replicate, ltb}
use Rattle.std.proofs.Math.Bool.{and-eq-true_iff}
use Rattle.std.proofs.Common.{zero-lt-suc, get_or-drop, ltb-true}
use Rattle.std.proofs.Math.Pow.{are_bytes}
use Rattle.octets.specs.Part.{part}

-- every element is below 256 (past the end `get_or` gives 0)
abbrev pub Octets : List ℕ → Type 0
Octets xs = (i : ℕ) → get_or xs i 0 < 256

-- by the kit's test of all elements at once
pub small_octets : (xs : List ℕ) → are_bytes xs ≡ true → Octets xs
small_octets [] h i = zero-lt-suc 255
small_octets (x ∷ xs) h zero = ltb-true x 256 ((and-eq-true_iff (ltb x 256) (are_bytes xs)).0 h).0
small_octets (x ∷ xs) h (suc i) = small_octets xs ((and-eq-true_iff (ltb x 256) (are_bytes xs)).0 h).1 i

pub octets_tail : (x : ℕ) (xs : List ℕ) → Octets (x ∷ xs) → Octets xs
octets_tail x xs h i = h (suc i)

octets_take : (n : ℕ) (xs : List ℕ) → Octets xs → Octets (take n xs)
octets_take zero xs h i = zero-lt-suc 255
octets_take (suc n) [] h i = zero-lt-suc 255
octets_take (suc n) (x ∷ xs) h zero = h 0
octets_take (suc n) (x ∷ xs) h (suc i) = octets_take n xs (octets_tail x xs h) i

pub octets_part : (xs : List ℕ) (at n : ℕ) → Octets xs → Octets (part xs at n)
unfolding part
octets_part xs at n h = octets_take n (drop at xs) (λ i. rw get_or-drop (h (at + i)))

pub octets_zeros : (n : ℕ) → Octets (replicate n 0)
octets_zeros zero i = zero-lt-suc 255
octets_zeros (suc n) zero = zero-lt-suc 255
octets_zeros (suc n) (suc i) = octets_zeros n i

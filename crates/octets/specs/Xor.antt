-- The XOR of two lists of bytes. The shorter counts as filled up with zeros, so that every law but those on zeros holds with no
-- condition on lengths.
use Rattle.std.specs.Prelude.{◌≡◌, refl, ℕ, zero, suc, ◌≤◌, ◌<◌, max, List, [], ◌∷◌, length, get_or, take, drop, set, replicate}
use Rattle.std.proofs.Common.{sym, ap, ap₂, ◌∙◌, le_of_suc-le-suc, not-suc-le-zero, arith}
use Rattle.std.proofs.Math.Nat.{max-zero, zero-max, suc-max-suc}
use Rattle.std.specs.Int.Bits.{bit_xor, xor_self, xor_zero_r}
use Rattle.std.proofs.lemmas.Nat.{xor_comm}
use Rattle.octets.specs.Bits.{xor_assoc}
use Rattle.octets.specs.Part.{part}

-- byte by byte; what one list has past the other's end stays as it is
infixl 60 ◌⊻◌
unfoldable pub ◌⊻◌ : List ℕ → List ℕ → List ℕ
[] ⊻ ys = ys
(x ∷ xs) ⊻ [] = x ∷ xs
(x ∷ xs) ⊻ (y ∷ ys) = bit_xor x y ∷ (xs ⊻ ys)

pub xor_nil : (xs : List ℕ) → xs ⊻ [] ≡ xs
unfolding ◌⊻◌
xor_nil [] = refl
xor_nil (x ∷ xs) = refl

pub nil_xor : (xs : List ℕ) → [] ⊻ xs ≡ xs
unfolding ◌⊻◌
nil_xor xs = refl

pub length_xor : (xs ys : List ℕ) → length (xs ⊻ ys) ≡ max (length xs) (length ys)
unfolding ◌⊻◌
length_xor [] ys = sym (zero-max (length ys))
length_xor (x ∷ xs) [] = sym (max-zero (suc (length xs)))
length_xor (x ∷ xs) (y ∷ ys) = ap suc (length_xor xs ys) ∙ sym (suc-max-suc (length xs) (length ys))

pub length_xor_le : (xs ys : List ℕ) → length ys ≤ length xs → length (xs ⊻ ys) ≡ length xs
length_xor_le xs ys h = length_xor xs ys ∙ omega arith

pub get_or_xor : (xs ys : List ℕ) (i : ℕ) → get_or (xs ⊻ ys) i 0 ≡ bit_xor (get_or xs i 0) (get_or ys i 0)
unfolding ◌⊻◌
get_or_xor [] ys i = refl
get_or_xor (x ∷ xs) [] zero = sym (xor_zero_r x)
get_or_xor (x ∷ xs) [] (suc i) = sym (xor_zero_r (get_or xs i 0))
get_or_xor (x ∷ xs) (y ∷ ys) zero = refl
get_or_xor (x ∷ xs) (y ∷ ys) (suc i) = get_or_xor xs ys i

-- ---- the algebra

pub xor_commutes : (xs ys : List ℕ) → xs ⊻ ys ≡ ys ⊻ xs
unfolding ◌⊻◌
xor_commutes [] ys = sym (xor_nil ys)
xor_commutes (x ∷ xs) [] = refl
xor_commutes (x ∷ xs) (y ∷ ys) = ap₂ (λ (a : ℕ) (r : List ℕ). a ∷ r) (xor_comm x y) (xor_commutes xs ys)

pub xor_regroups : (xs ys zs : List ℕ) → (xs ⊻ ys) ⊻ zs ≡ xs ⊻ (ys ⊻ zs)
unfolding ◌⊻◌
xor_regroups [] ys zs = refl
xor_regroups (x ∷ xs) [] zs = refl
xor_regroups (x ∷ xs) (y ∷ ys) [] = refl
xor_regroups (x ∷ xs) (y ∷ ys) (z ∷ zs) = ap₂ (λ (a : ℕ) (r : List ℕ). a ∷ r) (xor_assoc x y z) (xor_regroups xs ys zs)

-- the second and the third change places
pub xor_swaps : (xs ys zs : List ℕ) → (xs ⊻ ys) ⊻ zs ≡ (xs ⊻ zs) ⊻ ys
xor_swaps xs ys zs = xor_regroups xs ys zs ∙ ap (◌⊻◌ xs) (xor_commutes ys zs) ∙ sym (xor_regroups xs zs ys)

pub xor_itself : (xs : List ℕ) → xs ⊻ xs ≡ replicate (length xs) 0
unfolding ◌⊻◌
xor_itself [] = refl
xor_itself (x ∷ xs) = ap₂ (λ (a : ℕ) (r : List ℕ). a ∷ r) (xor_self x) (xor_itself xs)

pub xor_zeros : (xs : List ℕ) (n : ℕ) → n ≤ length xs → xs ⊻ replicate n 0 ≡ xs
unfolding ◌⊻◌
xor_zeros xs zero h = xor_nil xs
xor_zeros [] (suc n) h = absurd (not-suc-le-zero h)
xor_zeros (x ∷ xs) (suc n) h = ap₂ (λ (a : ℕ) (r : List ℕ). a ∷ r) (xor_zero_r x) (xor_zeros xs n (le_of_suc-le-suc h))

pub zeros_xor : (xs : List ℕ) (n : ℕ) → n ≤ length xs → replicate n 0 ⊻ xs ≡ xs
zeros_xor xs n h = xor_commutes (replicate n 0) xs ∙ xor_zeros xs n h

-- what is XORed in twice is gone
pub xor_cancels : (xs ys : List ℕ) → length ys ≤ length xs → (xs ⊻ ys) ⊻ ys ≡ xs
xor_cancels xs ys h = xor_regroups xs ys ys ∙ ap (◌⊻◌ xs) (xor_itself ys) ∙ xor_zeros xs (length ys) h

-- what both have is gone
pub xor_meets : (xs ys zs : List ℕ) → length ys ≤ length xs → (xs ⊻ ys) ⊻ (ys ⊻ zs) ≡ xs ⊻ zs
xor_meets xs ys zs h = sym (xor_regroups (xs ⊻ ys) ys zs) ∙ ap (λ (r : List ℕ). r ⊻ zs) (xor_cancels xs ys h)

-- what is XORed with itself and more leaves the rest
pub xor_again : (xs ys : List ℕ) → length xs ≤ length ys → xs ⊻ (xs ⊻ ys) ≡ ys
xor_again xs ys h = xor_commutes xs (xs ⊻ ys) ∙ ap (λ (r : List ℕ). r ⊻ xs) (xor_commutes xs ys) ∙ xor_cancels ys xs h

-- two equal XORs with one operand in common have equal other operands
pub xor_injective : (p xs ys : List ℕ) → length xs ≡ length p → length ys ≡ length p → xs ⊻ p ≡ ys ⊻ p → xs ≡ ys
xor_injective p xs ys hx hy e =
    sym (xor_cancels xs p (omega arith)) ∙ ap (λ (r : List ℕ). r ⊻ p) e ∙ xor_cancels ys p (omega arith)

-- ---- of parts

pub take_xor : (n : ℕ) (xs ys : List ℕ) → take n (xs ⊻ ys) ≡ take n xs ⊻ take n ys
unfolding ◌⊻◌
take_xor zero xs ys = refl
take_xor (suc n) [] ys = refl
take_xor (suc n) (x ∷ xs) [] = refl
take_xor (suc n) (x ∷ xs) (y ∷ ys) = ap (λ (r : List ℕ). bit_xor x y ∷ r) (take_xor n xs ys)

pub drop_xor : (n : ℕ) (xs ys : List ℕ) → drop n (xs ⊻ ys) ≡ drop n xs ⊻ drop n ys
unfolding ◌⊻◌
drop_xor zero xs ys = refl
drop_xor (suc n) [] ys = refl
drop_xor (suc n) (x ∷ xs) [] = sym (xor_nil (drop n xs))
drop_xor (suc n) (x ∷ xs) (y ∷ ys) = drop_xor n xs ys

pub part_xor : (xs ys : List ℕ) (at n : ℕ) → part (xs ⊻ ys) at n ≡ part xs at n ⊻ part ys at n
unfolding part
part_xor xs ys at n = ap (take n) (drop_xor at xs ys) ∙ take_xor n (drop at xs) (drop at ys)

-- a turn of the loop that XORs: the store takes the XOR with j bytes to the XOR with j + 1
pub xor_more : (d s : List ℕ) (j : ℕ) → j < length d → j < length s
    → set (d ⊻ take j s) j (bit_xor (get_or (d ⊻ take j s) j 0) (get_or s j 0)) ≡ d ⊻ take (suc j) s
unfolding ◌⊻◌
xor_more [] s j hd hs = absurd (not-suc-le-zero hd)
xor_more (x ∷ d) [] j hd hs = absurd (not-suc-le-zero hs)
xor_more (x ∷ d) (y ∷ s) zero hd hs = ap (λ (r : List ℕ). bit_xor x y ∷ r) (sym (xor_nil d))
xor_more (x ∷ d) (y ∷ s) (suc j) hd hs =
    ap (λ (r : List ℕ). bit_xor x y ∷ r) (xor_more d s j (le_of_suc-le-suc hd) (le_of_suc-le-suc hs))

-- Numbers in decimal.
use Rattle.std.specs.Prelude.{ℕ, zero, suc, ◌+◌, ◌-◌, ◌*◌, ◌/◌, ◌%◌, ◌^◌, ◌≤◌, ◌<◌, true, cond, List, [], ◌∷◌, ◌++◌, ◌≡◌, refl, ltb, length}
use Prim.Native.String.{String}
use Rattle.std.proofs.Common.{not-suc-le-zero, pow-suc, arith, ⊎_elim, sym, ap, ◌∙◌, length-append, lt-ltb, le-ltb, ne_eqb}
use Rattle.folds.specs.Cases.{order}
use Rattle.text.specs.Ascii.{ascii, lacks, lacks_append}

-- the digits of a number of at most k digits, the highest first; `0` is 48
unfoldable pub decimal_in : ℕ → ℕ → List ℕ
decimal_in zero n = []
decimal_in (suc k) n = cond (ltb n 10) ((48 + n) ∷ []) (decimal_in k (n / 10) ++ ((48 + n % 10) ∷ []))

-- n in decimal, with no zeros in front: it has at most n + 1 digits
unfoldable pub decimal : ℕ → List ℕ
decimal n = decimal_in (suc n) n

-- a name and a number
abbrev pub field : String → ℕ → List ℕ
field name n = ascii name ++ decimal n

no_zeros_in_front : (decimal 0 ≡ ascii "0") × (decimal 6139 ≡ ascii "6139")
unfolding decimal decimal_in
no_zeros_in_front = (refl, refl)

-- the bound on the digits does not matter
enough : (j k n : ℕ) → n < j → n < k → decimal_in j n ≡ decimal_in k n
unfolding decimal_in
enough zero k n h l = absurd (not-suc-le-zero h)
enough (suc j) zero n h l = absurd (not-suc-le-zero l)
enough (suc j) (suc k) n h l =
    ⊎_elim (λ small. rw (lt-ltb n 10 small))
    (λ large. rw (le-ltb n 10 large) (ap (λ (xs : List ℕ). xs ++ ((48 + n % 10) ∷ [])) (enough j k (n / 10) (omega arith) (omega arith))))
    (order n 10)

-- as the code goes: one digit, or the last one after the others
pub decimal_small : (n : ℕ) → n < 10 → decimal n ≡ (48 + n) ∷ []
unfolding decimal decimal_in
decimal_small n h = rw (lt-ltb n 10 h)

pub decimal_more : (n : ℕ) → 10 ≤ n → decimal n ≡ decimal (n / 10) ++ ((48 + n % 10) ∷ [])
unfolding decimal decimal_in
decimal_more n h =
    rw (le-ltb n 10 h) (ap (λ (xs : List ℕ). xs ++ ((48 + n % 10) ∷ [])) (enough n (suc (n / 10)) (n / 10) (omega arith) (omega arith)))

-- ---- how long

pub length_decimal : (n : ℕ) → (1 ≤ length (decimal n)) × (length (decimal n) ≤ n + 1)
unfolding decimal decimal_in
length_decimal n = (at_least (suc n) n (omega arith), at_most (suc n) n (omega arith))
  where
    at_least : (k m : ℕ) → m < k → 1 ≤ length (decimal_in k m)
    at_least zero m h = absurd (not-suc-le-zero h)
    at_least (suc k) m h =
        ⊎_elim (λ small. rw (lt-ltb m 10 small) (omega arith)) (λ large. rw (le-ltb m 10 large, length-append) (omega arith)) (order m 10)

    at_most : (k m : ℕ) → m < k → length (decimal_in k m) ≤ m + 1
    at_most zero m h = absurd (not-suc-le-zero h)
    at_most (suc k) m h =
        ⊎_elim (λ small. rw (lt-ltb m 10 small) (omega arith))
        (λ large. rw (le-ltb m 10 large, length-append) (omega (arith, at_most k (m / 10) (omega arith))))
        (order m 10)

pub length_more : (n : ℕ) → 10 ≤ n → length (decimal n) ≡ length (decimal (n / 10)) + 1
length_more n h = rw (decimal_more n h) (length-append (decimal (n / 10)) ((48 + n % 10) ∷ []))

-- a number below 10 to the k has at most k digits
pub decimal_short : (k n : ℕ) → n < 10 ^ suc k → length (decimal n) ≤ suc k
decimal_short zero n h = rw (decimal_small n (omega arith)) (omega arith)
decimal_short (suc k) n h =
    let p : 10 ^ suc (suc k) ≡ 10 ^ suc k * 10 = pow-suc 10 (suc k) in
    ⊎_elim (λ small. rw (decimal_small n small) (omega arith))
    (λ large. omega (arith, length_more n large, decimal_short k (n / 10) (omega arith)))
    (order n 10)

-- ---- what it says

-- the number that is read from digits, where v was read before them
unfoldable pub value_from : ℕ → List ℕ → ℕ
value_from v [] = v
value_from v (x ∷ xs) = value_from (v * 10 + (x - 48)) xs

value_append : (v : ℕ) (xs ys : List ℕ) → value_from v (xs ++ ys) ≡ value_from (value_from v xs) ys
unfolding value_from
value_append v [] ys = refl
value_append v (x ∷ xs) ys = value_append (v * 10 + (x - 48)) xs ys

-- n is read from its digits, so that two numbers with the same digits are one
pub value_decimal : (n : ℕ) → value_from 0 (decimal n) ≡ n
unfolding decimal decimal_in value_from
value_decimal n = value_in (suc n) n (omega arith)
  where
    value_in : (k m : ℕ) → m < k → value_from 0 (decimal_in k m) ≡ m
    value_in zero m h = absurd (not-suc-le-zero h)
    value_in (suc k) m h =
        ⊎_elim (λ small. rw (lt-ltb m 10 small) (omega arith))
        (λ large. rw (le-ltb m 10 large, value_append, value_in k (m / 10) (omega arith)) (omega arith))
        (order m 10)

pub decimal_injective : (m n : ℕ) → decimal m ≡ decimal n → m ≡ n
decimal_injective m n e = sym (value_decimal m) ∙ ap (value_from 0) e ∙ value_decimal n

-- every digit is above the space, the newline and all signs below `0`
pub decimal_lacks : (b n : ℕ) → b < 48 → lacks b (decimal n) ≡ true
unfolding decimal decimal_in lacks
decimal_lacks b n l = in_lacks (suc n) n
  where
    in_lacks : (k m : ℕ) → lacks b (decimal_in k m) ≡ true
    in_lacks zero m = refl
    in_lacks (suc k) m =
        ⊎_elim (λ small. rw (lt-ltb m 10 small, ne_eqb (48 + m) b (λ e. omega arith)))
        (λ large. rw (le-ltb m 10 large)
        (lacks_append b (decimal_in k (m / 10)) ((48 + m % 10) ∷ []) (in_lacks k (m / 10)) (rw (ne_eqb (48 + m % 10) b (λ e. omega arith)))))
        (order m 10)

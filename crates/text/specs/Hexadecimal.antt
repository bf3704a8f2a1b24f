-- Bytes in hexadecimal.
use Rattle.std.specs.Prelude.{ℕ, suc, ◌+◌, ◌*◌, ◌/◌, ◌%◌, ◌<◌, true, cond, List, [], ◌∷◌, ◌++◌, ◌≡◌, refl, ltb, length, get_or, take}
use Rattle.std.proofs.Common.{arith, append_assoc, ⊎_elim, ap, take-suc, lt-ltb, le-ltb, ne_eqb}
use Rattle.folds.specs.Cases.{order}
use Rattle.text.specs.Ascii.{ascii, lacks}

-- the sign of a digit below 16, in lower case
unfoldable pub hex_digit : ℕ → ℕ
hex_digit d = cond (ltb d 10) (48 + d) (87 + d)

-- two digits a byte
unfoldable pub hexadecimal : List ℕ → List ℕ
hexadecimal [] = []
hexadecimal (b ∷ bs) = hex_digit (b / 16) ∷ hex_digit (b % 16) ∷ hexadecimal bs

lower : hexadecimal (0xF5 ∷ 0x0B ∷ 0xF3 ∷ 0x0D ∷ []) ≡ ascii "f50bf30d"
unfolding hexadecimal hex_digit
lower = refl

pub length_hexadecimal : (bs : List ℕ) → length (hexadecimal bs) ≡ 2 * length bs
unfolding hexadecimal
length_hexadecimal [] = refl
length_hexadecimal (b ∷ bs) = omega (arith, length_hexadecimal bs)

hexadecimal_append : (bs cs : List ℕ) → hexadecimal (bs ++ cs) ≡ hexadecimal bs ++ hexadecimal cs
unfolding hexadecimal
hexadecimal_append [] cs = refl
hexadecimal_append (b ∷ bs) cs = ap (λ (r : List ℕ). hex_digit (b / 16) ∷ hex_digit (b % 16) ∷ r) (hexadecimal_append bs cs)

-- a turn of the loop: one byte more
pub hexadecimal_more : (bs : List ℕ) (j : ℕ) → j < length bs
    → hexadecimal (take (suc j) bs) ≡ hexadecimal (take j bs) ++ (hex_digit (get_or bs j 0 / 16) ∷ []) ++ (hex_digit (get_or bs j 0 % 16) ∷ [])
unfolding hexadecimal
hexadecimal_more bs j h = rw (take-suc bs j 0 h, hexadecimal_append, append_assoc)

digit_above : (b d : ℕ) → b < 48 → hex_digit d ≡ b → ⊥
unfolding hex_digit
digit_above b d l =
    ⊎_elim {C = hex_digit d ≡ b → ⊥} (λ small e. let z : 48 + d ≡ b = rw (lt-ltb d 10 small) at e in omega arith)
    (λ large e. let z : 87 + d ≡ b = rw (le-ltb d 10 large) at e in omega arith)
    (order d 10)

pub hexadecimal_lacks : (b : ℕ) (bs : List ℕ) → b < 48 → lacks b (hexadecimal bs) ≡ true
unfolding hexadecimal lacks
hexadecimal_lacks b [] l = refl
hexadecimal_lacks b (x ∷ bs) l =
    rw (ne_eqb (hex_digit (x / 16)) b (digit_above b (x / 16) l), ne_eqb (hex_digit (x % 16)) b (digit_above b (x % 16) l)) (hexadecimal_lacks b bs l)

-- The kit's `bit_xor` is associative: its digits are, and a number is its digits.
use Rattle.std.specs.Prelude.{◌≡◌, refl, ℕ, zero, suc, ◌+◌, ◌*◌, ◌/◌, ◌%◌, ◌<◌}
use Rattle.std.proofs.Common.{sym, ap, ap₂, ◌∙◌, le_of_suc-le-suc, not-suc-le-zero, mod-lt, zero-lt-suc}
use Rattle.std.proofs.Math.Arith.{bin_ind, digits_mod, digits_div}
use Rattle.std.specs.Int.Bits.{bit_xor, differ, xor_step}

-- on two digits `differ` gives a digit, and is associative there
differ_lt : (x y : ℕ) → x < 2 → y < 2 → differ x y < 2
differ_lt zero y hx hy = hy
differ_lt (suc x) zero hx hy = hx
differ_lt (suc zero) (suc zero) hx hy = zero-lt-suc 1
differ_lt (suc zero) (suc (suc y)) hx hy = absurd (not-suc-le-zero (le_of_suc-le-suc (le_of_suc-le-suc hy)))
differ_lt (suc (suc x)) (suc y) hx hy = absurd (not-suc-le-zero (le_of_suc-le-suc (le_of_suc-le-suc hx)))

differ_zero : (x : ℕ) → differ x zero ≡ x
differ_zero zero = refl
differ_zero (suc x) = refl

differ_assoc : (x y z : ℕ) → x < 2 → y < 2 → z < 2 → differ (differ x y) z ≡ differ x (differ y z)
differ_assoc zero y z hx hy hz = refl
differ_assoc (suc x) zero z hx hy hz = refl
differ_assoc (suc x) (suc y) zero hx hy hz = differ_zero (differ x y)
differ_assoc (suc zero) (suc zero) (suc zero) hx hy hz = refl
differ_assoc (suc (suc x)) (suc y) (suc z) hx hy hz = absurd (not-suc-le-zero (le_of_suc-le-suc (le_of_suc-le-suc hx)))
differ_assoc (suc zero) (suc (suc y)) (suc z) hx hy hz = absurd (not-suc-le-zero (le_of_suc-le-suc (le_of_suc-le-suc hy)))
differ_assoc (suc zero) (suc zero) (suc (suc z)) hx hy hz = absurd (not-suc-le-zero (le_of_suc-le-suc (le_of_suc-le-suc hz)))

bit : (a : ℕ) → a % 2 < 2
bit a = mod-lt a (zero-lt-suc 1)

bits : (a b : ℕ) → differ (a % 2) (b % 2) < 2
bits a b = differ_lt (a % 2) (b % 2) (bit a) (bit b)

xor_half : (a b : ℕ) → bit_xor a b / 2 ≡ bit_xor (a / 2) (b / 2)
xor_half a b = ap (λ (x : ℕ). x / 2) (xor_step a b) ∙ digits_div (bit_xor (a / 2) (b / 2)) (bits a b)

xor_odd : (a b : ℕ) → bit_xor a b % 2 ≡ differ (a % 2) (b % 2)
xor_odd a b = ap (λ (x : ℕ). x % 2) (xor_step a b) ∙ digits_mod (bit_xor (a / 2) (b / 2)) (bits a b)

pub xor_assoc : (a b c : ℕ) → bit_xor (bit_xor a b) c ≡ bit_xor a (bit_xor b c)
xor_assoc a =
    bin_ind (λ (n : ℕ). (b c : ℕ) → bit_xor (bit_xor n b) c ≡ bit_xor n (bit_xor b c)) (λ b c. refl)
    (λ n ih b c. xor_step (bit_xor n b) c
    ∙ ap₂ (λ (x y : ℕ). bit_xor x (c / 2) * 2 + differ y (c % 2)) (xor_half n b) (xor_odd n b)
    ∙ ap₂ (λ (x y : ℕ). x * 2 + y) (ih (b / 2) (c / 2)) (differ_assoc (n % 2) (b % 2) (c % 2) (bit n) (bit b) (bit c))
    ∙ ap₂ (λ (x y : ℕ). bit_xor (n / 2) x * 2 + differ (n % 2) y) (sym (xor_half b c)) (sym (xor_odd b c))
    ∙ sym (xor_step n (bit_xor b c))) a

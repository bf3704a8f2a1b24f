-- How many digits a number has in decimal, by its logarithm.
use Rattle.std.specs.Prelude.{ℕ, zero, suc, ◌+◌, ◌*◌, ◌/◌, ◌^◌, ◌≤◌, ◌<◌, ◌≡◌, max, length}
use Rattle.std.proofs.Common.{pow-suc, arith, ⊎_elim, ap}
use Rattle.std.proofs.Math.Nat.{one-le-pow}
use Rattle.folds.specs.Cases.{order}
use Rattle.text.specs.Decimal.{decimal, decimal_small, decimal_short, length_decimal, length_more}

-- a number of 10 to the k or more has more than k digits
pub decimal_long : (k n : ℕ) → 10 ^ k ≤ n → suc k ≤ length (decimal n)
decimal_long zero n h = (length_decimal n).0
decimal_long (suc k) n h =
    let p : 10 ^ suc k ≡ 10 ^ k * 10 = pow-suc 10 k in
    let some : 1 ≤ 10 ^ k = one-le-pow k 10 (omega arith) in
    omega (arith, length_more n (omega arith), decimal_long k (n / 10) (omega arith))

-- a number from 10 to the k on and below ten times that has one digit more than k; 0 has as many as 1
pub length_by_log : (k n : ℕ) → 10 ^ k ≤ max n 1 → max n 1 < 10 * 10 ^ k → k + 1 ≡ length (decimal n)
length_by_log k n low high =
    let power : 10 ^ suc k ≡ 10 ^ k * 10 = pow-suc 10 k in
    let long : k + 1 ≡ length (decimal (max n 1)) = omega (arith, decimal_short k (max n 1) (omega arith), decimal_long k (max n 1) low) in
    ⊎_elim (λ (z : n < 1). omega (arith, long, ap length (decimal_small n (omega arith)), ap length (decimal_small (max n 1) (omega arith))))
    (λ (s : 1 ≤ n). let e : max n 1 ≡ n = omega arith in rw e at long)
    (order n 1)

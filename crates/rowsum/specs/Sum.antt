-- How a row's sum comes about, drive by drive, in a block of zeros.
use Rattle.std.specs.Prelude.{ℕ, ◌+◌, not, List, ◌≡◌, eqb, length, get_or}
use Rattle.std.proofs.Common.{add-one}
use Rattle.std.proofs.Math.Path.{sym}
use Rattle.octets.specs.Xor.{◌⊻◌, xor_nil, xor_regroups}
use Rattle.folds.specs.All.{all_below}
use Rattle.geometry.specs.declared.Geometry.{Geometry}
use Rattle.sums.specs.Row.{added, summed_to, row_sum, is_open}

module _ (s : List ℕ) (g : Geometry) (r : ℕ) where
  -- a loop over the drives, upon zeros: its start and a turn
  pub sum_start : (z : List ℕ) → z ≡ z ⊻ summed_to s g r 0
  unfolding summed_to
  sum_start z = sym (xor_nil z)

  pub sum_more : (z acc : List ℕ) (i : ℕ) → acc ≡ z ⊻ summed_to s g r i → acc ⊻ added s g r i ≡ z ⊻ summed_to s g r (i + 1)
  unfolding summed_to
  sum_more z acc i e = rw (add-one, e) (xor_regroups z (summed_to s g r i) (added s g r i))

  -- a row is open where the block of its sum is not all zeros
  pub open_is : (acc : List ℕ) → acc ≡ row_sum s g r → length acc ≡ g.l → not (all_below (length acc) (λ j. eqb (get_or acc j 0) 0)) ≡ is_open s g r
  unfolding is_open
  open_is acc e n = rw (n, e)

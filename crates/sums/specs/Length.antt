-- How long a row's sum is.
use Rattle.std.specs.Prelude.{Bool, true, false, cond, ◌≡◌, List, [], replicate}
use Rattle.std.proofs.Common.{◌∙◌}
use Prim.Native.Nat.{ℕ, zero, suc, ◌≤◌, ◌<◌}
use native.Mathlib.Omega.{arith}
use Rattle.std.proofs.Math.ListN.{length, length-replicate}
use Rattle.octets.specs.Part.{length_part}
use Rattle.octets.specs.Xor.{length_xor, length_xor_le}
use Rattle.geometry.specs.declared.Geometry.{Geometry}
use Rattle.geometry.specs.Header.{place}
use Rattle.geometry.specs.Frame.{Framed}
use Rattle.geometry.specs.Places.{block_room}
use Rattle.sums.specs.Row.{counts, block_in, added, summed_to, row_sum}

module _ (s : List ℕ) (g : Geometry) (r : ℕ) (f : Framed s g) (h : r < g.b) where
  pub length_block : (d : ℕ) → d < g.d → length (block_in s g r d) ≡ g.l
  length_block d l = length_part s (place g d r) g.l (block_room s g d r f l h)

  length_added : (d : ℕ) → d < g.d → length (added s g r d) ≤ g.l
  length_added d l = pick (counts s g d)
    where
      pick : (t : Bool) → length (cond t (block_in s g r d) []) ≤ g.l
      pick true = omega (arith, length_block d l)
      pick false = omega arith

  length_to : (n : ℕ) → n ≤ g.d → length (summed_to s g r n) ≤ g.l
  unfolding summed_to
  length_to zero l = omega arith
  length_to (suc n) l = omega (arith, length_xor (summed_to s g r n) (added s g r n), length_to n (omega arith), length_added n (omega arith))

  pub length_sum : length (row_sum s g r) ≡ g.l
  unfolding row_sum
  length_sum =
      let z : length {A = ℕ} (replicate g.l 0) ≡ g.l = length-replicate g.l 0 in
      length_xor_le (replicate g.l 0) (summed_to s g r g.d) (omega (arith, length_to g.d (omega arith), z)) ∙ z

-- A row and its sum (01, "The row program": "a block on all drives, failed ones too").
use Rattle.std.specs.Prelude.{ℕ, zero, suc, Bool, true, not, cond, List, [], eqb, get_or, replicate}
use Rattle.octets.specs.Part.{part}
use Rattle.octets.specs.Xor.{◌⊻◌}
use Rattle.folds.specs.All.{all_below}
use Rattle.geometry.specs.declared.Geometry.{Geometry}
use Rattle.geometry.specs.Header.{place}

-- which drives a row counts: all of them. Only the laws of `Counts` look inside.
unfoldable pub counts : List ℕ → Geometry → ℕ → Bool
counts m g d = true

-- drive d's block of row r, and what it adds to the sum
abbrev pub block_in : List ℕ → Geometry → ℕ → ℕ → List ℕ
block_in m g row d = part m (place g d row) g.l

abbrev pub added : List ℕ → Geometry → ℕ → ℕ → List ℕ
added m g row d = cond (counts m g d) (block_in m g row d) []

-- what the first n drives add
unfoldable pub summed_to : List ℕ → Geometry → ℕ → ℕ → List ℕ
summed_to m g row zero = []
summed_to m g row (suc n) = summed_to m g row n ⊻ added m g row n

-- "A row's sum is the XOR of that block on all drives.": upon zeros, so that it is a block long whichever drives count
unfoldable pub row_sum : List ℕ → Geometry → ℕ → List ℕ
row_sum m g row = replicate g.l 0 ⊻ summed_to m g row g.d

-- a row is open where its sum is not zero
unfoldable pub is_open : List ℕ → Geometry → ℕ → Bool
is_open m g row = not (all_below g.l (λ j. eqb (get_or (row_sum m g row) j 0) 0))

-- What bytes laid over blocks from a block on have in each row.
use Rattle.std.specs.Prelude.{◌≡◌, Bool, cond, List, [], ℕ, ◌+◌, ◌-◌, ◌*◌, ◌≤◌, ◌<◌, leb}
use Rattle.std.proofs.Common.{◌∙◌, mul-le-mul_right, le-leb}
use Rattle.std.proofs.Math.Bool.{true, false}
use native.Mathlib.Omega.{arith}
use Rattle.std.proofs.Math.ListN.{length}
use Rattle.std.proofs.lemmas.Bool.{lt-leb}
use Rattle.octets.specs.Part.{part, length_part_le, part_past}
use Rattle.geometry.specs.declared.Geometry.{Geometry}

-- the block of row r, of the bytes ys from block b on; nothing where they have none
unfoldable pub share : Geometry → ℕ → List ℕ → ℕ → List ℕ
share g b ys r = cond (leb b r) (part ys ((r - b) * g.l) g.l) []

module _ (g : Geometry) (b : ℕ) where
  pub share_in : (ys : List ℕ) (r : ℕ) → b ≤ r → share g b ys r ≡ part ys ((r - b) * g.l) g.l
  unfolding share
  share_in ys r h = rw (le-leb b r h)

  pub share_below : (ys : List ℕ) (r : ℕ) → r < b → share g b ys r ≡ []
  unfolding share
  share_below ys r h = rw (lt-leb b r h)

  pub share_past : (ys : List ℕ) (r n : ℕ) → length ys ≤ n * g.l → b + n ≤ r → share g b ys r ≡ []
  share_past ys r n e h =
      let k : n * g.l ≤ (r - b) * g.l = mul-le-mul_right g.l (omega arith) in
      share_in ys r (omega arith) ∙ part_past ys ((r - b) * g.l) g.l (omega arith)

  pub length_share : (ys : List ℕ) (r : ℕ) → length (share g b ys r) ≤ g.l
  unfolding share
  length_share ys r = pick (leb b r)
    where
      pick : (c : Bool) → length (cond c (part ys ((r - b) * g.l) g.l) []) ≤ g.l
      pick true = length_part_le ys ((r - b) * g.l) g.l
      pick false = omega arith

-- The lowest number below n that has a property.
use Prim.Native.Nat.{ℕ, zero, suc}
use Rattle.std.specs.Prelude.{Bool, cond, ◌≡◌, leb, Option, Some, None, unwrap_or}
use Rattle.std.proofs.Math.Path.{refl}

-- a, or b where a is nothing
abbrev pub or_else : Option ℕ → Option ℕ → Option ℕ
or_else (Some i) b = Some i
or_else None b = b

-- what was found, or 0
abbrev pub index : Option ℕ → ℕ
index o = unwrap_or o 0

-- the lowest number below n that has p
unfoldable pub least_below : ℕ → (ℕ → Bool) → Option ℕ
least_below zero p = None
least_below (suc n) p = or_else (least_below n p) (cond (p n) (Some n) None)

-- of 0 to 4, the lowest that is at least 2
lowest : least_below 5 (leb 2) ≡ Some 2
unfolding least_below
lowest = refl

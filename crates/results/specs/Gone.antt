-- A used slot is emptied and the higher ranks fall by one.
use Prim.Native.Nat.{ℕ, ◌<◌}
use Rattle.std.specs.Prelude.{true, ◌≡◌}
use Rattle.geometry.specs.declared.Geometry.{Geometry}
use Rattle.slots.specs.declared.Slot.{Slot}
use Rattle.slots.specs.Record.{is_used, zero_slot}
use Rattle.results.specs.Lower.{lower_slot}

-- the slots f' are f with x emptied
pub record Lost (g : Geometry) (f f' : ℕ → Slot) (x : ℕ) : Type 0 where
  pub inside : x < g.s
  pub used : is_used (f x) ≡ true
  pub zeroed : f' x ≡ zero_slot
  pub rest : (j : ℕ) → j < g.s → (j ≡ x → ⊥) → f' j ≡ lower_slot (f x).rank (f j)

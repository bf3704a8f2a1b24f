-- An empty slot takes a result at rank k + 1.
use Rattle.std.specs.Prelude.{ℕ, ◌+◌, ◌<◌, false, ◌≡◌}
use Rattle.geometry.specs.declared.Geometry.{Geometry}
use Rattle.slots.specs.declared.Slot.{Slot}
use Rattle.slots.specs.Record.{is_used}
use Rattle.slots.specs.Slots.{used_in}
use Rattle.slots.specs.Facts.{Used}

-- the slots f' are f with a result in x, which was empty
pub record Gained (g : Geometry) (f f' : ℕ → Slot) (x : ℕ) : Type 0 where
  pub inside : x < g.s
  pub empty : is_used (f x) ≡ false
  pub new : Used g (used_in g f + 1) (f' x)
  pub top : (f' x).rank ≡ used_in g f + 1
  pub rest : (j : ℕ) → j < g.s → (j ≡ x → ⊥) → f' j ≡ f j

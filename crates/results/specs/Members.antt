-- A slot among those by age.
use Prim.Native.Nat.{ℕ, ◌≤◌, ◌<◌}
use Rattle.std.specs.Prelude.{true, ◌≡◌}
use Rattle.geometry.specs.declared.Geometry.{Geometry}
use Rattle.slots.specs.declared.Slot.{Slot}
use Rattle.slots.specs.Record.{is_used}

-- slot i is used, and of rank at most n
pub record Aged (g : Geometry) (f : ℕ → Slot) (n i : ℕ) : Type 0 where
  pub inside : i < g.s
  pub used : is_used (f i) ≡ true
  pub high : (f i).rank ≤ n

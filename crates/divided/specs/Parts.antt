-- An image with another's media, but for one.
use Rattle.std.specs.Prelude.{ℕ, ◌<◌, ◌≡◌}
use mathlib.Core.List.{List}
use Rattle.geometry.specs.declared.Geometry.{Geometry}
use Rattle.drives.specs.Table.{address_of}
use Rattle.divided.specs.InParts.{medium_of}

-- image y has the drives of image m, and their media but for drive u's
pub record SameButOne (y m : List ℕ) (g : Geometry) (u : ℕ) : Type 0 where
  pub addresses : (v : ℕ) → v < g.d → address_of y g v ≡ address_of m g v
  pub others : (v : ℕ) → v < g.d → (v ≡ u → ⊥) → medium_of y g v ≡ medium_of m g v

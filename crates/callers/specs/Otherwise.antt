-- Steps that decide rightly and act otherwise: what laws are shown to shut out.
use Rattle.std.specs.Prelude.{ℕ, List, map, Ok, Err}
use Rattle.geometry.specs.declared.Geometry.{Geometry}
use Rattle.geometry.specs.Header.{geometry_of}
use Rattle.geometry.specs.Stores.{stored}
use Rattle.meaning.specs.Decision.{Decision}
use Rattle.meaning.specs.Acts.{Over, over, Effect, effect, stores_in, effect_of}

-- another effect in place of an act's, on an image with data-out bytes
abbrev pub Otherwise : Type 0
Otherwise = List ℕ → Geometry → List ℕ → Effect → Effect

-- what is left of the image then
abbrev pub left_by : Otherwise → Decision → List ℕ → List ℕ → List ℕ
left_by f (Err x) m s = m
left_by f (Ok x) m s = stored m (stores_in m (geometry_of m) (f m (geometry_of m) s (effect_of m (geometry_of m) s x.act)))

-- other bytes over the blocks that are written
abbrev pub writing : (Over → List ℕ) → Effect → Effect
writing f e = effect e.hands (map (λ w. over w.blocks (f w)) e.writes) e.change

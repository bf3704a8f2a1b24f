-- 01's header, and what its search finds, as today's definitions have them.
use Rattle.std.specs.Prelude.{Option}
use Rattle.std.specs.Option.{option_map}
use Rattle.geometry.specs.declared.Geometry.{Geometry}
use Rattle.slots.specs.declared.Best.{Best}
use Rattle.frozen.specs.Image as old
use Rattle.frozen.specs.Results as then

-- ---- the same numbers under other names

abbrev pub geo : old.Header → Geometry
geo h = record { d = h.D; b = h.B; l = h.L; s = h.S; m = h.M; table = h.table; slots = h.slots; media = h.media }

abbrev pub best_to : then.Best → Option Best
best_to x = option_map (λ i. record { slot = i; rank = x.top }) x.found

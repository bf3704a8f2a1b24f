-- A slot filled with a result that is retained.
use Rattle.std.specs.Prelude.{ℕ, ◌+◌}
use mathlib.Core.List.{List, ◌++◌}
use Rattle.octets.specs.Put.{put}
use Rattle.geometry.specs.declared.Geometry.{Geometry}
use Rattle.geometry.specs.Header.{slot_at}
use Rattle.slots.specs.declared.Slot.{Slot}
use Rattle.slots.specs.Record.{bytes_of}
use Rattle.slots.specs.Slots.{used_count}
use Rattle.results.specs.Results.{Result, record_at}

-- its record, and slot x filled with it
abbrev pub new_record : List ℕ → Geometry → Result → Slot
new_record s g r = record_at (used_count s g + 1) r

abbrev pub filled : List ℕ → Geometry → ℕ → Result → List ℕ
filled s g x r = put s (slot_at g x) (bytes_of (new_record s g r) ++ r.bytes)

-- A slot's record (01, "The image"). Only this file knows where its fields lie.
use Rattle.std.specs.Prelude.{ℕ, ◌+◌, List, ◌++◌, Bool, not, eqb}
use Rattle.octets.specs.Part.{part}
use Rattle.octets.specs.Number.{be, to_be}
use Rattle.geometry.specs.declared.Geometry.{Geometry}
use Rattle.geometry.specs.Header.{slot_at}
use Rattle.slots.specs.declared.Slot.{Slot}

-- "rank (4 bytes), kind (0 empty, 1 XDWRITE, 2 REGENERATE), drive index (1), length in blocks (2), block number (4), four zero bytes"
abbrev pub record_of : List ℕ → Slot
record_of bytes =
    record { rank = be 4 bytes 0; kind = be 1 bytes 4; drive = be 1 bytes 5; len = be 2 bytes 6; block = record { 0 = be 4 bytes 8 }; last = be 4 bytes 12 }

-- where its fields start, where it starts at index at
abbrev pub field_starts : ℕ → Slot
field_starts at = record { rank = at; kind = at + 4; drive = at + 5; len = at + 6; block = record { 0 = at + 8 }; last = at + 12 }

-- the sixteen bytes that write it
unfoldable pub bytes_of : Slot → List ℕ
bytes_of e = to_be 4 e.rank ++ to_be 1 e.kind ++ to_be 1 e.drive ++ to_be 2 e.len ++ to_be 4 e.block.0 ++ to_be 4 e.last

-- slot i of an image
unfoldable pub slot_of : List ℕ → Geometry → ℕ → Slot
slot_of m g i = record_of (part m (slot_at g i) 16)

-- an empty slot's record, all zero
abbrev pub zero_slot : Slot
zero_slot = record { rank = 0; kind = 0; drive = 0; len = 0; block = record { 0 = 0 }; last = 0 }

abbrev pub is_used : Slot → Bool
is_used e = not (eqb e.kind 0)

-- 01, "The image: counts, then offsets". All numbers are big-endian.
use Rattle.std.specs.Prelude.{ℕ, ◌+◌, ◌*◌, ◌%◌, List, [], ◌∷◌, ◌++◌, Bool, length, leb, eqb}
use Rattle.octets.specs.Part.{part}
use Rattle.octets.specs.Number.{be}
use Rattle.folds.specs.Every.{every}
use Rattle.rules.specs.Must.{Must, must, tests_of}
use Rattle.geometry.specs.declared.Geometry.{Geometry}

-- "The header is eight 4-byte fields": D, B, L, S, M, "then the offsets of the drive table, slots and media"
abbrev pub geometry_of : List ℕ → Geometry
geometry_of m =
    record {
      d = be 4 m 0;
      b = be 4 m 4;
      l = be 4 m 8;
      s = be 4 m 12;
      m = be 4 m 16;
      table = be 4 m 20;
      slots = be 4 m 24;
      media = be 4 m 28;
    }

-- where it is seen that an image is not valid: at its length, or at the first byte of a field
pub data Site : Type 0 where
  Length : Site
  Byte : ℕ → Site

-- "drives D (2 to 32), blocks per drive B (1 to 65,536), block length L (4 to 4,096, a multiple of 4), slots S (0 to 16), slot size M
-- in blocks (1 to 256)"
abbrev pub range_musts : Geometry → List (Must Site)
range_musts g =
    must (Byte 0) (leb 2 g.d)
    ∷ must (Byte 0) (leb g.d 32)
    ∷ must (Byte 4) (leb 1 g.b)
    ∷ must (Byte 4) (leb g.b 65536)
    ∷ must (Byte 8) (leb 4 g.l)
    ∷ must (Byte 8) (leb g.l 4096)
    ∷ must (Byte 8) (eqb (g.l % 4) 0)
    ∷ must (Byte 12) (leb g.s 16)
    ∷ must (Byte 16) (leb 1 g.m)
    ∷ must (Byte 16) (leb g.m 256)
    ∷ []

abbrev pub ranges_ok : Geometry → Bool
ranges_ok g = every (tests_of (range_musts g))

-- "Drive table at 32: per drive 4 bytes"
abbrev pub stride : Geometry → ℕ
stride g = 4

-- "Slots at 32 + 4D: each 16 + M*L bytes"
abbrev pub slot_size : Geometry → ℕ
slot_size g = 16 + g.m * g.l

abbrev pub table_end : Geometry → ℕ
table_end g = 32 + stride g * g.d

-- "Media at 32 + 4D + S(16 + M*L)"
abbrev pub slots_end : Geometry → ℕ
slots_end g = table_end g + g.s * slot_size g

abbrev pub offset_musts : Geometry → List (Must Site)
offset_musts g = must (Byte 20) (eqb g.table 32) ∷ must (Byte 24) (eqb g.slots (table_end g)) ∷ must (Byte 28) (eqb g.media (slots_end g)) ∷ []

abbrev pub offsets_ok : Geometry → Bool
offsets_ok g = every (tests_of (offset_musts g))

-- "The image ends there, D*B*L bytes on."
abbrev pub end_of : Geometry → ℕ
end_of g = g.media + g.d * g.b * g.l

-- an image has a header, the header is right, and the image as long as it says
abbrev pub header_musts : List ℕ → List (Must Site)
header_musts m =
    must Length (leb 32 (length m))
    ∷ (range_musts (geometry_of m) ++ offset_musts (geometry_of m) ++ must Length (eqb (length m) (end_of (geometry_of m))) ∷ [])

-- the same tests by stages, as the code makes them
unfoldable pub framed_ok : List ℕ → Bool
framed_ok m =
    every
    (leb 32 (length m) ∷ ranges_ok (geometry_of m) ∷ offsets_ok (geometry_of m) ∷ eqb (length m) (end_of (geometry_of m)) ∷ [])

-- ---- places

-- drive i's entry of the table
abbrev pub entry_at : Geometry → ℕ → ℕ
entry_at g i = g.table + stride g * i

-- slot i: its record, then its data
unfoldable pub slot_at : Geometry → ℕ → ℕ
slot_at g i = g.slots + i * slot_size g

abbrev pub data_at : Geometry → ℕ → ℕ
data_at g i = slot_at g i + 16

-- drive d's block b: "drive 0's blocks, then drive 1's, and so on"
unfoldable pub place : Geometry → ℕ → ℕ → ℕ
place g d b = g.media + (d * g.b + b) * g.l

-- the bytes of drive d's n blocks from block b on
abbrev pub blocks_at : List ℕ → Geometry → ℕ → ℕ → ℕ → List ℕ
blocks_at m g d b n = part m (place g d b) (n * g.l)

-- 01, "Bench shelf": "D 3, B 2, L 4, S 1, M 2; image 92 bytes, slots at 44, media at 68. Addresses 1, 2, 3, all present; block 0 holds
-- 0A0B0C0D, 01020304, 0B090F09; block 1 zeros."
use Rattle.std.specs.Prelude.{ℕ, List, [], ◌∷◌, ◌++◌, replicate}
use Rattle.geometry.specs.declared.Geometry.{Geometry}

abbrev pub four : ℕ → ℕ → ℕ → ℕ → List ℕ
four a b c d = a ∷ b ∷ c ∷ d ∷ []

abbrev pub zeros : List ℕ
zeros = four 0 0 0 0

-- the bench shelf with this state of drive 3, this slot and these blocks 0
abbrev pub shelf_of : ℕ → List ℕ → List ℕ → List ℕ → List ℕ → List ℕ
shelf_of state slot a b c =
    four 0 0 0 3 ++ four 0 0 0 2 ++ four 0 0 0 4 ++ four 0 0 0 1 ++ four 0 0 0 2 ++ four 0 0 0 32 ++ four 0 0 0 44 ++ four 0 0 0 68
    ++ four 0 0 0 1 ++ four 0 0 0 2 ++ four state 0 0 3 ++ slot ++ a ++ zeros ++ b ++ zeros ++ c ++ zeros

-- the slot: empty; with a block of a drive retained at block 0, as the newest
abbrev pub vacant : List ℕ
vacant = replicate 24 0

abbrev pub holding : ℕ → ℕ → List ℕ → List ℕ
holding kind drive bytes = 0 ∷ 0 ∷ 0 ∷ 1 ∷ kind ∷ drive ∷ 0 ∷ 1 ∷ replicate 8 0 ++ bytes ++ zeros

-- blocks 0 of drives 1, 2 and 3
abbrev pub one : List ℕ
one = four 0x0A 0x0B 0x0C 0x0D

abbrev pub two : List ℕ
two = four 0x01 0x02 0x03 0x04

abbrev pub three : List ℕ
three = four 0x0B 0x09 0x0F 0x09

abbrev pub bench : List ℕ
bench = shelf_of 0 vacant one two three

-- "C2 Same, byte 1 06h": its data, its result, and the shelf "After C2, in full"
abbrev pub fresh : List ℕ
fresh = four 0xFF 0x00 0xFF 0x00

abbrev pub result : List ℕ
result = four 0xF5 0x0B 0xF3 0x0D

abbrev pub after_c2 : List ℕ
after_c2 = shelf_of 0 (holding 1 0 result) fresh two three

-- ---- its geometry

abbrev pub bench_shape : Geometry
bench_shape = record { d = 3; b = 2; l = 4; s = 1; m = 2; table = 32; slots = 44; media = 68 }

-- What C1 to C11 cannot tell, since they have one slot: here are several, and the newest result is not always in the lowest one.
use Rattle.std.specs.Prelude.{ℕ, List, [], ◌∷◌, ◌++◌, replicate}
use Rattle.drives.specs.Table.{to}
use Rattle.meaning.specs.Calls.{Call, command, reset}
use Rattle.meaning.specs.Examples.Row.{Showed, Row, quiet, refused}
use Rattle.image.specs.Bench.{four, zeros, fresh, result}
use Rattle.meaning.specs.Examples.Cases.{ten, room}
use Rattle.meaning.specs.Examples.Cases.{row as command_row}

-- a record, and an empty one
abbrev held : ℕ → ℕ → ℕ → ℕ → ℕ → List ℕ
held rank kind drive n block = four 0 0 0 rank ++ four kind drive 0 n ++ four 0 0 0 block ++ zeros

abbrev pub empty : List ℕ
empty = replicate 16 0

-- drives 1 and 2 of two blocks of 4 bytes; s slots of m blocks
abbrev shelf : ℕ → ℕ → ℕ → List ℕ → List ℕ → List ℕ
shelf s m media slots blocks =
    four 0 0 0 2 ++ four 0 0 0 2 ++ four 0 0 0 4 ++ four 0 0 0 s ++ four 0 0 0 m ++ four 0 0 0 32 ++ four 0 0 0 40 ++ four 0 0 0 media
    ++ four 0 0 0 1 ++ four 0 0 0 2 ++ slots ++ blocks ++ zeros ++ zeros

-- two slots of two blocks; drive 1 holds these two blocks
abbrev pub pair : List ℕ → List ℕ → List ℕ → List ℕ → List ℕ
pair slot0 slot1 b0 b1 = shelf 2 2 88 (slot0 ++ slot1) (b0 ++ b1)

abbrev pub start : List ℕ
start = pair (empty ++ zeros ++ zeros) (empty ++ zeros ++ zeros) (four 0x0A 0x0B 0x0C 0x0D) zeros

-- four slots of one block: rank 3 of drive 0, rank 1 of drive 1, rank 4 of drive 1, rank 2 of drive 0; each data a letter; drive 1 holds
-- these blocks
abbrev pub letter : ℕ → List ℕ
letter x = four x x x x

abbrev ranked_over : List ℕ → List ℕ → List ℕ → List ℕ → List ℕ → List ℕ
ranked_over blocks r0 r1 r2 r3 = shelf 4 1 120 (r0 ++ letter 0x61 ++ r1 ++ letter 0x62 ++ r2 ++ letter 0x63 ++ r3 ++ letter 0x64) blocks

abbrev ranked : List ℕ → List ℕ → List ℕ → List ℕ → List ℕ
ranked = ranked_over (zeros ++ zeros)

abbrev full : List ℕ
full = ranked (held 3 1 0 1 0) (held 1 1 1 1 0) (held 4 2 1 1 1) (held 2 1 0 1 1)

-- to drive 1: XDWRITE that retains n blocks from a block on, and XDREAD
abbrev pub keep : ℕ → ℕ → ℕ → List ℕ → Call
keep flags block n bytes = command (to 1) (0xC0 ∷ flags ∷ 0 ∷ 0 ∷ 0 ∷ block ∷ 0 ∷ n ∷ replicate 8 0) bytes room

abbrev xdread : ℕ → ℕ → Call
xdread block n = command (to 1) (ten 0xC2 block n) [] room

-- one block, and then with NDisc both: slots 0 and 1, ranks 1 and 2
abbrev pub twice : List Call
twice = keep 0x06 0 1 fresh ∷ keep 0x26 0 2 (zeros ++ zeros) ∷ []

-- blocks 0 and 1; the first is read, so that slot 0 is free while slot 1 has rank 1; block 1 again
abbrev pub again : List Call
again = keep 0x06 0 1 fresh ∷ keep 0x06 1 1 (letter 1) ∷ xdread 0 1 ∷ keep 0x06 1 1 (letter 7) ∷ []

-- an XDREAD after those calls
abbrev row : List ℕ → List Call → ℕ → ℕ → ℕ → List ℕ → Showed → Row
row image before target block n lent want =
    record { start = image; before = before; target = target; cdb = ten 0xC2 block n; sent = []; room = lent; want = want }

abbrev pub several : List Row
several =
    -- the newest has another length: refused, though an older one fits
    row start twice 1 0 1 room
    (refused 0x05 0x24 (pair (held 1 1 0 1 0 ++ result ++ zeros) (held 2 1 0 2 0 ++ fresh ++ zeros) fresh zeros) room)
    -- the newest answers, from slot 1
    ∷ row start twice 1 0 2 room
    (quiet 0 8 (pair (held 1 1 0 1 0 ++ result ++ zeros) (empty ++ fresh ++ zeros) fresh zeros) (fresh ++ zeros))
    -- and then the older one
    ∷ row start (twice ++ xdread 0 2 ∷ []) 1 0 1 room
    (quiet 0 4 (pair (empty ++ result ++ zeros) (empty ++ fresh ++ zeros) fresh zeros) (result ++ letter 0xAA))
    -- the freed slot 0 took the last result at rank 2, and answers before slot 1
    ∷ row start again 1 1 1 room
    (quiet 0 4 (pair (empty ++ letter 6 ++ zeros) (held 1 1 0 1 1 ++ letter 1 ++ zeros) fresh (letter 7)) (letter 6 ++ letter 0xAA))
    -- then slot 1
    ∷ row start (again ++ xdread 1 1 ∷ []) 1 1 1 room
    (quiet 0 4 (pair (empty ++ letter 6 ++ zeros) (empty ++ letter 1 ++ zeros) fresh (letter 7)) (letter 1 ++ letter 0xAA))
    -- a reset of drive 1 (index 0) zeroes slots 0 and 3; slot 1 has rank 1, slot 2 rank 2: the one that is not asked for is left
    ∷ row full (reset (to 1) ∷ []) 2 1 1 room (quiet 0 4 (ranked empty (held 1 1 1 1 0) empty empty) (letter 0x63 ++ letter 0xAA))
    ∷ row full (reset (to 1) ∷ []) 2 0 1 room (quiet 0 4 (ranked empty empty (held 1 2 1 1 1) empty) (letter 0x62 ++ letter 0xAA))
    -- a room too short is call 5, and the result stays
    ∷ row start (keep 0x06 0 1 fresh ∷ []) 1 0 1 (replicate 3 0xAA)
    (quiet 261 0 (pair (held 1 1 0 1 0 ++ result ++ zeros) (empty ++ zeros ++ zeros) fresh zeros) (replicate 3 0xAA))
    -- a reset of drive 2 zeroes slots 1 and 2
    ∷ row full (reset (to 2) ∷ []) 1 0 1 room (quiet 0 4 (ranked empty empty empty (held 1 1 0 1 1)) (letter 0x61 ++ letter 0xAA))
    -- a WRITE above M is no XPWRITE
    ∷ command_row full [] 1 (ten 0x2A 0 2) (fresh ++ fresh)
    (quiet 0 0 (ranked_over (fresh ++ fresh) (held 3 1 0 1 0) (held 1 1 1 1 0) (held 4 2 1 1 1) (held 2 1 0 1 1)) room)
    ∷ []

-- The published codes of 02, A1, on the bench shelf: what each does, and what each check refuses.
use Rattle.std.specs.Prelude.{ℕ, List, [], ◌∷◌, ◌++◌, replicate}
use Rattle.image.specs.Bench.{zeros, shelf_of, vacant, holding, one, two, three, bench, fresh, result, after_c2}
use Rattle.drives.specs.Table.{to}
use Rattle.meaning.specs.Calls.{Call, command}
use Rattle.meaning.specs.Examples.Row.{Row, quiet, refused}
use Rattle.meaning.specs.Examples.Cases.{parity, left, xdwrite, ten_with, ten, room, row, c2}

-- block 0 of drive 1 written by 50h, and read by XDREAD of either set
abbrev kept : Call
kept = command (to 1) (ten 0x50 0 1) fresh room

abbrev read_by : ℕ → Call
read_by code = command (to 1) (ten code 0 1) [] room

-- the room with C1's result
abbrev handed : List ℕ
handed = result ++ replicate 4 0xAA

-- a room that is too short for a block
abbrev short : List ℕ
short = replicate 3 0xAA

-- a refusal of a command to drive 1 of the bench shelf
abbrev refusal : List ℕ → List ℕ → ℕ → ℕ → Row
refusal cdb sent key code = row bench [] 1 cdb sent (refused key code bench room)

abbrev pub works : List Row
works =
    -- "50h always retains": as C2 does; with DISABLE WRITE drive 1 stays
    row bench [] 1 (ten 0x50 0 1) fresh (quiet 0 0 after_c2 room)
    ∷ row bench [] 1 (ten_with 0x50 0x1C 0 1) fresh (quiet 0 0 (shelf_of 0 (holding 1 0 result) one two three) room)
    -- "both sets share slots": no empty slot is left by either
    ∷ row bench (kept ∷ []) 1 (xdwrite 0x06) fresh (quiet 8 0 after_c2 room)
    ∷ row bench (c2 ∷ []) 1 (ten 0x50 0 1) fresh (quiet 8 0 after_c2 room)
    -- either XDREAD answers a result of either XDWRITE
    ∷ row bench (c2 ∷ []) 1 (ten 0x52 0 1) [] (quiet 0 4 (shelf_of 0 (left result) fresh two three) handed)
    ∷ row bench (kept ∷ []) 1 (ten 0xC2 0 1) [] (quiet 0 4 (shelf_of 0 (left result) fresh two three) handed)
    ∷ row bench (kept ∷ []) 1 (ten 0x52 0 1) [] (quiet 0 4 (shelf_of 0 (left result) fresh two three) handed)
    -- and 51h carries it over
    ∷ row bench (kept ∷ read_by 0x52 ∷ []) 3 (ten_with 0x51 0x18 0 1) result (quiet 0 0 (shelf_of 0 (left result) fresh two parity) room)
    -- 53h "puts the XOR in the receive room and counts it"; with DISABLE WRITE drive 1 stays
    ∷ row bench [] 1 (ten 0x53 0 1) fresh (quiet 0 4 (shelf_of 0 vacant fresh two three) handed)
    ∷ row bench [] 1 (ten_with 0x53 0x1C 0 1) fresh (quiet 0 4 bench handed)
    -- it "takes no slot": it wants none, and leaves those that are taken
    ∷ row bench (kept ∷ []) 1 (ten 0x53 0 1) zeros (quiet 0 4 (shelf_of 0 (holding 1 0 result) zeros two three) (fresh ++ replicate 4 0xAA))
    -- "zero length is GOOD for 50h, 51h and 53h"
    ∷ row bench [] 1 (ten 0x50 9 0) [] (quiet 0 0 bench room)
    ∷ row bench [] 1 (ten 0x51 9 0) [] (quiet 0 0 bench room)
    ∷ row bench [] 1 (ten 0x53 9 0) [] (quiet 0 0 bench room)
    ∷ []

abbrev pub refusals : List Row
refusals =
    -- check 1: "a known code with another length"
    row bench [] 1 (0x50 ∷ replicate 15 0) [] (quiet 259 0 bench room)
    ∷ row bench [] 1 (0x51 ∷ []) [] (quiet 259 0 bench room)
    ∷ row bench [] 1 (0x52 ∷ replicate 8 0) [] (quiet 259 0 bench room)
    ∷ row bench [] 1 (0x53 ∷ replicate 10 0) [] (quiet 259 0 bench room)
    -- check 2: "unknown code no longer covers 50h to 53h", and those beside them still are unknown
    ∷ refusal (ten 0x4F 0 1) fresh 0x05 0x20
    ∷ refusal (ten 0x54 0 1) fresh 0x05 0x20
    -- check 3
    ∷ row (shelf_of 1 vacant one two three) [] 3 (ten 0x53 0 1) fresh (refused 0x02 0x04 (shelf_of 1 vacant one two three) room)
    -- check 4: "other bits of byte 1 are zero"
    ∷ refusal (ten_with 0x50 0x20 0 1) fresh 0x05 0x24
    ∷ refusal (ten_with 0x51 0x04 0 1) fresh 0x05 0x24
    ∷ refusal (ten_with 0x52 0x10 0 1) [] 0x05 0x24
    ∷ refusal (ten_with 0x53 0x02 0 1) fresh 0x05 0x24
    -- byte 6, and the last
    ∷ refusal (0x50 ∷ 0 ∷ 0 ∷ 0 ∷ 0 ∷ 0 ∷ 1 ∷ 0 ∷ 1 ∷ 0 ∷ []) fresh 0x05 0x24
    ∷ refusal (0x50 ∷ 0 ∷ 0 ∷ 0 ∷ 0 ∷ 0 ∷ 0 ∷ 0 ∷ 1 ∷ 1 ∷ []) fresh 0x05 0x24
    ∷ refusal (0x53 ∷ 0 ∷ 0 ∷ 0 ∷ 0 ∷ 0 ∷ 1 ∷ 0 ∷ 1 ∷ 0 ∷ []) fresh 0x05 0x24
    ∷ refusal (0x53 ∷ 0 ∷ 0 ∷ 0 ∷ 0 ∷ 0 ∷ 0 ∷ 0 ∷ 1 ∷ 1 ∷ []) fresh 0x05 0x24
    -- "limit M", before the range and the data-out count
    ∷ refusal (ten 0x50 0 3) fresh 0x05 0x24
    ∷ refusal (ten 0x51 0 3) fresh 0x05 0x24
    ∷ refusal (ten 0x53 0 3) fresh 0x05 0x24
    -- check 5: "sends length*L"
    ∷ row bench [] 1 (ten 0x50 0 1) (fresh ++ zeros) (quiet 260 0 bench room)
    ∷ row bench [] 1 (ten 0x53 0 2) fresh (quiet 260 0 bench room)
    ∷ row bench [] 1 (ten 0x52 0 1) fresh (quiet 260 0 bench room)
    -- check 8
    ∷ refusal (ten 0x50 2 1) fresh 0x05 0x21
    ∷ refusal (ten 0x53 1 2) (fresh ++ zeros) 0x05 0x21
    ∷ refusal (ten 0x51 2 1) fresh 0x05 0x21
    -- "52h follows XDREAD": no result, a length of 0, another length; what is retained stays
    ∷ refusal (ten 0x52 0 1) [] 0x05 0x24
    ∷ refusal (ten 0x52 0 0) [] 0x05 0x24
    ∷ row bench (kept ∷ []) 1 (ten 0x52 0 2) [] (refused 0x05 0x24 after_c2 room)
    -- check 11: nothing is written or freed, and the room stays
    ∷ (record { start = bench; before = kept ∷ []; target = 1; cdb = ten 0x52 0 1; sent = []; room = short; want = quiet 261 0 after_c2 short })
    ∷ (record { start = bench; before = []; target = 1; cdb = ten 0x53 0 1; sent = fresh; room = short; want = quiet 261 0 bench short })
    ∷ []

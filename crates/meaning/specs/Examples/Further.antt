-- What C1 to C11 cannot tell, one command each: Mirror, Int Data, FFFFFFFFh, more sources than two, a source listed twice, nested refusals
-- but the failed secondary, whose state and whose address decide.
use Rattle.std.specs.Prelude.{ℕ, List, [], ◌∷◌, ◌++◌}
use Rattle.octets.specs.Put.{put}
use Rattle.image.specs.Bench.{four, zeros, shelf_of, vacant, holding, one, two, three, bench, fresh}
use Rattle.meaning.specs.Examples.Row.{Row, quiet, refused, absent, nested}
use Rattle.meaning.specs.Examples.Cases.{xdwrite, xdwrite_to, ten, list_with, list_cdb, head_at, head, source_bytes, room, row}
use Rattle.meaning.specs.Examples.Several.{letter}

-- a command to drive 1 of the bench shelf that leaves this image, or is refused
abbrev does : List ℕ → List ℕ → List ℕ → Row
does cdb sent image = row bench [] 1 cdb sent (quiet 0 0 image room)

abbrev refusal : List ℕ → List ℕ → ℕ → ℕ → Row
refusal cdb sent key code = row bench [] 1 cdb sent (refused key code bench room)

-- a list of one source, at a block
abbrev from : ℕ → ℕ → ℕ → List ℕ
from own address block = head_at 1 own ++ four 0 0 0 address ++ four 0 0 0 block

-- six drives of one block, and no slot; drive 1 holds this block
abbrev six : List ℕ → List ℕ
six block =
    four 0 0 0 6 ++ four 0 0 0 1 ++ four 0 0 0 4 ++ zeros ++ four 0 0 0 1 ++ four 0 0 0 32 ++ four 0 0 0 56 ++ four 0 0 0 56
    ++ four 0 0 0 1 ++ four 0 0 0 2 ++ four 0 0 0 3 ++ four 0 0 0 4 ++ four 0 0 0 5 ++ four 0 0 0 6
    ++ block ++ letter 0x02 ++ letter 0x04 ++ letter 0x08 ++ letter 0x10 ++ letter 0x20

abbrev to_end : List ℕ
to_end = four 0xFF 0xFF 0xFF 0xFF

abbrev pub works : List Row
works =
    -- "or written plainly with Mirror"; "or the data itself with Mirror"
    does (xdwrite 0x40) fresh (shelf_of 0 vacant fresh two fresh)
    ∷ does (xdwrite 0x46) fresh (shelf_of 0 (holding 1 0 fresh) fresh two three)
    -- "With Int Data the intermediate data .. is one more operand."
    ∷ does (list_with 0xC3 0x04 (four 0 0 0 1) 0x10) (head 1 ++ source_bytes 3 ++ letter 0x0F) (shelf_of 0 vacant (four 0x04 0x06 0x00 0x06) two three)
    ∷ does (list_with 0xC4 0x04 (four 0 0 0 1) 0x18) (head 2 ++ source_bytes 2 ++ source_bytes 2 ++ letter 0xFF) (shelf_of 0 (holding 2 0 (four 0xF5 0xF4 0xF3 0xF2)) one two three)
    -- "length FFFFFFFFh means to the last block": block 1 of drive 1, and nothing else
    ∷ does (list_with 0xC3 0x00 to_end 0x10) (from 1 2 0) (put bench 72 two)
    -- three sources, and five
    ∷ row (six zeros) [] 1 (list_cdb 0xC3 0x20) (head 3 ++ source_bytes 2 ++ source_bytes 3 ++ source_bytes 4) (quiet 0 0 (six (letter 0x0E)) room)
    ∷ row (six zeros) [] 1 (list_cdb 0xC3 0x30) (head 5 ++ source_bytes 2 ++ source_bytes 3 ++ source_bytes 4 ++ source_bytes 5 ++ source_bytes 6) (quiet 0 0 (six (letter 0x3E)) room)
    -- "A source listed twice at one block cancels."
    ∷ does (list_cdb 0xC3 0x18) (head 2 ++ source_bytes 2 ++ source_bytes 2) (shelf_of 0 vacant zeros two three)
    -- the target's own block is no operand of REBUILD: here it holds something
    ∷ row (shelf_of 0 vacant fresh two three) [] 1 (list_cdb 0xC3 0x18) (head 2 ++ source_bytes 2 ++ source_bytes 3) (quiet 0 0 bench room)
    -- WRITE stores, whatever was there
    ∷ does (ten 0x2A 0 1) fresh (shelf_of 0 vacant fresh two three)
    ∷ []

abbrev pub refusals : List Row
refusals =
    -- check 3: it is the target whose state decides
    row (shelf_of 1 vacant one two three) [] 3 (ten 0x28 0 1) [] (refused 0x02 0x04 (shelf_of 1 vacant one two three) room)
    -- check 4: "secondary address equal to the target's (Sec Ctl 00, 10)"
    ∷ refusal (xdwrite_to 0x00 1 1) fresh 0x05 0x24
    -- check 7: "a source that is the target", wherever it stands
    ∷ refusal (list_cdb 0xC3 0x18) (head 2 ++ source_bytes 9 ++ source_bytes 1) 0x05 0x26
    -- check 8: "REBUILD FFFFFFFFh with block at or above B"
    ∷ refusal (list_with 0xC3 0x00 to_end 0x10) (from 2 2 0) 0x05 0x21
    -- check 8 before check 11: out of range, into no room
    ∷ record { start = bench; before = []; target = 1; cdb = ten 0x28 1 2; sent = []; room = []; want = refused 0x05 0x21 bench [] }
    -- check 10: an address that is not in the table, the secondary's and a source's
    ∷ row bench [] 1 (xdwrite_to 0x00 9 0) fresh (absent bench room)
    ∷ row bench [] 1 (list_cdb 0xC3 0x10) (from 0 9 0) (absent bench room)
    -- a range beyond B, the secondary's and a source's; by a length that was resolved
    ∷ row bench [] 1 (xdwrite_to 0x00 3 2) fresh (nested 0x05 0x21 bench room)
    ∷ row bench [] 1 (list_cdb 0xC3 0x10) (from 0 2 2) (nested 0x05 0x21 bench room)
    ∷ row bench [] 1 (list_with 0xC3 0x00 to_end 0x10) (from 0 2 1) (nested 0x05 0x21 bench room)
    ∷ []

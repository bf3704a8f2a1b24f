-- 01, "Bench shelf": C1 to C11 as one table. "Each case starts there." A room of 8 bytes and drive 1 where 01 names none.
use Rattle.std.specs.Prelude.{ℕ, List, [], ◌∷◌, ◌++◌, replicate}
use Rattle.image.specs.Bench.{four, zeros, shelf_of, vacant, holding, one, two, three, bench, fresh, result, after_c2}
use Rattle.drives.specs.Table.{to}
use Rattle.meaning.specs.Calls.{Call, command}
use Rattle.meaning.specs.Examples.Row.{Showed, Row, quiet, refused, nested}

-- drive 3's block with C1's result
abbrev pub parity : List ℕ
parity = four 0xFE 0x02 0xFC 0x04

-- the slot with its record zeroed and its data left
abbrev pub left : List ℕ → List ℕ
left bytes = replicate 16 0 ++ bytes ++ zeros

-- C0 with byte 1 given, block 0, length 1, a secondary and its block, or secondary 3 at block 0; a 10-byte command at a block, with byte 1
-- given or zero; C3 and C4 with byte 1 given, of a length, or plain and of length 1
abbrev pub xdwrite_to : ℕ → ℕ → ℕ → List ℕ
xdwrite_to flags address block = 0xC0 ∷ flags ∷ 0 ∷ 0 ∷ 0 ∷ 0 ∷ 0 ∷ 1 ∷ 0 ∷ 0 ∷ address ∷ 0 ∷ 0 ∷ 0 ∷ block ∷ 0 ∷ []

abbrev pub xdwrite : ℕ → List ℕ
xdwrite flags = xdwrite_to flags 3 0

abbrev pub ten_with : ℕ → ℕ → ℕ → ℕ → List ℕ
ten_with code flags block n = code ∷ flags ∷ 0 ∷ 0 ∷ 0 ∷ block ∷ 0 ∷ 0 ∷ n ∷ 0 ∷ []

abbrev pub ten : ℕ → ℕ → ℕ → List ℕ
ten code block n = ten_with code 0 block n

abbrev pub list_with : ℕ → ℕ → List ℕ → ℕ → List ℕ
list_with code flags length n = code ∷ flags ∷ length ++ 0 ∷ 0 ∷ n ∷ 0 ∷ []

abbrev pub list_cdb : ℕ → ℕ → List ℕ
list_cdb code n = list_with code 0 (four 0 0 0 1) n

-- a list of n sources with an own block, or own block 0, and a source at block 0
abbrev pub head_at : ℕ → ℕ → List ℕ
head_at n block = n ∷ 1 ∷ 0 ∷ 0 ∷ 0 ∷ 0 ∷ 0 ∷ block ∷ []

abbrev pub head : ℕ → List ℕ
head n = head_at n 0

abbrev pub source_bytes : ℕ → List ℕ
source_bytes address = 0 ∷ 0 ∷ 0 ∷ address ∷ zeros

abbrev pub room : List ℕ
room = replicate 8 0xAA

abbrev pub row : List ℕ → List Call → ℕ → List ℕ → List ℕ → Showed → Row
row start before target cdb sent want = record { start = start; before = before; target = target; cdb = cdb; sent = sent; room = room; want = want }

-- "C2 Same, byte 1 06h"
abbrev pub c2 : Call
c2 = command (to 1) (xdwrite 0x06) fresh room

abbrev pub table : List Row
table =
    -- C1: "GOOD; drive 1 FF00FF00, drive 3 FE02FC04."
    row bench [] 1 (xdwrite 0x00) fresh (quiet 0 0 (shelf_of 0 vacant fresh two parity) room)
    -- C2: "drive 3 unchanged, F50BF30D retained."
    ∷ row bench [] 1 (xdwrite 0x06) fresh (quiet 0 0 after_c2 room)
    -- C3: "C2, then XDREAD block 0 length 1: F50BF30D; XPWRITE of it to 3 gives FE02FC04."
    ∷ row bench (c2 ∷ []) 1 (ten 0xC2 0 1) [] (quiet 0 4 (shelf_of 0 (left result) fresh two three) (result ++ replicate 4 0xAA))
    ∷ row bench (c2 ∷ command (to 1) (ten 0xC2 0 1) [] room ∷ []) 3 (ten 0xC1 0 1) result (quiet 0 0 (shelf_of 0 (left result) fresh two parity) room)
    -- C4: "C2 twice: the second is BUSY."
    ∷ row bench (c2 ∷ []) 1 (xdwrite 0x06) fresh (quiet 8 0 after_c2 room)
    -- C5: "C2, XDREAD length 2: 05h/24h/00h, still retained."
    ∷ row bench (c2 ∷ []) 1 (ten 0xC2 0 2) [] (refused 0x05 0x24 after_c2 room)
    -- C6: "C1 with byte 1 20h: 05h/24h/00h."
    ∷ row bench [] 1 (xdwrite 0x20) fresh (refused 0x05 0x24 bench room)
    -- C7: "Drive 1 block 0 zeroed, .., sources 2 and 3 at 0: drive 1 block 0 is 0A0B0C0D."
    ∷ row (shelf_of 0 vacant zeros two three) [] 1 (list_cdb 0xC3 0x18) (head 2 ++ source_bytes 2 ++ source_bytes 3) (quiet 0 0 bench room)
    -- C8: "To 2: REGENERATE block 0, source 3: 0A0B0C0D retained."
    ∷ row bench [] 2 (list_cdb 0xC4 0x10) (head 1 ++ source_bytes 3) (quiet 0 0 (shelf_of 0 (holding 2 1 one) one two three) room)
    -- C9: "C1 with drive 3 failed: nothing written; sense 70 00 0B 00 00 00 00 1D 00 12 .. 02 70 00 02 .. 0A .. 04 ..", in full as `nested` has it
    ∷ row (shelf_of 1 vacant one two three) [] 1 (xdwrite 0x00) fresh (nested 0x02 0x04 (shelf_of 1 vacant one two three) room)
    -- C10: "READ block 1 length 1 GOOD; length 2: 05h/21h/00h."
    ∷ row bench [] 1 (ten 0x28 1 1) [] (quiet 0 4 bench (zeros ++ replicate 4 0xAA))
    ∷ row bench [] 1 (ten 0x28 1 2) [] (refused 0x05 0x21 bench room)
    -- C11: "XPWRITE block 9 length 0: GOOD."
    ∷ row bench [] 1 (ten 0xC1 9 0) [] (quiet 0 0 bench room)
    ∷ []

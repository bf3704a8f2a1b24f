-- The bench shelf with the published codes of 02, A1: a run that pays what it owes, mixed with a code of 01, and a REBUILD after it; then
-- a result of XDWRITEREAD that is owed until it is carried, once.
use Rattle.std.specs.Prelude.{ℕ, true, false, List, [], ◌∷◌, ◌++◌}
use Rattle.drives.specs.Table.{to}
use Rattle.image.specs.Bench.{four, zeros, shelf_of, fresh, result}
use Rattle.meaning.specs.Calls.{Call, command}
use Rattle.meaning.specs.Examples.Cases.{left, ten_with, ten, room}
use Rattle.parity.specs.Ledger.{Fate, Read, Carried, Line, line}
use Rattle.parity.specs.Example.{result_on, of_first, carry_by}

-- ---- a run that pays

-- data to block 0 of drive 1 by 53h, its byte 1 given
abbrev pub xdwriteread : ℕ → List ℕ → Call
xdwriteread flags sent = command (to 1) (ten_with 0x53 flags 0 1) sent room

-- drive 2's result
abbrev pub change : List ℕ
change = four 0x10 0x20 0x30 0x40

-- 53h, and 51h carries its result; 50h to drive 2, 52h reads its result and C1h carries it; 53h with DISABLE WRITE, which owes nothing
abbrev pub settling : List Call
settling =
    xdwriteread 0x00 fresh
    ∷ carry_by 0x51 result
    ∷ command (to 2) (ten 0x50 0 1) (four 0x11 0x22 0x33 0x44) room
    ∷ command (to 2) (ten 0x52 0 1) [] room
    ∷ carry_by 0xC1 change
    ∷ xdwriteread 0x04 zeros
    ∷ []

abbrev pub settled_image : List ℕ
settled_image = shelf_of 0 (left change) fresh (four 0x11 0x22 0x33 0x44) (four 0xEE 0x22 0xCC 0x44)

abbrev pub settled_ledger : List Line
settled_ledger = line (of_first fresh) false Read ∷ line (result_on 1 change) true Carried ∷ line (of_first result) true Carried ∷ []

-- the last 53h once more, now without DISABLE WRITE: the same bytes are handed out, and they are owed
abbrev pub owing : List Call
owing = settling ++ xdwriteread 0x00 zeros ∷ []

abbrev pub owing_ledger : Fate → List Line
owing_ledger fate = line (of_first fresh) true fate ∷ settled_ledger

-- 01, "Answers and the order of checks": "The first that applies decides". Within one check the rules stand by the byte they look at.
-- The published codes of 02, A1, have the same checks in the same order. What an operation has is in the table of `command`.
-- A rule is: 01's check, where it is seen, whether it applies, the answer. `room` is the receive room's length.
use Rattle.std.specs.Prelude.{ℕ, ◌+◌, ◌*◌, Bool, false, not, ◌&&◌, cond, List, [], ◌∷◌, ◌++◌, ltb, eqb, length, get_or, Option, Some, None, is_none, Ok, Err, is_err}
use Rattle.std.specs.Int.Bits.{bit_and}
use Rattle.octets.specs.Number.{be}
use Rattle.rules.specs.Rule.{Rule, rule, first}
use Rattle.folds.specs.Least.{index}
use Rattle.geometry.specs.declared.Geometry.{Geometry}
use Rattle.geometry.specs.Header.{geometry_of}
use Rattle.drives.specs.declared.Came.{Came}
use Rattle.drives.specs.Table.{target_of, secondary_of, failed}
use Rattle.slots.specs.Record.{slot_of}
use Rattle.slots.specs.Find.{empty_slot, newest_of}
use Rattle.image.specs.Valid.{valid_image}
use Rattle.sense.specs.declared.Answer.{Answer}
use Rattle.sense.specs.declared.Answer.TheVariants.{Good, Busy, BadImage, NoTarget, BadCdb, WrongCount, ShortRoom, UnknownCode, TargetFailed, BadField, BadListLength, BadList, BadRange, NestedAddress, NestedFailed, NestedRange}
use Rattle.command.specs.declared.Op.{Op}
use Rattle.command.specs.declared.Op.TheVariants.{XdWrite, XpWrite, XdRead, Rebuild, Regenerate, Read, Write, XdWriteTen, XdWriteRead, Unknown}
use Rattle.command.specs.declared.Command.{Command}
use Rattle.command.specs.declared.Layout.{Layout}
use Rattle.command.specs.declared.Layout.TheVariants.{Sixteen, Ten, ByList}
use Rattle.command.specs.Command.{Limit, UpToM, NotToEnd, NoLimit, Moves, DataSent, ListSent, HandedOut, Exchanged, NoBytes, Works, OnBlocks, OnResult, Keeping, Always, WithEleven, Never, has, op_of, size_of, zero_bits, command_of, mirror_of, ndisc_of, sec_of, int_of, list_sec_of, disable_of, own_of, resolved_of, list_bytes}
use Rattle.meaning.specs.declared.Span.{Span}
use Rattle.meaning.specs.declared.Summing.{Summing}
use Rattle.meaning.specs.declared.Act.TheVariants.{Read as ToRead, Write as ToWrite, XpWrite as ToXpWrite, XdRead as ToXdRead, Couple, Retain, Rebuild as ToRebuild, Regenerate as ToRegenerate, XdWriteRead as ToXdWriteRead}
use Rattle.meaning.specs.declared.Seen.{Seen}
use Rattle.meaning.specs.declared.Seen.TheVariants.{Dash, Cdb, List as InList, Drive, Entry, EntryDrive}
use Rattle.meaning.specs.declared.Fault.{Fault}
use Rattle.meaning.specs.declared.Fault.TheVariants.{Absent, Failed, Beyond}
use Rattle.meaning.specs.declared.Stop.{Stop}
use Rattle.meaning.specs.Decision.{Decision, stop, go}
use Rattle.meaning.specs.Sources.{Vetted, is_at, own_entry, first_bad}

abbrev pub Check : Type 0
Check = Rule Seen Answer

abbrev pub is_unknown : Op → Bool
is_unknown o = eqb (size_of o) 0

-- 1. "Calls 1, 2, 3 in that order.": "1 image not valid; 2 no such target"
abbrev pub calls : List ℕ → Came → List Check
calls m a =
    rule 1 Dash (not (valid_image m)) BadImage
    ∷ rule 1 Dash (is_none (target_of m (geometry_of m) a)) NoTarget
    ∷ []

-- "3 CDB empty, or a known code with another length"
abbrev pub cdb_calls : Op → List ℕ → List Check
cdb_calls o c =
    rule 1 Dash (eqb (length c) 0) BadCdb
    ∷ rule 1 Dash (not (is_unknown o) && not (eqb (length c) (size_of o))) BadCdb
    ∷ []

-- 2. "Unknown code: 05h/20h/00h." 3. "Target failed: 02h/04h/00h."
abbrev pub known : List ℕ → Geometry → ℕ → Op → List Check
known m g t o =
    rule 2 (Cdb 0) (is_unknown o) UnknownCode
    ∷ rule 3 (Drive t) (failed m g t) TargetFailed
    ∷ []

-- 4. "05h/24h/00h: a bit that must be zero", in byte 1, in byte 6 of the 10-byte commands, in the last byte
abbrev pub zero_flags : Op → Command → List Check
zero_flags o k = rule 4 (Cdb 1) (not (eqb (bit_and k.flags (zero_bits o)) 0)) BadField ∷ []

abbrev pub zero_six : Command → List Check
zero_six k = rule 4 (Cdb 6) (not (eqb k.six 0)) BadField ∷ []

abbrev pub zero_control : ℕ → Command → List Check
zero_control at k = rule 4 (Cdb at) (not (eqb k.control 0)) BadField ∷ []

-- "XDWRITE, XPWRITE or REGENERATE length above M"; A1: 53h "has limit M"
abbrev pub above_m : ℕ → Geometry → Command → List Check
above_m at g k = rule 4 (Cdb at) (ltb g.m k.count) BadField ∷ []

-- "REBUILD length FFFFFFFFh with Int Data"
abbrev pub limits : Limit → ℕ → Geometry → Command → List Check
limits UpToM at g k = above_m at g k
limits NotToEnd at g k = rule 4 (Cdb at) (int_of k && eqb k.count 0xFFFFFFFF) BadField ∷ []
limits NoLimit at g k = []

-- "Sec Ctl 01; .. NDisc without 11"
abbrev pub sec_flags : Command → List Check
sec_flags k = rule 4 (Cdb 1) (eqb (sec_of k) 1) BadField ∷ rule 4 (Cdb 1) (not (eqb (sec_of k) 3) && ndisc_of k) BadField ∷ []

-- "Sec Ctl 01; Sec Ctl 11 in REBUILD or REGENERATE"
abbrev pub list_flags : Command → List Check
list_flags k = rule 4 (Cdb 1) (eqb (list_sec_of k) 1) BadField ∷ rule 4 (Cdb 1) (eqb (list_sec_of k) 3) BadField ∷ []

-- "secondary address equal to the target's (Sec Ctl 00, 10)"
abbrev pub own_second : List ℕ → Geometry → ℕ → Command → List Check
own_second m g t k = rule 4 (Cdb 8) (not (eqb (sec_of k) 3) && is_at t (secondary_of m g k.came k.second.0)) BadField ∷ []

abbrev pub fields_by : Option Layout → Limit → Op → List ℕ → Geometry → ℕ → Command → List Check
fields_by (Some Sixteen) x o m g t k = zero_flags o k ++ sec_flags k ++ limits x 6 g k ++ own_second m g t k ++ zero_control 15 k
fields_by (Some Ten) x o m g t k = zero_flags o k ++ zero_six k ++ limits x 7 g k ++ zero_control 9 k
fields_by (Some ByList) x o m g t k = zero_flags o k ++ list_flags k ++ limits x 2 g k ++ zero_six k ++ zero_control 9 k
fields_by None x o m g t k = []

abbrev pub fields : Op → List ℕ → Geometry → ℕ → Command → List Check
fields o m g t k = fields_by (has o).layout (has o).limit o m g t k

-- 5. "Call 4. XDWRITE, XPWRITE, WRITE send length*L; REBUILD and REGENERATE list length plus, with Int Data, length*L, or nothing if the
-- list length is 0; READ and XDREAD nothing." A1: 53h "sends length*L".
abbrev pub sends_by : Moves → Geometry → Command → ℕ
sends_by DataSent g k = k.count * g.l
sends_by ListSent g k = list_bytes k g.l
sends_by HandedOut g k = 0
sends_by Exchanged g k = k.count * g.l
sends_by NoBytes g k = 0

abbrev pub sends : Op → Geometry → Command → ℕ
sends o g k = sends_by (has o).moves g k

-- 6. "GOOD for zero length (READ, WRITE, XDWRITE, XPWRITE) or list length zero." A1: "zero length is GOOD for 50h, 51h and 53h".
abbrev pub idle_at : Option Layout → Command → List Check
idle_at (Some Sixteen) k = rule 6 (Cdb 6) (eqb k.count 0) Good ∷ []
idle_at (Some Ten) k = rule 6 (Cdb 7) (eqb k.count 0) Good ∷ []
idle_at (Some ByList) k = rule 6 (Cdb 7) (eqb k.list 0) Good ∷ []
idle_at None k = []

abbrev pub idle_by : Works → Option Layout → Command → List Check
idle_by OnBlocks l k = idle_at l k
idle_by OnResult l k = []

abbrev pub idle : Op → Command → List Check
idle o k = idle_by (has o).works (has o).layout k

-- 7. "List length not 8 + 8*sources, or below 8: 05h/1Ah/00h."
abbrev pub list_length : Command → List ℕ → List Check
list_length k s =
    rule 7 (Cdb 7) (ltb k.list 8) BadListLength
    ∷ rule 7 (Cdb 7) (not (eqb k.list (8 + 8 * get_or s 0 0))) BadListLength
    ∷ []

-- "Then no sources, type not 01, bytes 2-3 not zero, or a source that is the target: 05h/26h/00h."
abbrev pub list_head : List ℕ → Geometry → Came → ℕ → List ℕ → List Check
list_head m g a t s =
    rule 7 (InList 0) (eqb (get_or s 0 0) 0) BadList
    ∷ rule 7 (InList 1) (not (eqb (get_or s 1 0) 1)) BadList
    ∷ rule 7 (InList 2) (not (eqb (be 2 s 2) 0)) BadList
    ∷ rule 7 (Entry (index (own_entry m g a s (get_or s 0 0) t)) 0) (not (is_none (own_entry m g a s (get_or s 0 0) t))) BadList
    ∷ []

-- "Then GOOD for length 0."
abbrev pub list_rules : List ℕ → Geometry → ℕ → Command → List ℕ → List Check
list_rules m g t k s = list_length k s ++ list_head m g k.came t s ++ rule 7 (Cdb 2) (eqb k.count 0) Good ∷ []

abbrev pub lists_by : Option Layout → List ℕ → Geometry → ℕ → Command → List ℕ → List Check
lists_by (Some Sixteen) m g t k s = []
lists_by (Some Ten) m g t k s = []
lists_by (Some ByList) m g t k s = list_rules m g t k s
lists_by None m g t k s = []

abbrev pub lists : Op → List ℕ → Geometry → ℕ → Command → List ℕ → List Check
lists o m g t k s = lists_by (has o).layout m g t k s

-- "the step works on the command with that length resolved"
abbrev pub resolved : Geometry → Command → List ℕ → Command
resolved g k s = resolved_of (own_of k s) g.b

-- 8. "Others: block + length above B, or REBUILD FFFFFFFFh with block at or above B: 05h/21h/00h." Such a length is not resolved, and is above B.
abbrev pub in_range : Seen → Geometry → Command → List Check
in_range w g k = rule 8 w (ltb g.b (k.block.0 + k.count)) BadRange ∷ []

abbrev pub range_at : Option Layout → Geometry → Command → List ℕ → List Check
range_at (Some Sixteen) g k s = in_range (Cdb 2) g k
range_at (Some Ten) g k s = in_range (Cdb 2) g k
range_at (Some ByList) g k s = in_range (InList 4) g (resolved g k s)
range_at None g k s = []

-- "XDREAD without a match or with another length: 05h/24h/00h."
abbrev pub match_rules : List ℕ → Geometry → ℕ → Command → List Check
match_rules m g t k =
    rule 8 (Cdb 2) (is_none (newest_of m g t k.block.0)) BadField
    ∷ rule 8 (Cdb 7) (not (eqb (slot_of m g (index (newest_of m g t k.block.0))).len k.count)) BadField
    ∷ []

abbrev pub ranges_by : Works → Option Layout → List ℕ → Geometry → ℕ → Command → List ℕ → List Check
ranges_by OnBlocks l m g t k s = range_at l g k s
ranges_by OnResult l m g t k s = match_rules m g t k

abbrev pub ranges : Op → List ℕ → Geometry → ℕ → Command → List ℕ → List Check
ranges o m g t k s = ranges_by (has o).works (has o).layout m g t k s

-- 9. "Something to retain and no empty slot: BUSY." A1: "50h always retains", and 53h "takes no slot".
abbrev pub busy_by : Keeping → List ℕ → Geometry → Command → List Check
busy_by Always m g k = rule 9 Dash (is_none (empty_slot m g)) Busy ∷ []
busy_by WithEleven m g k = rule 9 Dash (eqb (sec_of k) 3 && is_none (empty_slot m g)) Busy ∷ []
busy_by Never m g k = []

abbrev pub busy : Op → List ℕ → Geometry → Command → List Check
busy o m g k = busy_by (has o).keeps m g k

-- 10. "Nested: the secondary, or the first source entry in list order that fails decides; for one entry, address, then failed drive,
-- then range."
abbrev pub fault_seen : Vetted → Seen
fault_seen (Ok u) = Dash
fault_seen (Err (Absent i)) = Entry i 0
fault_seen (Err (Failed i d)) = EntryDrive i d
fault_seen (Err (Beyond i)) = Entry i 4

abbrev pub fault_answer : Vetted → Answer
fault_answer (Ok u) = Good
fault_answer (Err (Absent i)) = NestedAddress
fault_answer (Err (Failed i d)) = NestedFailed
fault_answer (Err (Beyond i)) = NestedRange

abbrev pub stop_of : Fault → Stop
stop_of f = record { number = 10; seen = fault_seen (Err f); answer = fault_answer (Err f) }

abbrev pub source_rules : Vetted → List Check
source_rules f = rule 10 (fault_seen f) (is_err f) (fault_answer f) ∷ []

abbrev pub second_rules : List ℕ → Geometry → Command → Option ℕ → List Check
second_rules m g k f =
    rule 10 (Cdb 8) (not (eqb (sec_of k) 3) && is_none f) NestedAddress
    ∷ rule 10 (Drive (index f)) (not (eqb (sec_of k) 3) && failed m g (index f)) NestedFailed
    ∷ rule 10 (Cdb 11) (not (eqb (sec_of k) 3) && ltb g.b (k.spot.0 + k.count)) NestedRange
    ∷ []

abbrev pub nested_by : Option Layout → List ℕ → Geometry → Command → List ℕ → List Check
nested_by (Some Sixteen) m g k s = second_rules m g k (secondary_of m g k.came k.second.0)
nested_by (Some Ten) m g k s = []
nested_by (Some ByList) m g k s = source_rules (first_bad m g k.came s (resolved g k s).count 0 (get_or s 0 0))
nested_by None m g k s = []

abbrev pub nested : Op → List ℕ → Geometry → Command → List ℕ → List Check
nested o m g k s = nested_by (has o).layout m g k s

-- 11. "Call 5." A1: 53h "puts the XOR in the receive room".
abbrev pub room_rule : Geometry → Command → ℕ → List Check
room_rule g k room = rule 11 Dash (ltb room (k.count * g.l)) ShortRoom ∷ []

abbrev pub rooms_by : Moves → Geometry → Command → ℕ → List Check
rooms_by DataSent g k room = []
rooms_by ListSent g k room = []
rooms_by HandedOut g k room = room_rule g k room
rooms_by Exchanged g k room = room_rule g k room
rooms_by NoBytes g k room = []

abbrev pub rooms : Op → Geometry → Command → ℕ → List Check
rooms o g k room = rooms_by (has o).moves g k room

-- what is done where no check applies, and the answer to it
abbrev pub span_of : ℕ → Command → Span
span_of t k = record { drive = t; block = k.block; count = k.count }

abbrev pub second_of : Option ℕ → Command → Span
second_of f k = record { drive = index f; block = k.spot; count = k.count }

abbrev pub sum_of : Command → Summing
sum_of k = record { int = int_of k; came = k.came }

abbrev pub acts : Op → List ℕ → Geometry → ℕ → Command → List ℕ → Decision
acts XdWrite m g t k s =
    cond (eqb (sec_of k) 3)
    (go (Retain (span_of t k) (index (empty_slot m g)) (mirror_of k) (ndisc_of k)) Good)
    (go (Couple (span_of t k) (second_of (secondary_of m g k.came k.second.0) k) (mirror_of k)) Good)
acts XpWrite m g t k s = go (ToXpWrite (span_of t k)) Good
acts XdRead m g t k s = go (ToXdRead (span_of t k) (index (newest_of m g t k.block.0))) Good
acts Rebuild m g t k s = go (ToRebuild (span_of t (resolved g k s)) (sum_of k)) Good
acts Regenerate m g t k s = go (ToRegenerate (span_of t (resolved g k s)) (sum_of k) (index (empty_slot m g))) Good
acts Read m g t k s = go (ToRead (span_of t k)) Good
acts Write m g t k s = go (ToWrite (span_of t k)) Good
-- A1: "50h always retains", as XDWRITE with Sec Ctl 11 does, DISABLE WRITE for NDisc
acts XdWriteTen m g t k s = go (Retain (span_of t k) (index (empty_slot m g)) false (disable_of k)) Good
acts XdWriteRead m g t k s = go (ToXdWriteRead (span_of t k) (disable_of k)) Good
acts Unknown m g t k s = stop 2 (Cdb 0) UnknownCode

-- checks 4 to 11
abbrev pub command_checks : Op → List ℕ → Geometry → ℕ → Command → List ℕ → ℕ → List Check
command_checks o m g t k s room =
    fields o m g t k
    ++ rule 5 Dash (not (eqb (length s) (sends o g k))) WrongCount
    ∷ idle o k
    ++ lists o m g t k s
    ++ ranges o m g t k s
    ++ busy o m g k
    ++ nested o m g k s
    ++ rooms o g k room

-- all checks, in 01's order
abbrev pub checks_for : Op → List ℕ → Geometry → Came → ℕ → List ℕ → List ℕ → ℕ → List Check
checks_for o m g a t c s room = calls m a ++ cdb_calls o c ++ known m g t o ++ command_checks o m g t (command_of o a c) s room

-- of image m itself, and what is done where none applies
abbrev pub checks : Op → List ℕ → Came → List ℕ → List ℕ → ℕ → List Check
checks o m a c s room = checks_for o m (geometry_of m) a (index (target_of m (geometry_of m) a)) c s room

abbrev pub carried_out : Op → List ℕ → Came → List ℕ → List ℕ → Decision
carried_out o m a c s = acts o m (geometry_of m) (index (target_of m (geometry_of m) a)) (command_of o a c) s

-- "The first that applies decides"
abbrev pub decide_for : Op → List ℕ → Came → List ℕ → List ℕ → ℕ → Decision
decide_for o m a c s room = first stop (checks o m a c s room) (carried_out o m a c s)

-- for the operation that the CDB's first byte says
unfoldable pub decide_of : List ℕ → Came → List ℕ → List ℕ → ℕ → Decision
decide_of m a c s room = decide_for (op_of (get_or c 0 0)) m a c s room

-- 01, "Commands", with checks 4 to 11 of each: what is looked at, byte by byte, and what is done where no check applies. m is the image, h
-- its header, t the target's index, c the CDB, s the data-out bytes, r the receive room's length.
use Rattle.std.specs.Prelude.{ℕ, zero, suc, ◌+◌, ◌*◌, ◌-◌, ◌/◌, ◌%◌, Bool, false, not, ◌&&◌, cond, List, [], ◌∷◌, ◌++◌, leb, ltb, eqb, length, get_or, Option, Some, None, is_none}
use Rattle.std.specs.Int.Bits.{bit_and}
use Rattle.octets.specs.Part.{part}
use Rattle.octets.specs.Put.{put}
use Rattle.octets.specs.Xor.{◌⊻◌}
use Rattle.octets.specs.Operands.{xor_all}
use Rattle.octets.specs.Number.{be}
use Rattle.rules.specs.Rule.{Rule, rule}
use Rattle.folds.specs.Least.{least_below, index}
use Rattle.frozen.specs.Image.{Header, slot_at, block_at, blocks, failed, drive_of, slot}
use Rattle.frozen.specs.Results.{empty_slot, retained_over, newest, released}
use Rattle.frozen.specs.Answers.{Answer, good, busy, call, refusal, absent, nested}

-- ---- checks

-- its number in 01's list, whether it applies, the answer
abbrev pub Check : Type 0
Check = Rule (Unit {0}) Answer

abbrev pub check : ℕ → Bool → Answer → Check
check n b x = rule n tt b x

-- the lookup gives drive t
abbrev pub is_at : ℕ → Option ℕ → Bool
is_at t (Some i) = eqb i t
is_at t None = false

-- 4. "05h/24h/00h", 8. "05h/21h/00h"
abbrev pub bad_field : Answer
bad_field = refusal 0x05 0x24

abbrev pub bad_range : Answer
bad_range = refusal 0x05 0x21

-- 4. "a bit that must be zero": of byte 1; of another byte
abbrev pub zero_bits : ℕ → List ℕ → Check
zero_bits bits c = check 4 (not (eqb (bit_and (get_or c 1 0) bits) 0)) bad_field

abbrev pub zero_byte : ℕ → List ℕ → Check
zero_byte i c = check 4 (not (eqb (get_or c i 0) 0)) bad_field

-- 5. "Call 4.": so many data-out bytes are due
abbrev pub sends : ℕ → List ℕ → Check
sends n s = check 5 (not (eqb (length s) n)) (call 4)

-- 6. "GOOD for zero length": where it is n; 8. "block + length above B"; 11. "Call 5.": the room has to take n bytes
abbrev pub idle : ℕ → Check
idle n = check 6 (eqb n 0) good

abbrev pub range : Header → ℕ → ℕ → Check
range h b n = check 8 (ltb h.B (b + n)) bad_range

abbrev pub room_for : ℕ → ℕ → Check
room_for n r = check 11 (ltb r n) (call 5)

-- ---- what is done: what is left of the image, and what goes to the receive room's front

pub record Done : Type 0 where
  pub image : List ℕ
  pub hands : List ℕ

abbrev pub leaves : List ℕ → Done
leaves m = record { image = m; hands = [] }

-- a command: how many bytes its CDB has, its checks from 4 on, and what is done
pub record Plan : Type 0 where
  pub size : ℕ
  pub checks : List Check
  pub done : Done

abbrev pub plan : ℕ → List Check → Done → Plan
plan size checks done = record { size = size; checks = checks; done = done }

-- ---- "block 2-5, length 7-8"

abbrev pub block : List ℕ → ℕ
block c = be 4 c 2

abbrev pub count : List ℕ → ℕ
count c = be 2 c 7

-- "XPWRITE, READ and WRITE: bit 4 DPO, 3 FUA."
module _ (m : List ℕ) (h : Header) (t : ℕ) (c s : List ℕ) (r : ℕ) where
  abbrev pub read : Plan
  read =
      plan 10 (zero_bits 0xE7 c ∷ zero_byte 6 c ∷ zero_byte 9 c ∷ sends 0 s ∷ idle (count c) ∷ range h (block c) (count c) ∷ room_for (count c * h.L) r ∷ [])
      (record { image = m; hands = blocks m h t (block c) (count c) })

  abbrev pub write : Plan
  write =
      plan 10 (zero_bits 0xE7 c ∷ zero_byte 6 c ∷ zero_byte 9 c ∷ sends (count c * h.L) s ∷ idle (count c) ∷ range h (block c) (count c) ∷ [])
      (leaves (put m (block_at h t (block c)) s))

  -- "XPWRITE: medium becomes old XOR data."
  abbrev pub xpwrite : Plan
  xpwrite =
      plan 10
      (zero_bits 0xE7 c
      ∷ zero_byte 6 c
      ∷ check 4 (ltb h.M (count c)) bad_field
      ∷ zero_byte 9 c
      ∷ sends (count c * h.L) s
      ∷ idle (count c)
      ∷ range h (block c) (count c)
      ∷ [])
      (leaves (put m (block_at h t (block c)) (blocks m h t (block c) (count c) ⊻ s)))

  -- "XDREAD: the associated result is the newest retained on that drive with that block number. Its bytes go to the receive room's front
  -- and it is no longer retained. If its length differs, refused, even where an older one fits."
  abbrev pub xdread_from : Option ℕ → Plan
  xdread_from f =
      plan 10
      (zero_bits 0xFF c
      ∷ zero_byte 6 c
      ∷ zero_byte 9 c
      ∷ sends 0 s
      ∷ check 8 (is_none f) bad_field
      ∷ check 8 (not (eqb (slot m h (index f)).len (count c))) bad_field
      ∷ room_for (count c * h.L) r
      ∷ [])
      (record { image = released m h (index f); hands = part m (slot_at h (index f) + 16) (count c * h.L) })

  abbrev pub xdread : Plan
  xdread = xdread_from (newest m h t (block c))

-- ---- XDWRITE: "block 2-5, length 6-7, secondary address 8-10, secondary block 11-14"

abbrev pub many : List ℕ → ℕ
many c = be 2 c 6

-- "XDWRITE byte 1: bit 6 Mirror, 5 NDisc, 4 DPO, 3 FUA, 2-1 Sec Ctl."
abbrev pub mirror : List ℕ → ℕ
mirror c = get_or c 1 0 / 64 % 2

abbrev pub ndisc : List ℕ → ℕ
ndisc c = get_or c 1 0 / 32 % 2

abbrev pub sec_ctl : List ℕ → ℕ
sec_ctl c = get_or c 1 0 / 2 % 4

module _ (m : List ℕ) (h : Header) (t : ℕ) (c s : List ℕ) where
  abbrev pub second : Option ℕ
  second = drive_of m h (be 3 c 8)

  -- Sec Ctl 00 or 10: "The secondary fields are ignored when Sec Ctl is 11."
  abbrev pub coupled : Bool
  coupled = not (eqb (sec_ctl c) 3)

  -- "result = data XOR old blocks, or the data itself with Mirror"
  abbrev pub result : List ℕ
  result = cond (eqb (mirror c) 0) (s ⊻ blocks m h t (block c) (many c)) s

  -- "Sec Ctl 00 or 10: the result goes to the secondary at its block, XORed into it, or written plainly with Mirror."
  abbrev pub to_second : List ℕ
  to_second =
      put (put m (block_at h t (block c)) s) (block_at h (index second) (be 4 c 11))
      (cond (eqb (mirror c) 0) (blocks m h (index second) (be 4 c 11) (many c) ⊻ result) result)

  -- "NDisc 0 writes the data."; "Sec Ctl 11: the result is retained."
  abbrev pub to_slot : List ℕ
  to_slot = retained_over (cond (eqb (ndisc c) 0) (put m (block_at h t (block c)) s) m) m h (index (empty_slot m h)) 1 t (block c) (many c) result

  abbrev pub xdwrite : Plan
  xdwrite =
      plan 16
      (zero_bits 0x81 c
      -- "Cards have one port, so 01 is refused."
      ∷ check 4 (eqb (sec_ctl c) 1) bad_field
      -- "NDisc without 11"
      ∷ check 4 (coupled && eqb (ndisc c) 1) bad_field
      ∷ check 4 (ltb h.M (many c)) bad_field
      -- "secondary address equal to the target's (Sec Ctl 00, 10)"
      ∷ check 4 (coupled && is_at t second) bad_field
      ∷ zero_byte 15 c
      ∷ sends (many c * h.L) s
      ∷ idle (many c)
      ∷ range h (block c) (many c)
      -- 9. "Something to retain and no empty slot: BUSY."
      ∷ check 9 (eqb (sec_ctl c) 3 && is_none (empty_slot m h)) busy
      -- 10. "Nested: the secondary ..; address, then failed drive, then range."
      ∷ check 10 (coupled && is_none second) absent
      ∷ check 10 (coupled && failed m h (index second)) (nested 0x02 0x04)
      ∷ check 10 (coupled && ltb h.B (be 4 c 11 + many c)) (nested 0x05 0x21)
      ∷ [])
      (cond (eqb (sec_ctl c) 3) (leaves to_slot) (leaves to_second))

-- ---- REBUILD and REGENERATE: "length 2-5, list length 7-8"

-- "REBUILD and REGENERATE byte 1: bit 2 Int Data, 1-0 Sec Ctl."
abbrev pub int : List ℕ → ℕ
int c = get_or c 1 0 / 4 % 2

abbrev pub list_sec : List ℕ → ℕ
list_sec c = get_or c 1 0 % 4

-- "List: byte 0 number of sources, 1 entry type (01), 2-3 zero, 4-7 own block, then 8 bytes per source: address, block."
abbrev pub sources : List ℕ → ℕ
sources s = get_or s 0 0

abbrev pub own : List ℕ → ℕ
own s = be 4 s 4

abbrev pub source_address : List ℕ → ℕ → ℕ
source_address s i = be 4 s (8 + 8 * i)

abbrev pub source_block : List ℕ → ℕ → ℕ
source_block s i = be 4 s (8 + 8 * i + 4)

-- "list length plus, with Int Data, length*L, or nothing if the list length is 0"
abbrev pub list_sends : List ℕ → Header → ℕ
list_sends c h = cond (eqb (be 2 c 7) 0) 0 (cond (eqb (int c) 0) (be 2 c 7) (be 2 c 7 + be 4 c 2 * h.L))

-- "length FFFFFFFFh means to the last block, and the step works on the command with that length resolved": where no block is left it stays
abbrev pub resolved : List ℕ → List ℕ → Header → ℕ
resolved c s h = cond (eqb (be 4 c 2) 0xFFFFFFFF) (cond (leb h.B (own s)) (be 4 c 2) (h.B - own s)) (be 4 c 2)

-- 10. "for one entry, address, then failed drive, then range", of n blocks; "the first source entry in list order that fails decides": the
-- entries left, from entry i on
abbrev pub entry_checks : List ℕ → Header → ℕ → ℕ → Option ℕ → List Check
entry_checks m h n b d =
    check 10 (is_none d) absent ∷ check 10 (failed m h (index d)) (nested 0x02 0x04) ∷ check 10 (ltb h.B (b + n)) (nested 0x05 0x21) ∷ []

unfoldable pub source_checks : List ℕ → Header → List ℕ → ℕ → ℕ → ℕ → List Check
source_checks m h s n i zero = []
source_checks m h s n i (suc left) = entry_checks m h n (source_block s i) (drive_of m h (source_address s i)) ++ source_checks m h s n (i + 1) left

-- the n blocks that source entry i names
abbrev pub blocks_named : List ℕ → Header → List ℕ → ℕ → ℕ → List ℕ
blocks_named m h s n i = blocks m h (index (drive_of m h (source_address s i))) (source_block s i) n

-- "The list is read from its first entry on, the rest of the list XORed in turn.": the operands of the entries left
unfoldable pub operands_from : List ℕ → Header → List ℕ → ℕ → ℕ → ℕ → List (List ℕ)
operands_from m h s n i zero = []
operands_from m h s n i (suc left) = blocks_named m h s n i ∷ operands_from m h s n (i + 1) left

-- "With Int Data the intermediate data is the part of the data-out bytes that starts right after the list; it is one more operand."
abbrev pub int_data : Header → List ℕ → List ℕ → ℕ → List (List ℕ)
int_data h c s n = cond (eqb (int c) 0) [] (part s (8 + 8 * sources s) (n * h.L) ∷ [])

abbrev pub gathered : List ℕ → Header → List ℕ → List ℕ → ℕ → List ℕ
gathered m h c s n = xor_all (operands_from m h s n 0 (sources s) ++ int_data h c s n)

module _ (m : List ℕ) (h : Header) (t : ℕ) (c s : List ℕ) where
  abbrev pub own_entry : Option ℕ
  own_entry = least_below (sources s) (λ i. is_at t (drive_of m h (source_address s i)))

  -- checks 4 to 8; what is refused of lengths in check 4 differs
  abbrev pub list_checks : Bool → List Check
  list_checks long =
      zero_bits 0xF8 c
      -- "Sec Ctl 01; Sec Ctl 11 in REBUILD or REGENERATE"
      ∷ check 4 (eqb (list_sec c) 1) bad_field
      ∷ check 4 (eqb (list_sec c) 3) bad_field
      ∷ check 4 long bad_field
      ∷ zero_byte 6 c
      ∷ zero_byte 9 c
      ∷ sends (list_sends c h) s
      -- 6. ".. or list length zero"
      ∷ idle (be 2 c 7)
      -- 7. "List length not 8 + 8*sources, or below 8: 05h/1Ah/00h."
      ∷ check 7 (ltb (be 2 c 7) 8) (refusal 0x05 0x1A)
      ∷ check 7 (not (eqb (be 2 c 7) (8 + 8 * sources s))) (refusal 0x05 0x1A)
      -- "Then no sources, type not 01, bytes 2-3 not zero, or a source that is the target: 05h/26h/00h. Then GOOD for length 0."
      ∷ check 7 (eqb (sources s) 0) (refusal 0x05 0x26)
      ∷ check 7 (not (eqb (get_or s 1 0) 1)) (refusal 0x05 0x26)
      ∷ check 7 (not (eqb (be 2 s 2) 0)) (refusal 0x05 0x26)
      ∷ check 7 (not (is_none own_entry)) (refusal 0x05 0x26)
      ∷ check 7 (eqb (be 4 c 2) 0) good
      ∷ range h (own s) (resolved c s h)
      ∷ []

  -- "REBUILD writes the XOR to the target"; 4. "REBUILD length FFFFFFFFh with Int Data"
  abbrev pub rebuild : Plan
  rebuild =
      plan 10
      (list_checks (not (eqb (int c) 0) && eqb (be 4 c 2) 0xFFFFFFFF) ++ source_checks m h s (resolved c s h) 0 (sources s))
      (leaves (put m (block_at h t (own s)) (gathered m h c s (resolved c s h))))

  -- "REGENERATE adds the target's own blocks and retains the XOR."; 4. "REGENERATE length above M"
  abbrev pub regenerate : Plan
  regenerate =
      plan 10
      (list_checks (ltb h.M (be 4 c 2)) ++ check 9 (is_none (empty_slot m h)) busy ∷ source_checks m h s (resolved c s h) 0 (sources s))
      (leaves
      (retained_over m m h (index (empty_slot m h)) 2 t (own s) (resolved c s h)
      (blocks m h t (own s) (resolved c s h) ⊻ gathered m h c s (resolved c s h))))

-- ---- "Code | Command": an unknown one has no length

abbrev pub command_of : ℕ → List ℕ → Header → ℕ → List ℕ → List ℕ → ℕ → Plan
command_of code m h t c s r =
    cond (eqb code 0xC0) (xdwrite m h t c s)
    (cond (eqb code 0xC1) (xpwrite m h t c s r)
    (cond (eqb code 0xC2) (xdread m h t c s r)
    (cond (eqb code 0xC3) (rebuild m h t c s)
    (cond (eqb code 0xC4) (regenerate m h t c s)
    (cond (eqb code 0x28) (read m h t c s r)
    (cond (eqb code 0x2A) (write m h t c s r)
    (plan 0 [] (leaves m))))))))

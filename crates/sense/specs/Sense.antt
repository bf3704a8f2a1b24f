-- 01: "Sense is handed back by value as 37 bytes with its length, zeros after and in every byte not named."
use Rattle.std.specs.Prelude.{ℕ, List, [], ◌∷◌, ◌++◌, replicate}
use Rattle.octets.specs.Number.{to_be}
use Rattle.sense.specs.declared.Answer.{Answer}
use Rattle.sense.specs.declared.Answer.TheVariants.{Good, Busy, BadImage, NoTarget, BadCdb, WrongCount, ShortRoom, BadState, UnknownCode, TargetFailed, BadField, BadListLength, BadList, BadRange, NestedAddress, NestedFailed, NestedRange}
use Rattle.sense.specs.declared.Sense.{Sense}
use Rattle.sense.specs.declared.Outcome.{Outcome}

-- "Plain: 18 bytes, byte 0 70h, 2 key, 7 0Ah, 12 and 13 the code pair." Bytes 3-6 hold the number info.
abbrev pub plain_of : (first info key code qualifier : ℕ) → List ℕ
plain_of first info key code qualifier =
    first ∷ 0 ∷ key ∷ (to_be 4 info ++ (0x0A ∷ 0 ∷ 0 ∷ 0 ∷ 0 ∷ code ∷ qualifier ∷ 0 ∷ 0 ∷ 0 ∷ 0 ∷ []))

-- "Nested: key 0Bh, codes 00h/00h.": the 18 bytes in front of what is nested, bytes 7, 8 and 9 as given
abbrev pub outer_of : (first info seven eight nine : ℕ) → List ℕ
outer_of first info seven eight nine = first ∷ 0 ∷ 0x0B ∷ (to_be 4 info ++ (seven ∷ eight ∷ nine ∷ replicate 8 0))

-- "An answer without sense has zeros and length 0"
unfoldable pub no_sense : Sense
no_sense = record { bytes = replicate 37 0; len = 0 }

unfoldable pub plain_sense : (key code qualifier : ℕ) → Sense
plain_sense key code qualifier = record { bytes = plain_of 0x70 0 key code qualifier ++ replicate 19 0; len = 18 }

-- "Address not in the table: byte 7 1Ch, byte 8 12h, plain sense 0Bh/08h/00h at byte 18, length 36."
unfoldable pub absent_sense : Sense
absent_sense = record { bytes = outer_of 0x70 0 0x1C 0x12 0 ++ (plain_of 0x70 0 0x0B 0x08 0x00 ++ (0 ∷ [])); len = 36 }

-- "Drive failed (02h/04h/00h) or range beyond B (05h/21h/00h): byte 7 1Dh, byte 9 12h, status 02h at byte 18 and that plain sense from
-- 19, length 37."
unfoldable pub nested_sense : (key code qualifier : ℕ) → Sense
nested_sense key code qualifier = record { bytes = outer_of 0x70 0 0x1D 0 0x12 ++ (0x02 ∷ plain_of 0x70 0 key code qualifier); len = 37 }

-- The key and the code pair of each answer, by the list of checks: 2 "Unknown code: 05h/20h/00h", 3 "Target failed: 02h/04h/00h", 4 and
-- XDREAD's in 8 "05h/24h/00h", 7 "05h/1Ah/00h" and "05h/26h/00h", 8 "05h/21h/00h", 10 "Nested".
abbrev pub sense_of : Answer → Sense
sense_of Good = no_sense
sense_of Busy = no_sense
sense_of BadImage = no_sense
sense_of NoTarget = no_sense
sense_of BadCdb = no_sense
sense_of WrongCount = no_sense
sense_of ShortRoom = no_sense
sense_of BadState = no_sense
sense_of UnknownCode = plain_sense 0x05 0x20 0x00
sense_of TargetFailed = plain_sense 0x02 0x04 0x00
sense_of BadField = plain_sense 0x05 0x24 0x00
sense_of BadListLength = plain_sense 0x05 0x1A 0x00
sense_of BadList = plain_sense 0x05 0x26 0x00
sense_of BadRange = plain_sense 0x05 0x21 0x00
sense_of NestedAddress = absent_sense
sense_of NestedFailed = nested_sense 0x02 0x04 0x00
sense_of NestedRange = nested_sense 0x05 0x21 0x00

-- what a call hands back: the answer, its sense, and a byte count
abbrev pub outcome_of : Answer → ℕ → Outcome
outcome_of a n = record { answer = a; sense = sense_of a; count = n }

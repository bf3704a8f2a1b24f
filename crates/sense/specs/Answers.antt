-- 01, "Answers and the order of checks": the number of each answer.
use Rattle.std.specs.Prelude.{ℕ, ◌+◌}
use Rattle.sense.specs.declared.Answer.{Answer}
use Rattle.sense.specs.declared.Answer.TheVariants.{Good, Busy, BadImage, NoTarget, BadCdb, WrongCount, ShortRoom, BadState, UnknownCode, TargetFailed, BadField, BadListLength, BadList, BadRange, NestedAddress, NestedFailed, NestedRange}

-- "a call number n comes back as 256 + n, a status as itself"
abbrev pub call : ℕ → ℕ
call n = 256 + n

-- "1 image not valid; 2 no such target; 3 CDB empty, or a known code with another length; 4 data-out bytes not the exact count; 5
-- receive room (or C sense room) too short; 6 state to mark is not 0 or 1. Otherwise GOOD (00h), CHECK CONDITION (02h) with sense, or
-- BUSY (08h) without."
abbrev pub number_of : Answer → ℕ
number_of Good = 0x00
number_of Busy = 0x08
number_of BadImage = call 1
number_of NoTarget = call 2
number_of BadCdb = call 3
number_of WrongCount = call 4
number_of ShortRoom = call 5
number_of BadState = call 6
number_of UnknownCode = 0x02
number_of TargetFailed = 0x02
number_of BadField = 0x02
number_of BadListLength = 0x02
number_of BadList = 0x02
number_of BadRange = 0x02
number_of NestedAddress = 0x02
number_of NestedFailed = 0x02
number_of NestedRange = 0x02

-- `hex_words::digits::unhex` meets its contract. The loop's invariant: the first i bytes are read.
use Rattle.std.proofs.Common.{take}
use Rattle.text.specs.Room.{Wrote}
use Rattle.hex_words.specs.Digits.{unhex}
use Rattle.hex_words.proofs.digits.unhex.Given as goal

abbrev pub invariant-loop-i : goal.invariant-loop-i
invariant-loop-i l = Wrote (take l.i (unhex l.w)) 0 l.i l.initial.room l.room

-- What a call comes to today, as 01 has it.
use Rattle.std.specs.Prelude.{ℕ}
use mathlib.Core.List.{List}
use Rattle.sense.specs.declared.Outcome.{Outcome}
use Rattle.sense.specs.Answers.{number_of}
use Rattle.frozen.specs.Step as signed

-- what an outcome tells, an image and a room, as 01 has them
abbrev pub shown : Outcome → List ℕ → List ℕ → signed.Outcome
shown o m r =
    record { answer = record { number = number_of o.answer; sense = o.sense.bytes; len = o.sense.len }; count = o.count; image = m; room = r }

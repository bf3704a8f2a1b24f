-- Today's answers and checks as 01 has them.
use Prim.Native.Nat.{ℕ}
use Rattle.std.specs.Prelude.{List, is_err}
use Rattle.std.proofs.Math.Bool.{cond}
use Rattle.rules.specs.Rule.{rule}
use Rattle.sense.specs.declared.Answer.{Answer}
use Rattle.sense.specs.Answers.{number_of}
use Rattle.sense.specs.Sense.{sense_of}
use Rattle.meaning.specs.Sources.{Vetted}
use Rattle.meaning.specs.Checks.{Check, fault_answer}
use Rattle.frozen.specs.Image as old
use Rattle.frozen.specs.Answers as told
use Rattle.frozen.specs.Commands as was

-- an answer's number and bytes
abbrev pub bytes_of : Answer → told.Answer
bytes_of x = record { number = number_of x; sense = (sense_of x).bytes; len = (sense_of x).len }

abbrev pub forget : Check → was.Check
forget (rule n w b x) = rule n tt b (bytes_of x)

module _ {D : Type 0} (stop : ℕ → Unit {0} → told.Answer → D) (m : List ℕ) (h : old.Header) (n : ℕ) where
  -- what a fault decides, and where there is none d
  abbrev pub by_fault : Vetted → D → D
  by_fault f d = cond (is_err f) (stop 10 tt (bytes_of (fault_answer f))) d

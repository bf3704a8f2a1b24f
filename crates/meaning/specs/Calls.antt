-- The calls of a driver, one after the other.
use Rattle.std.specs.Prelude.{ℕ, List, [], ◌∷◌}
use Rattle.drives.specs.declared.Came.{Came}
use Rattle.meaning.specs.Step.{step_image, reset_image, mark_image}

-- a command: how it came, CDB, data-out bytes, receive room; a hard reset: how it came; a marking: how it came, state
pub data Call : Type 0 where
  command : Came → List ℕ → List ℕ → List ℕ → Call
  reset : Came → Call
  marking : Came → ℕ → Call

-- what a call leaves of an image
abbrev pub after_call : Call → List ℕ → List ℕ
after_call (command a c s r) m = step_image m a c s r
after_call (reset a) m = reset_image m a
after_call (marking a state) m = mark_image m a state

-- the first call first, by any function that says what a call leaves of an image
abbrev pub run_to : (Call → List ℕ → List ℕ) → List Call → List ℕ → List ℕ
run_to after [] m = m
run_to after (x ∷ xs) m = run_to after xs (after x m)

abbrev pub after_calls : List Call → List ℕ → List ℕ
after_calls = run_to after_call

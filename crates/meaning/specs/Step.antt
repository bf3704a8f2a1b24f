-- What a step, a reset and a marking mean: the decision, and then what is left of the image and of the receive room. A refusal leaves
-- both alone ("No refusal changes image or receive room.").
use Rattle.std.specs.Prelude.{ℕ, List, [], ◌∷◌, ◌++◌, ltb, length, Ok, Err}
use Rattle.octets.specs.Put.{put}
use Rattle.rules.specs.Rule.{rule, first}
use Rattle.folds.specs.Least.{index}
use Rattle.geometry.specs.Header.{geometry_of}
use Rattle.drives.specs.declared.Came.{Came}
use Rattle.drives.specs.Table.{target_of, marked}
use Rattle.slots.specs.Change.{dropped}
use Rattle.sense.specs.declared.Answer.{Answer}
use Rattle.sense.specs.declared.Answer.TheVariants.{Good, BadState}
use Rattle.sense.specs.declared.Outcome.{Outcome}
use Rattle.sense.specs.Sense.{outcome_of}
use Rattle.meaning.specs.declared.Seen.{Seen}
use Rattle.meaning.specs.declared.Seen.TheVariants.{Dash}
use Rattle.meaning.specs.Decision.{Decision}
use Rattle.meaning.specs.Acts.{leaves, hands}
use Rattle.meaning.specs.Checks.{Check, calls, decide_of}

-- ---- a step: image m, a command that came as a, its CDB c, data-out bytes s, receive room r

abbrev pub decided : List ℕ → Came → List ℕ → List ℕ → List ℕ → Decision
decided m a c s r = decide_of m a c s (length r)

abbrev pub image_after : Decision → List ℕ → List ℕ → List ℕ
image_after (Err x) m s = m
image_after (Ok x) m s = leaves m (geometry_of m) s x.act

-- "A GOOD read or XDREAD returns its byte count; bytes past it stay." A1: 53h "counts it" too
abbrev pub room_after : Decision → List ℕ → List ℕ → List ℕ → List ℕ
room_after (Err x) m s r = r
room_after (Ok x) m s r = put r 0 (hands m (geometry_of m) s x.act)

abbrev pub outcome_after : Decision → List ℕ → List ℕ → Outcome
outcome_after (Err x) m s = outcome_of x.answer 0
outcome_after (Ok x) m s = outcome_of x.answer (length (hands m (geometry_of m) s x.act))

unfoldable pub step_image : List ℕ → Came → List ℕ → List ℕ → List ℕ → List ℕ
step_image m a c s r = image_after (decided m a c s r) m s

unfoldable pub step_room : List ℕ → Came → List ℕ → List ℕ → List ℕ → List ℕ
step_room m a c s r = room_after (decided m a c s r) m s r

unfoldable pub step_outcome : List ℕ → Came → List ℕ → List ℕ → List ℕ → Outcome
step_outcome m a c s r = outcome_after (decided m a c s r) m s

-- ---- a reset: "Reset uses 1, 2"; "Hard reset drops all results of its drive, present or failed"

-- the answer of the rule that decides, and what a refusal leaves of an image, or of anything else: that itself
abbrev pub answered : ℕ → Seen → Answer → Answer
answered n w z = z

abbrev pub untouched : {A : Type 0} → A → ℕ → Seen → Answer → A
untouched m n w z = m

abbrev pub target : List ℕ → Came → ℕ
target m a = index (target_of m (geometry_of m) a)

unfoldable pub reset_answer : List ℕ → Came → Answer
reset_answer m a = first answered (calls m a) Good

unfoldable pub reset_image : List ℕ → Came → List ℕ
reset_image m a = first (untouched m) (calls m a) (dropped m (geometry_of m) (target m a))

-- ---- a marking: "marking uses 1, 2, 6"; "Marking writes the state byte alone"

-- "6 state to mark is not 0 or 1"
abbrev pub mark_calls : List ℕ → Came → ℕ → List Check
mark_calls m a state = calls m a ++ rule 1 Dash (ltb 1 state) BadState ∷ []

unfoldable pub mark_answer : List ℕ → Came → ℕ → Answer
mark_answer m a state = first answered (mark_calls m a state) Good

unfoldable pub mark_image : List ℕ → Came → ℕ → List ℕ
mark_image m a state = first (untouched m) (mark_calls m a state) (marked m (geometry_of m) (target m a) state)

-- 01's step, reset and marking: the first check that applies decides, and "No refusal changes image or receive room."
use Rattle.std.specs.Prelude.{ℕ, not, ◌&&◌, List, [], ◌∷◌, ◌++◌, ltb, eqb, length, get_or, is_none}
use Rattle.octets.specs.Put.{put}
use Rattle.rules.specs.Rule.{first}
use Rattle.folds.specs.Least.{index}
use Rattle.frozen.specs.Image.{Header, header_of, entry_at, failed, drive_of, valid}
use Rattle.frozen.specs.Results.{dropped}
use Rattle.frozen.specs.Answers.{Answer, good, call, refusal}
use Rattle.frozen.specs.Commands.{Check, check, Done, Plan, command_of}

-- what a call comes to: the answer, the byte count, the image and the receive room
pub record Outcome : Type 0 where
  pub answer : Answer
  pub count : ℕ
  pub image : List ℕ
  pub room : List ℕ

-- 1. "Calls 1, 2, 3 in that order.": "1 image not valid; 2 no such target"
abbrev pub calls : List ℕ → ℕ → List Check
calls m a = check 1 (not (valid m)) (call 1) ∷ check 1 (is_none (drive_of m (header_of m) a)) (call 2) ∷ []

-- "3 CDB empty, or a known code with another length"; 2. "Unknown code: 05h/20h/00h." 3. "Target failed: 02h/04h/00h."
abbrev pub known : List ℕ → Header → ℕ → ℕ → List ℕ → List Check
known m h t size c =
    check 1 (eqb (length c) 0) (call 3)
    ∷ check 1 (not (eqb size 0) && not (eqb (length c) size)) (call 3)
    ∷ check 2 (eqb size 0) (refusal 0x05 0x20)
    ∷ check 3 (failed m h t) (refusal 0x02 0x04)
    ∷ []

-- a refusal moves nothing, and counts nothing; "A GOOD read or XDREAD returns its byte count; bytes past it stay."
abbrev pub refuse : List ℕ → List ℕ → ℕ → Unit {0} → Answer → Outcome
refuse m r n w x = record { answer = x; count = 0; image = m; room = r }

abbrev pub carry_out : Done → List ℕ → Outcome
carry_out d r = record { answer = good; count = length d.hands; image = d.image; room = put r 0 d.hands }

-- a command by its plan: image m, target address a, CDB c, receive room r
abbrev pub by_plan : Plan → List ℕ → ℕ → List ℕ → List ℕ → Outcome
by_plan p m a c r =
    first (refuse m r) (calls m a ++ known m (header_of m) (index (drive_of m (header_of m) a)) p.size c ++ p.checks) (carry_out p.done r)

-- and data-out bytes s
abbrev pub step : List ℕ → ℕ → List ℕ → List ℕ → List ℕ → Outcome
step m a c s r = by_plan (command_of (get_or c 0 0) m (header_of m) (index (drive_of m (header_of m) a)) c s (length r)) m a c r

-- "Reset uses 1, 2": the answer, and what is left of the image
abbrev pub told : ℕ → Unit {0} → Answer → Answer
told n w x = x

abbrev pub kept : List ℕ → ℕ → Unit {0} → Answer → List ℕ
kept m n w x = m

abbrev pub reset_answer : List ℕ → ℕ → Answer
reset_answer m a = first told (calls m a) good

abbrev pub reset_leaves : List ℕ → ℕ → List ℕ
reset_leaves m a = dropped m (header_of m) (index (drive_of m (header_of m) a))

abbrev pub reset_image : List ℕ → ℕ → List ℕ
reset_image m a = first (kept m) (calls m a) (reset_leaves m a)

-- "marking uses 1, 2, 6": "6 state to mark is not 0 or 1"; "Marking writes the state byte alone"
abbrev pub mark_calls : List ℕ → ℕ → ℕ → List Check
mark_calls m a state = calls m a ++ check 1 (ltb 1 state) (call 6) ∷ []

abbrev pub mark_answer : List ℕ → ℕ → ℕ → Answer
mark_answer m a state = first told (mark_calls m a state) good

abbrev pub mark_leaves : List ℕ → ℕ → ℕ → List ℕ
mark_leaves m a state = put m (entry_at (header_of m) (index (drive_of m (header_of m) a))) (state ∷ [])

abbrev pub mark_image : List ℕ → ℕ → ℕ → List ℕ
mark_image m a state = first (kept m) (mark_calls m a state) (mark_leaves m a state)

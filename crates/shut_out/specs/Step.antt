-- Wrong steps, each by a call or two after which it has broken the contract of `shelf::step`, whatever else it answers and leaves.
use Rattle.std.specs.Prelude.{ℕ, zero, suc, List, [], ◌∷◌, ◌++◌, map, ◌≡◌, get_or, replicate}
use Rattle.std.proofs.Common.{arith, ap, ◌∙◌}
use Rattle.drives.specs.Table.{to}
use Rattle.image.specs.Bench.{zeros, shelf_of, vacant, one, two, three, bench, fresh, result}
use Rattle.sense.specs.declared.Outcome.{Outcome}
use Rattle.sense.specs.Answers.{number_of}
use Rattle.meaning.specs.Calls.{after_calls}
use Rattle.meaning.specs.Step.{step_room}
use Rattle.meaning.specs.Examples.Row.{Showed, Row, got, quiet}
use Rattle.meaning.specs.Examples.Cases.{xdwrite, xdwrite_to, ten, list_cdb, head, source_bytes, room, table}
use Rattle.meaning.specs.Examples.Several.{several, start, pair, empty, letter, keep, twice, again}
use Rattle.meaning.specs.Examples.Further as further
use Rattle.meaning.specs.Examples.Tables.{Hold}
use Rattle.meaning.proofs.Examples.Tables.{cases, several_cases, further_cases}
use Rattle.meaning.specs.Stepped.{Stepped}

-- ---- the calls to tell them by

-- row n of a table, the first 0
abbrev nth : ℕ → List Showed → Showed
nth n [] = quiet 0 0 [] []
nth zero (w ∷ ws) = w
nth (suc n) (w ∷ ws) = nth n ws

row : (rows : List Row) → Hold rows → (n : ℕ) → nth n (map got rows) ≡ nth n (map (λ (w : Row). w.want) rows)
row rows h n = ap (nth n) h

-- of C1 to C11; of those with several slots; of the further ones
pub example : (n : ℕ) → nth n (map got table) ≡ nth n (map (λ (w : Row). w.want) table)
example = row table cases

slotted : (n : ℕ) → nth n (map got several) ≡ nth n (map (λ (w : Row). w.want) several)
slotted = row several several_cases

abbrev rest : List Row
rest = further.works ++ further.refusals

beyond : (n : ℕ) → nth n (map got rest) ≡ nth n (map (λ (w : Row). w.want) rest)
beyond = row rest further_cases

-- ---- refuses, pretends, or does nothing

module _ (o : Outcome) (m r : List ℕ) where
  -- it refuses everything: C1
  pub refusing_not : (number_of o.answer ≡ 0 → ⊥) → Stepped bench (to 1) (xdwrite 0x00) fresh room o m r → ⊥
  refusing_not never h = never (ap (λ (x : Outcome). number_of x.answer) h.outcome ∙ ap (λ (w : Showed). w.number) (example 0))

  -- it always answers GOOD: C6
  pub good_not : number_of o.answer ≡ 0 → Stepped bench (to 1) (xdwrite 0x20) fresh room o m r → ⊥
  good_not good h =
      let x = ap (λ (x : Outcome). number_of x.answer) h.outcome ∙ ap (λ (w : Showed). w.number) (example 6) in
      omega (arith, good, x)

module _ (o : Outcome) where
  -- it does nothing, whatever it answers: C1
  pub idle_not : (r : List ℕ) → Stepped bench (to 1) (xdwrite 0x00) fresh room o bench r → ⊥
  idle_not r h =
      let z : ◌≡◌ {A = ℕ} 0x0A 0xFF = ap (λ (l : List ℕ). get_or l 68 0) (h.image ∙ ap (λ (w : Showed). w.image) (example 0)) in
      omega arith

  -- it carries out its first code, C0h, and pretends to carry out another: the READ of C10
  pub first_code_only_not : (m : List ℕ) → Stepped bench (to 1) (ten 0x28 1 1) [] room o m room → ⊥
  first_code_only_not m h =
      let z : ◌≡◌ {A = ℕ} 0xAA 0 = ap (λ (l : List ℕ). get_or l 0 0) (h.room ∙ ap (λ (w : Showed). w.room) (example 10)) in
      omega arith

-- it carries out the first call of a run, and pretends to carry out the second: C3's XDREAD
pub first_call_only_not : (o o' : Outcome) (m r m' : List ℕ) → Stepped bench (to 1) (xdwrite 0x06) fresh room o m r → Stepped m (to 1) (ten 0xC2 0 1) [] room o' m' room → ⊥
first_call_only_not o o' m r m' h h' =
    let x = h'.room ∙ ap (λ (k : List ℕ). step_room k (to 1) (ten 0xC2 0 1) [] room) h.image ∙ ap (λ (w : Showed). w.room) (example 2) in
    let z : ◌≡◌ {A = ℕ} 0xAA 0xF5 = ap (λ (l : List ℕ). get_or l 0 0) x in
    omega arith

-- ---- errors that look right

-- the room with a block at its front
abbrev pub filled : List ℕ → List ℕ
filled block = block ++ replicate 4 0xAA

module _ (o : Outcome) (m : List ℕ) where
  -- the oldest result at the block answers XDREAD: the freed slot 0 took the newest
  pub oldest_not : Stepped (after_calls again start) (to 1) (ten 0xC2 1 1) [] room o m (filled (letter 1)) → ⊥
  oldest_not h = let z : ◌≡◌ {A = ℕ} 1 6 = ap (λ (l : List ℕ). get_or l 0 0) (h.room ∙ ap (λ (w : Showed). w.room) (slotted 3)) in omega arith

  -- the lowest-numbered slot answers XDREAD: the newest, in slot 1, has another length
  pub lowest_not : Stepped (after_calls twice start) (to 1) (ten 0xC2 0 1) [] room o m (filled result) → ⊥
  lowest_not h = let z : ◌≡◌ {A = ℕ} 0xF5 0xAA = ap (λ (l : List ℕ). get_or l 0 0) (h.room ∙ ap (λ (w : Showed). w.room) (slotted 0)) in omega arith

module _ (o : Outcome) (r : List ℕ) where
  -- REBUILD takes its first source only: C7 leaves drive 1 with 01020304
  pub first_source_only_not : Stepped (shelf_of 0 vacant zeros two three) (to 1) (list_cdb 0xC3 0x18) (head 2 ++ source_bytes 2 ++ source_bytes 3) room o (shelf_of 0 vacant two two three) r → ⊥
  first_source_only_not h =
      let z : ◌≡◌ {A = ℕ} 0x01 0x0A = ap (λ (l : List ℕ). get_or l 68 0) (h.image ∙ ap (λ (w : Showed). w.image) (example 7)) in
      omega arith

  -- the target counts among REBUILD's operands: it held FF00FF00
  pub target_counted_not : Stepped (shelf_of 0 vacant fresh two three) (to 1) (list_cdb 0xC3 0x18) (head 2 ++ source_bytes 2 ++ source_bytes 3) room o (shelf_of 0 vacant result two three) r → ⊥
  target_counted_not h =
      let z : ◌≡◌ {A = ℕ} 0xF5 0x0A = ap (λ (l : List ℕ). get_or l 68 0) (h.image ∙ ap (λ (w : Showed). w.image) (beyond 8)) in
      omega arith

  -- the data drive is written before the secondary is known good: it has failed, as in C9; no drive has its address; its range ends too late
  pub failed_second_not : Stepped (shelf_of 1 vacant one two three) (to 1) (xdwrite 0x00) fresh room o (shelf_of 1 vacant fresh two three) r → ⊥
  failed_second_not h =
      let z : ◌≡◌ {A = ℕ} 0xFF 0x0A = ap (λ (l : List ℕ). get_or l 68 0) (h.image ∙ ap (λ (w : Showed). w.image) (example 9)) in
      omega arith

  pub absent_second_not : Stepped bench (to 1) (xdwrite_to 0x00 9 0) fresh room o (shelf_of 0 vacant fresh two three) r → ⊥
  absent_second_not h =
      let z : ◌≡◌ {A = ℕ} 0xFF 0x0A = ap (λ (l : List ℕ). get_or l 68 0) (h.image ∙ ap (λ (w : Showed). w.image) (beyond 15)) in
      omega arith

  pub late_second_not : Stepped bench (to 1) (xdwrite_to 0x00 3 2) fresh room o (shelf_of 0 vacant fresh two three) r → ⊥
  late_second_not h =
      let z : ◌≡◌ {A = ℕ} 0xFF 0x0A = ap (λ (l : List ℕ). get_or l 68 0) (h.image ∙ ap (λ (w : Showed). w.image) (beyond 17)) in
      omega arith

  -- a result is freed although the receive room was too short for it
  pub freed_not : Stepped (after_calls (keep 0x06 0 1 fresh ∷ []) start) (to 1) (ten 0xC2 0 1) [] (replicate 3 0xAA) o
      (pair (empty ++ result ++ zeros) (empty ++ zeros ++ zeros) fresh zeros) r → ⊥
  freed_not h = let z : ◌≡◌ {A = ℕ} 0 1 = ap (λ (l : List ℕ). get_or l 43 0) (h.image ∙ ap (λ (w : Showed). w.image) (slotted 7)) in omega arith

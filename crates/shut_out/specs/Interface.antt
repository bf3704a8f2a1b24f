-- The same wrong programs as C functions, each by the same calls, and one that takes a sense room that is too short.
use Rattle.std.specs.Prelude.{ℕ, ◌<◌, List, [], ◌∷◌, ◌++◌, ◌≡◌, refl, true, length, replicate}
use Rattle.std.proofs.Common.{sym, ◌∙◌, lt-ltb}
use Rattle.drives.specs.declared.Came.{Came}
use Rattle.drives.specs.Table.{to}
use Rattle.image.specs.Bench.{zeros, shelf_of, vacant, one, two, three, bench, fresh, result, after_c2}
use Rattle.sense.specs.Answers.{number_of}
use Rattle.meaning.specs.Step.{step_outcome, reset_answer, reset_image, mark_answer, mark_image}
use Rattle.meaning.specs.Calls.{after_calls}
use Rattle.meaning.specs.Examples.Cases.{xdwrite, xdwrite_to, ten, list_cdb, head, source_bytes, room}
use Rattle.meaning.specs.Examples.Several.{start, pair, empty, letter, keep, twice, again}
use Rattle.meaning.specs.Stepped.{Stepped, Reset, Marked}
use Rattle.shelf_c.specs.Interface.{short, StepCall}
use Rattle.shut_out.specs.Step as step
use Rattle.shut_out.specs.Calls as calls

-- the three contracts, the first with a sense room that is long enough
abbrev told : List ℕ
told = replicate 37 0

abbrev ResetCall : List ℕ → Came → ℕ → List ℕ → Type 0
ResetCall m a x m' = (x ≡ number_of (reset_answer m a)) × (m' ≡ reset_image m a)

abbrev MarkCall : List ℕ → Came → ℕ → ℕ → List ℕ → Type 0
MarkCall m a state x m' = (x ≡ number_of (mark_answer m a state)) × (m' ≡ mark_image m a state)

-- each is that of `shelf`, with the answer's number
stepped : {m : List ℕ} {a : Came} {c s r : List ℕ} {k x : ℕ} {m' r' n : List ℕ} {k' : ℕ} → StepCall m a c s r told k x m' r' n k' → Stepped m a c s r (step_outcome m a c s r) m' r'
stepped h = record { outcome = refl; image = h.image; room = h.room }

reset : {m : List ℕ} {a : Came} {x : ℕ} {m' : List ℕ} → ResetCall m a x m' → Reset m a (reset_answer m a) m'
reset h = record { answer = refl; image = h.1 }

marked : {m : List ℕ} {a : Came} {state x : ℕ} {m' : List ℕ} → MarkCall m a state x m' → Marked m a state (mark_answer m a state) m'
marked h = record { answer = refl; image = h.1 }

-- ---- shelf_step, whatever else it answers and leaves

module _ (k x : ℕ) (m r n : List ℕ) (k' : ℕ) where
  -- it refuses everything
  pub refusing_not : (x ≡ 0 → ⊥) → StepCall bench (to 1) (xdwrite 0x00) fresh room told k x m r n k' → ⊥
  refusing_not never h = step.refusing_not _ m r (λ e. never (h.number ∙ e)) (stepped h)

  -- it always answers GOOD
  pub good_not : x ≡ 0 → StepCall bench (to 1) (xdwrite 0x20) fresh room told k x m r n k' → ⊥
  good_not good h = step.good_not _ m r (sym h.number ∙ good) (stepped h)

  -- it carries out its first code, and pretends to carry out another
  pub first_code_only_not : StepCall bench (to 1) (ten 0x28 1 1) [] room told k x m room n k' → ⊥
  first_code_only_not h = step.first_code_only_not _ m (stepped h)

  -- it carries out the first call of a run, and pretends to carry out the second
  pub first_call_only_not : (x' : ℕ) (m' n' : List ℕ) (k'' : ℕ) → StepCall bench (to 1) (xdwrite 0x06) fresh room told k x m r n k'
      → StepCall m (to 1) (ten 0xC2 0 1) [] room told k' x' m' room n' k'' → ⊥
  first_call_only_not x' m' n' k'' h h' = step.first_call_only_not _ _ m r m' (stepped h) (stepped h')

  -- shelf_reset does nothing as the second call of a run
  pub second_reset_not : (x' : ℕ) → StepCall bench (to 1) (xdwrite 0x06) fresh room told k x m r n k' → ResetCall m (to 1) x' m → ⊥
  second_reset_not x' h h' = calls.second_reset_not _ m r _ (stepped h) (reset h')

-- it does nothing, whatever it answers
pub idle_not : (k x : ℕ) (r n : List ℕ) (k' : ℕ) → StepCall bench (to 1) (xdwrite 0x00) fresh room told k x bench r n k' → ⊥
idle_not k x r n k' h = step.idle_not _ r (stepped h)

-- errors that look right, as in `Step`
module _ (k x : ℕ) (m n : List ℕ) (k' : ℕ) where
  pub oldest_not : StepCall (after_calls again start) (to 1) (ten 0xC2 1 1) [] room told k x m (step.filled (letter 1)) n k' → ⊥
  oldest_not h = step.oldest_not _ m (stepped h)

  pub lowest_not : StepCall (after_calls twice start) (to 1) (ten 0xC2 0 1) [] room told k x m (step.filled result) n k' → ⊥
  lowest_not h = step.lowest_not _ m (stepped h)

module _ (k x : ℕ) (r n : List ℕ) (k' : ℕ) where
  pub first_source_only_not : StepCall (shelf_of 0 vacant zeros two three) (to 1) (list_cdb 0xC3 0x18) (head 2 ++ source_bytes 2 ++ source_bytes 3) room told k x (shelf_of 0 vacant two two three) r n k' → ⊥
  first_source_only_not h = step.first_source_only_not _ r (stepped h)

  pub target_counted_not : StepCall (shelf_of 0 vacant fresh two three) (to 1) (list_cdb 0xC3 0x18) (head 2 ++ source_bytes 2 ++ source_bytes 3) room told k x (shelf_of 0 vacant result two three) r n k' → ⊥
  target_counted_not h = step.target_counted_not _ r (stepped h)

  pub failed_second_not : StepCall (shelf_of 1 vacant one two three) (to 1) (xdwrite 0x00) fresh room told k x (shelf_of 1 vacant fresh two three) r n k' → ⊥
  failed_second_not h = step.failed_second_not _ r (stepped h)

  pub absent_second_not : StepCall bench (to 1) (xdwrite_to 0x00 9 0) fresh room told k x (shelf_of 0 vacant fresh two three) r n k' → ⊥
  absent_second_not h = step.absent_second_not _ r (stepped h)

  pub late_second_not : StepCall bench (to 1) (xdwrite_to 0x00 3 2) fresh room told k x (shelf_of 0 vacant fresh two three) r n k' → ⊥
  late_second_not h = step.late_second_not _ r (stepped h)

  pub freed_not : StepCall (after_calls (keep 0x06 0 1 fresh ∷ []) start) (to 1) (ten 0xC2 0 1) [] (replicate 3 0xAA) told k x (pair (empty ++ result ++ zeros) (empty ++ zeros ++ zeros) fresh zeros) r n k' → ⊥
  freed_not h = step.freed_not _ r (stepped h)

-- it takes a sense room below 37 bytes, one of 36 too
pub short_sense_not : (m : List ℕ) (a : Came) (c s r n : List ℕ) (k x : ℕ) (m' r' n' : List ℕ) (k' : ℕ) → length n < 37 → (x ≡ 261 → ⊥) → StepCall m a c s r n k x m' r' n' k' → ⊥
short_sense_not m a c s r n k x m' r' n' k' l never h = let e : short n ≡ true = lt-ltb (length n) 37 l in never (rw e at h.number)

-- ---- shelf_reset and shelf_mark

module _ (x : ℕ) (m : List ℕ) where
  pub refusing_reset_not : (x ≡ 0 → ⊥) → ResetCall after_c2 (to 1) x m → ⊥
  refusing_reset_not never h = calls.refusing_reset_not _ m (λ e. never (h.0 ∙ e)) (reset h)

  pub good_reset_not : x ≡ 0 → ResetCall bench (to 9) x m → ⊥
  good_reset_not good h = calls.good_reset_not _ m (sym h.0 ∙ good) (reset h)

  pub refusing_mark_not : (x ≡ 0 → ⊥) → MarkCall bench (to 1) 1 x m → ⊥
  refusing_mark_not never h = calls.refusing_mark_not _ m (λ e. never (h.0 ∙ e)) (marked h)

  pub good_mark_not : x ≡ 0 → MarkCall bench (to 1) 2 x m → ⊥
  good_mark_not good h = calls.good_mark_not _ m (sym h.0 ∙ good) (marked h)

  pub second_mark_not : (x' : ℕ) → MarkCall bench (to 1) 1 x m → MarkCall m (to 2) 1 x' m → ⊥
  second_mark_not x' h h' = calls.second_mark_not _ _ m (marked h) (marked h')

pub idle_reset_not : (x : ℕ) → ResetCall after_c2 (to 1) x after_c2 → ⊥
idle_reset_not x h = calls.idle_reset_not _ (reset h)

pub idle_mark_not : (x : ℕ) → MarkCall bench (to 1) 1 x bench → ⊥
idle_mark_not x h = calls.idle_mark_not _ (marked h)

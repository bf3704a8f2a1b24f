-- Wrong resets and markings, each by a call or two after which it has broken the contract of `shelf::reset` or `shelf::mark`.
use Rattle.std.specs.Prelude.{ℕ, List, ◌≡◌, refl, get_or, set}
use Rattle.std.proofs.Common.{arith, ap, subst, ◌∙◌}
use Rattle.octets.specs.Part.{part}
use Rattle.octets.specs.Put.{put}
use Rattle.octets.specs.Number.{num}
use Rattle.folds.specs.Every.{every}
use Rattle.folds.specs.All.{all_below}
use Rattle.folds.specs.Count.{count_below}
use Rattle.folds.specs.Least.{least_below}
use Rattle.geometry.specs.Header.{slot_at}
use Rattle.drives.specs.Table.{drive_of, to, marked}
use Rattle.slots.specs.Record.{slot_of}
use Rattle.slots.specs.Change.{lower_one, lowered, released, dropped, dropped_to, drop_one}
use Rattle.image.specs.Valid.{valid_image}
use Rattle.image.specs.Bench.{shelf_of, two, three, bench, fresh, result, after_c2}
use Rattle.sense.specs.declared.Answer.{Answer}
use Rattle.sense.specs.declared.Outcome.{Outcome}
use Rattle.sense.specs.Answers.{number_of}
use Rattle.meaning.specs.Step.{reset_answer, reset_image, mark_answer, mark_image}
use Rattle.meaning.specs.Examples.Row.{Showed}
use Rattle.meaning.specs.Examples.Cases.{left, xdwrite, room}
use Rattle.meaning.specs.Stepped.{Stepped, Reset, Marked}
use Rattle.shut_out.specs.Step.{example}

-- ---- the calls to tell them by

-- a reset of drive 1 with its result there, and of a drive that is none
resets :
    (number_of (reset_answer after_c2 (to 1)) ≡ 0) × (reset_image after_c2 (to 1) ≡ shelf_of 0 (left result) fresh two three) × (number_of (reset_answer bench (to 9)) ≡ 258)
unfolding reset_answer reset_image valid_image slot_of slot_at every all_below count_below least_below drive_of dropped dropped_to drop_one released lowered lower_one part put num
resets = (refl, refl, refl)

-- drive 1 marked failed, then drive 2; and a state that is none
markings :
    (number_of (mark_answer bench (to 1) 1) ≡ 0) × (mark_image bench (to 1) 1 ≡ set bench 32 1) × (mark_image (set bench 32 1) (to 2) 1 ≡ set (set bench 32 1) 36 1)
    × (number_of (mark_answer bench (to 1) 2) ≡ 262)
unfolding mark_answer mark_image valid_image slot_of slot_at every all_below count_below least_below drive_of marked part put num
markings = (refl, refl, refl, refl)

-- ---- a reset

module _ (x : Answer) (m : List ℕ) where
  pub refusing_reset_not : (number_of x ≡ 0 → ⊥) → Reset after_c2 (to 1) x m → ⊥
  refusing_reset_not never h = never (ap number_of h.answer ∙ resets.0)

  pub good_reset_not : number_of x ≡ 0 → Reset bench (to 9) x m → ⊥
  good_reset_not good h = omega (arith, good, ap number_of h.answer, resets.2)

pub idle_reset_not : (x : Answer) → Reset after_c2 (to 1) x after_c2 → ⊥
idle_reset_not x h = let z : ◌≡◌ {A = ℕ} 1 0 = ap (λ (l : List ℕ). get_or l 47 0) (h.image ∙ resets.1) in omega arith

-- it does nothing as the second call of a run
pub second_reset_not : (o : Outcome) (m r : List ℕ) (x : Answer) → Stepped bench (to 1) (xdwrite 0x06) fresh room o m r → Reset m (to 1) x m → ⊥
second_reset_not o m r x h k =
    idle_reset_not x (subst (λ (l : List ℕ). Reset l (to 1) x l) (h.image ∙ ap (λ (w : Showed). w.image) (example 1)) k)

-- ---- a marking

module _ (x : Answer) (m : List ℕ) where
  pub refusing_mark_not : (number_of x ≡ 0 → ⊥) → Marked bench (to 1) 1 x m → ⊥
  refusing_mark_not never h = never (ap number_of h.answer ∙ markings.0)

  pub good_mark_not : number_of x ≡ 0 → Marked bench (to 1) 2 x m → ⊥
  good_mark_not good h = omega (arith, good, ap number_of h.answer, markings.3)

pub idle_mark_not : (x : Answer) → Marked bench (to 1) 1 x bench → ⊥
idle_mark_not x h = let z : ◌≡◌ {A = ℕ} 0 1 = ap (λ (l : List ℕ). get_or l 32 0) (h.image ∙ markings.1) in omega arith

pub second_mark_not : (x x' : Answer) (m : List ℕ) → Marked bench (to 1) 1 x m → Marked m (to 2) 1 x' m → ⊥
second_mark_not x x' m h k =
    let e = h.image ∙ markings.1 in
    let z : ◌≡◌ {A = ℕ} 0 1 = ap (λ (l : List ℕ). get_or l 36 0) (subst (λ (l : List ℕ). l ≡ mark_image l (to 2) 1) e k.image ∙ markings.2) in
    omega arith

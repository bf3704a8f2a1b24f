-- The C call of a step (01, "What the shelf does"): "It lends a sense room too, whose first 37 bytes take the sense, the rest staying; a
-- shorter one is call 5 before all other checks, nothing moved."
use Rattle.std.specs.Prelude.{◌≡◌, Bool, true, false, cond, List, ◌⊎◌, ℕ, ◌≤◌, ◌<◌, ltb, length, Ok, Err}
use Rattle.std.proofs.Common.{sym, ap, ◌∙◌, inl, inr, arith, lt-ltb, le-ltb}
use Rattle.folds.specs.Cases.{either}
use Rattle.octets.specs.Put.{put}
use Rattle.drives.specs.declared.Came.{Came}
use Rattle.sense.specs.declared.Outcome.{Outcome}
use Rattle.sense.specs.declared.Answer.{Answer}
use Rattle.sense.specs.declared.Answer.TheVariants.{ShortRoom}
use Rattle.sense.specs.Answers.{number_of}
use Rattle.sense.specs.SenseLaws.{sound}
use Rattle.meaning.specs.Decision.{Decision}
use Rattle.meaning.specs.Step.{decided, outcome_after, step_image, step_room, step_outcome, reset_answer, reset_image, mark_answer, mark_image}
use Rattle.meaning.specs.Stepped.{Stepped, Reset, Marked}
use Rattle.demands_one_two.specs.Step.{refused_keeps, count_small}
use Rattle.demands_one_two.specs.Calls.{reset_keeps, mark_keeps}

-- the sense room n is too short
abbrev pub short : List ℕ → Bool
short n = ltb (length n) 37

-- by image m, a command that came as a, its CDB c, data-out bytes s, room r and sense room n: the number that it answers, and what it leaves
module _ (m : List ℕ) (a : Came) (c s r n : List ℕ) where
  abbrev pub step_number : ℕ
  step_number = cond (short n) (number_of ShortRoom) (number_of (step_outcome m a c s r).answer)

  abbrev pub image_left : List ℕ
  image_left = cond (short n) m (step_image m a c s r)

  abbrev pub room_left : List ℕ
  room_left = cond (short n) r (step_room m a c s r)

  abbrev pub sense_left : List ℕ
  sense_left = cond (short n) n (put n 0 (step_outcome m a c s r).sense.bytes)

-- with count k they become number x, image m', room r', sense room n', count k'
pub record StepCall (m : List ℕ) (a : Came) (c s r n : List ℕ) (k x : ℕ) (m' r' n' : List ℕ) (k' : ℕ) : Type 0 where
  pub number : x ≡ step_number m a c s r n
  pub image : m' ≡ image_left m a c s r n
  pub room : r' ≡ room_left m a c s r n
  pub sense : n' ≡ sense_left m a c s r n
  pub count : k' ≡ cond (short n) k (step_outcome m a c s r).count

-- as the code goes
pub too_short : (m : List ℕ) (a : Came) (c s r n : List ℕ) (k : ℕ) → length n < 37 → StepCall m a c s r n k 261 m r n k
too_short m a c s r n k l =
    let e : short n ≡ true = lt-ltb (length n) 37 l in
    record { number = rw e; image = rw e; room = rw e; sense = rw e; count = rw e }

pub long_enough : (m : List ℕ) (b a : Came) (c s r n : List ℕ) (k x : ℕ) (o : Outcome) (m' r' n' : List ℕ) (k' : ℕ) → 37 ≤ length n → b ≡ a → Stepped m b c s r o m' r'
    → x ≡ number_of o.answer → n' ≡ put n 0 o.sense.bytes → k' ≡ o.count → StepCall m a c s r n k x m' r' n' k'
long_enough m b a c s r n k x o m' r' n' k' l came by p q z =
    let h : Stepped m a c s r o m' r' = rw came at by in
    let e : short n ≡ false = le-ltb (length n) 37 l in
    record {
      number = p ∙ ap (λ (t : Outcome). number_of t.answer) h.outcome ∙ rw e;
      image = h.image ∙ rw e;
      room = h.room ∙ rw e;
      sense = q ∙ ap (λ (t : Outcome). put n 0 t.sense.bytes) h.outcome ∙ rw e;
      count = z ∙ ap (λ (t : Outcome). t.count) h.outcome ∙ rw e;
    }

-- the sense is 37 bytes long, and the count fits
pub told_long : (m : List ℕ) (a : Came) (c s r : List ℕ) (o : Outcome) (m' r' : List ℕ) → Stepped m a c s r o m' r' → length o.sense.bytes ≡ 37
unfolding step_outcome
told_long m a c s r o m' r' h = ap (λ (t : Outcome). length t.sense.bytes) h.outcome ∙ pick (decided m a c s r)
  where
    pick : (d : Decision) → length (outcome_after d m s).sense.bytes ≡ 37
    pick (Err x) = (sound x.answer).bytes_long
    pick (Ok x) = (sound x.answer).bytes_long

pub fits_count : (m : List ℕ) (a : Came) (c s r : List ℕ) (o : Outcome) (m' r' : List ℕ) → Stepped m a c s r o m' r' → o.count < 4294967296
fits_count m a c s r o m' r' h = let e : o.count ≡ (step_outcome m a c s r).count = ap (λ (t : Outcome). t.count) h.outcome in omega (arith, count_small m a c s r)

-- a reset and a marking, by the answer's number
pub reset_numbered : (m : List ℕ) (b a : Came) (z : Answer) (x : ℕ) (m' : List ℕ) → b ≡ a → Reset m b z m' → x ≡ number_of z
    → (x ≡ number_of (reset_answer m a)) × (m' ≡ reset_image m a)
reset_numbered m b a z x m' came h e = rw (sym came) (e ∙ ap number_of h.answer, h.image)

pub mark_numbered : (m : List ℕ) (b a : Came) (state : ℕ) (z : Answer) (x : ℕ) (m' : List ℕ) → b ≡ a → Marked m b state z m' → x ≡ number_of z
    → (x ≡ number_of (mark_answer m a state)) × (m' ≡ mark_image m a state)
mark_numbered m b a state z x m' came h e = rw (sym came) (e ∙ ap number_of h.answer, h.image)

-- demand 1 over the C contracts: a number other than 0 leaves the image, and a step's receive room, as they were
pub step_keeps : (m : List ℕ) (a : Came) (c s r n : List ℕ) (k x : ℕ) (m' r' n' : List ℕ) (k' : ℕ) → StepCall m a c s r n k x m' r' n' k' → (x ≡ 0 → ⊥) → (m' ≡ m) × (r' ≡ r)
step_keeps m a c s r n k x m' r' n' k' h never = pick (either (short n))
  where
    pick : (short n ≡ true) ⊎ (short n ≡ false) → (m' ≡ m) × (r' ≡ r)
    pick (inl e) = (rw e at h.image, rw e at h.room)
    pick (inr e) =
        let w = refused_keeps m a c s r (λ g. never (h.number ∙ rw (e, g))) in
        ((rw e at h.image) ∙ w.0, (rw e at h.room) ∙ w.1)

pub reset_call_keeps : (m : List ℕ) (a : Came) (x : ℕ) (m' : List ℕ) → (x ≡ number_of (reset_answer m a)) × (m' ≡ reset_image m a) → (x ≡ 0 → ⊥) → m' ≡ m
reset_call_keeps m a x m' h never = h.1 ∙ reset_keeps m a (λ g. never (h.0 ∙ ap number_of g))

pub mark_call_keeps : (m : List ℕ) (a : Came) (state x : ℕ) (m' : List ℕ) → (x ≡ number_of (mark_answer m a state)) × (m' ≡ mark_image m a state) → (x ≡ 0 → ⊥) → m' ≡ m
mark_call_keeps m a state x m' h never = h.1 ∙ mark_keeps m a state (λ g. never (h.0 ∙ ap number_of g))

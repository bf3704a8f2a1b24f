-- What a call leaves, by name: the answer, the image, the receive room.
use Rattle.std.specs.Prelude.{◌≡◌, List, ℕ}
use Rattle.std.proofs.Math.Path.{sym, ap}
use Rattle.std.proofs.Common.{◌∙◌}
use Rattle.std.proofs.Math.ListN.{length}
use Rattle.octets.specs.Put.{put}
use Rattle.geometry.specs.declared.Geometry.{Geometry}
use Rattle.geometry.specs.Header.{geometry_of}
use Rattle.drives.specs.declared.Came.{Came}
use Rattle.sense.specs.declared.Answer.{Answer}
use Rattle.sense.specs.declared.Outcome.{Outcome}
use Rattle.sense.specs.Sense.{outcome_of}
use Rattle.meaning.specs.declared.Act.{Act}
use Rattle.meaning.specs.declared.Seen.{Seen}
use Rattle.meaning.specs.Decision.{Decision, stop, go}
use Rattle.meaning.specs.Acts.{leaves, hands}
use Rattle.meaning.specs.Step.{decided, image_after, room_after, outcome_after, step_image, step_room, step_outcome, reset_answer, reset_image, mark_answer, mark_image}

-- image m, a command that came as a, its CDB c, data-out bytes s and receive room r become outcome o, image m' and room r'
pub record Stepped (m : List ℕ) (a : Came) (c s r : List ℕ) (o : Outcome) (m' r' : List ℕ) : Type 0 where
  pub outcome : o ≡ step_outcome m a c s r
  pub image : m' ≡ step_image m a c s r
  pub room : r' ≡ step_room m a c s r

pub record Reset (m : List ℕ) (a : Came) (z : Answer) (m' : List ℕ) : Type 0 where
  pub answer : z ≡ reset_answer m a
  pub image : m' ≡ reset_image m a

pub record Marked (m : List ℕ) (a : Came) (state : ℕ) (z : Answer) (m' : List ℕ) : Type 0 where
  pub answer : z ≡ mark_answer m a state
  pub image : m' ≡ mark_image m a state

-- ---- as the code goes

module _ (m : List ℕ) (a : Came) (c s r : List ℕ) where
  -- a check decided
  pub stopped : (n : ℕ) (w : Seen) (z : Answer) (o : Outcome) → decided m a c s r ≡ stop n w z → o ≡ outcome_of z 0 → Stepped m a c s r o m r
  unfolding step_outcome step_image step_room
  stopped n w z o e q =
      record {
        outcome = q ∙ sym (ap (λ (d : Decision). outcome_after d m s) e);
        image = sym (ap (λ (d : Decision). image_after d m s) e);
        room = sym (ap (λ (d : Decision). room_after d m s r) e);
      }

  -- none did
  pub went : (act : Act) (z : Answer) (g : Geometry) (k : ℕ) (o : Outcome) (m' r' : List ℕ) → decided m a c s r ≡ go act z → g ≡ geometry_of m
      → m' ≡ leaves m g s act → r' ≡ put r 0 (hands m g s act) → k ≡ length (hands m g s act) → o ≡ outcome_of z k → Stepped m a c s r o m' r'
  unfolding step_outcome step_image step_room
  went act z g k o m' r' e h p q l u =
      record {
        outcome = u ∙ ap (outcome_of z) (l ∙ ap (λ (j : Geometry). length (hands m j s act)) h) ∙ sym (ap (λ (d : Decision). outcome_after d m s) e);
        image = p ∙ ap (λ (j : Geometry). leaves m j s act) h ∙ sym (ap (λ (d : Decision). image_after d m s) e);
        room = q ∙ ap (λ (j : Geometry). put r 0 (hands m j s act)) h ∙ sym (ap (λ (d : Decision). room_after d m s r) e);
      }

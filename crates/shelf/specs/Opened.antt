-- A reset and a marking, as the code goes through their checks.
use Rattle.std.specs.Prelude.{◌≡◌, ℕ, ◌≤◌, ◌<◌, ltb, Some, Err}
use Rattle.std.proofs.Math.Path.{sym, ap}
use Rattle.std.proofs.Common.{◌∙◌}
use mathlib.Core.List.{List, [], ◌∷◌}
use borrow.Author.Tests.{lt-ltb, le-ltb}
use Rattle.rules.specs.Rule.{rule, first}
use Rattle.rules.proofs.Rule.{first_append}
use Rattle.geometry.specs.declared.Geometry.{Geometry}
use Rattle.geometry.specs.Header.{geometry_of}
use Rattle.drives.specs.declared.Came.{Came}
use Rattle.drives.specs.Table.{target_of, marked}
use Rattle.slots.specs.Change.{dropped}
use Rattle.sense.specs.declared.Answer.{Answer}
use Rattle.sense.specs.declared.Answer.TheVariants.{Good, BadState}
use Rattle.meaning.specs.declared.Seen.TheVariants.{Dash}
use Rattle.meaning.specs.Checks.{Check, calls}
use Rattle.meaning.specs.Step.{answered, untouched, target, reset_answer, reset_image, mark_answer, mark_image}
use Rattle.decide.specs.Called.{called_of, Addressed, addressed_found, called_refused}
use Rattle.meaning.specs.Stepped.{Reset, Marked}

-- calls 1 and 2
module _ (m : List ℕ) (a : Came) (x : Answer) (e : called_of m a ≡ Err x) where
  pub reset_refused : Reset m a x m
  unfolding reset_answer reset_image
  reset_refused =
      record {
        answer = called_refused m a answered x Good e;
        image = called_refused m a (untouched m) x (dropped m (geometry_of m) (target m a)) e;
      }

  pub mark_refused : (state : ℕ) → Marked m a state x m
  unfolding mark_answer mark_image
  mark_refused state =
      let six : List Check = rule 1 Dash (ltb 1 state) BadState ∷ [] in
      let after = marked m (geometry_of m) (target m a) state in
      record {
        answer = called_refused m a answered x (first answered six Good) e ∙ sym (first_append answered (calls m a) six Good);
        image = called_refused m a (untouched m) x (first (untouched m) six after) e ∙ sym (first_append (untouched m) (calls m a) six after);
      }

-- where they pass
module _ (m : List ℕ) (a : Came) (g : Geometry) (i : ℕ) (t : Addressed m a g i) where
  found : target_of m (geometry_of m) a ≡ Some i
  found = addressed_found m a g i t

  pub reset_done : (m' : List ℕ) → m' ≡ dropped m g i → Reset m a Good m'
  unfolding reset_answer reset_image
  reset_done m' p =
      record { answer = rw (t.valid, found); image = p ∙ ap (λ (k : Geometry). dropped m k i) t.header ∙ rw (t.valid, found) }

  -- call 6
  pub mark_state : (state : ℕ) → 1 < state → Marked m a state BadState m
  unfolding mark_answer mark_image
  mark_state state l = record { answer = rw (t.valid, found, lt-ltb 1 state l); image = rw (t.valid, found, lt-ltb 1 state l) }

  pub mark_done : (state : ℕ) → state ≤ 1 → (m' : List ℕ) → m' ≡ marked m g i state → Marked m a state Good m'
  unfolding mark_answer mark_image
  mark_done state l m' p =
      record {
        answer = rw (t.valid, found, le-ltb 1 state l);
        image = p ∙ ap (λ (k : Geometry). marked m k i state) t.header ∙ rw (t.valid, found, le-ltb 1 state l);
      }

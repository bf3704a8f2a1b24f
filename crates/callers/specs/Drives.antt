-- A reset and a marking for callers: when they are GOOD, and what they leave, in words of results, states and blocks.
use Rattle.std.specs.Prelude.{ℕ, ◌≤◌, ◌<◌, Bool, not, cond, eqb, List, [], ◌≡◌, Option, Some, is_none}
use Rattle.std.proofs.Common.{arith, inr, ⊎_elim, sym, ap, ap₂, ◌∙◌, le-ltb, eq-eqb, ne_eqb}
use Rattle.folds.specs.Cases.{same as alike}
use Rattle.folds.specs.Least.{index}
use Rattle.rules.specs.Rule.{AllPass}
use Rattle.rules.proofs.Rule.{none_decides}
use Rattle.geometry.specs.declared.Geometry.{Geometry}
use Rattle.octets.specs.Xor.{xor_nil}
use Rattle.geometry.specs.Header.{geometry_of}
use Rattle.geometry.specs.Frame.{Placed}
use Rattle.geometry.specs.Outside.{outside_away}
use Rattle.geometry.specs.Places.{place_after_media}
use Rattle.drives.specs.declared.Came.{Came}
use Rattle.drives.specs.Table.{state_of, address_of, target_of, marked}
use Rattle.drives.specs.Lookup.{drive_inside}
use Rattle.drives.specs.Front.{state_same, address_same}
use Rattle.drives.specs.Marked.{state_marked, state_marked_other, address_marked, part_marked}
use Rattle.slots.specs.Change.{dropped}
use Rattle.results.specs.Lists.{keeping}
use Rattle.results.specs.Results.{results}
use Rattle.results.specs.Drop.{of_other}
use Rattle.results.proofs.Drop.{drop_results, drop_part}
use Rattle.sums.specs.Row.{row_sum}
use Rattle.image.specs.Shelf.{Shelf, shelf_frame}
use Rattle.image.proofs.Shelf.{shelf_valid}
use Rattle.sense.specs.declared.Answer.TheVariants.{Good}
use Rattle.meaning.specs.Checks.{calls}
use Rattle.meaning.specs.Step.{answered, untouched, reset_answer, reset_image, mark_calls, mark_answer, mark_image}
use Rattle.meaning.specs.Acts.{span_at, blocks_of}
use Rattle.callers.specs.After.{After}
use Rattle.demands_one_two.specs.Retained.{marked_results}
use Rattle.demands_one_two.specs.Sums.{dropped_sum, marked_sum}
use Rattle.demands_one_two.specs.Calls.{reset_shelf, reset_front, mark_shelf}

-- a call that came as a was made to drive t of the valid image m, present or failed
pub record Names (m : List ℕ) (g : Geometry) (a : Came) (t : ℕ) : Type 0 where
  pub shelf : Shelf m g
  pub found : target_of m g a ≡ Some t

module _ (m : List ℕ) (g : Geometry) (a : Came) (t : ℕ) (h : Names m g a t) where
  there : target_of m (geometry_of m) a ≡ Some t
  there = ap (λ (k : Geometry). target_of m k a) h.shelf.header ∙ h.found

  pass : AllPass (calls m a)
  pass = (ap not (shelf_valid m g h.shelf), (ap is_none there, tt))

  p : Placed g
  p = (shelf_frame m g h.shelf).placed

  inside : t < g.d
  inside = (drive_inside m g a.target.0 t h.found).0

  -- what is done to drive t of m's own geometry is done to drive t
  same : (f : Geometry → ℕ → List ℕ) → f (geometry_of m) (index (target_of m (geometry_of m) a)) ≡ f g t
  same f = ap₂ (λ (k : Geometry) (x : Option ℕ). f k (index x)) h.shelf.header there

  -- ---- "Hard reset drops all results of its drive, present or failed; the others keep their order"

  reset_is : reset_image m a ≡ dropped m g t
  unfolding reset_image
  reset_is = none_decides (untouched m) (calls m a) _ pass ∙ same (λ k d. dropped m k d)

  pub reset_good : reset_answer m a ≡ Good
  unfolding reset_answer
  reset_good = none_decides answered (calls m a) Good pass

  pub reset_does : After m (reset_image m a) g (state_of m g) [] (keeping (of_other t) (results m g))
  reset_does =
      record {
        shelf = reset_shelf m g h.shelf a;
        state_is = state_same (reset_image m a) m g p (reset_front m g h.shelf a);
        address_kept = address_same (reset_image m a) m g p (reset_front m g h.shelf a);
        wrote = tt;
        kept = λ x r o.
            ap (λ (y : List ℕ). blocks_of y g x) reset_is
            ∙ drop_part m g t (span_at g x) _ (outside_away g (span_at g x) _ p (inr (place_after_media g x.drive x.block.0)));
        retained = ap (λ (x : List ℕ). results x g) reset_is ∙ drop_results m g (shelf_frame m g h.shelf) h.shelf.slots_fine t;
        sum_is = λ r l. ap (λ (x : List ℕ). row_sum x g r) reset_is ∙ dropped_sum m g h.shelf r t ∙ sym (xor_nil (row_sum m g r));
      }

  -- ---- "Marking writes the state byte alone, and retained results stay."

  module _ (state : ℕ) (ok : state ≤ 1) where
    mark_pass : AllPass (mark_calls m a state)
    mark_pass = (pass.0, (pass.1.0, (le-ltb 1 state ok, tt)))

    mark_is : mark_image m a state ≡ marked m g t state
    unfolding mark_image
    mark_is = none_decides (untouched m) (mark_calls m a state) _ mark_pass ∙ same (λ k d. marked m k d state)

    pub mark_good : mark_answer m a state ≡ Good
    unfolding mark_answer
    mark_good = none_decides answered (mark_calls m a state) Good mark_pass

    -- its own state, and the others'
    state_is : (d : ℕ) → state_of (marked m g t state) g d ≡ cond (eqb d t) state (state_of m g d)
    state_is d =
        ⊎_elim
        (λ e. ap (state_of (marked m g t state) g) e
        ∙ state_marked m g t state (shelf_frame m g h.shelf) inside
        ∙ sym (ap (λ (b : Bool). cond b state (state_of m g d)) (eq-eqb d t e)))
        (λ ne. rw (ne_eqb d t ne) (state_marked_other m g t state d ne)) (alike d t)

    pub mark_does : After m (mark_image m a state) g (λ d. cond (eqb d t) state (state_of m g d)) [] (results m g)
    mark_does =
        record {
          shelf = mark_shelf m g h.shelf a state;
          state_is = λ d l. ap (λ (x : List ℕ). state_of x g d) mark_is ∙ state_is d;
          address_kept = λ d l. ap (λ (x : List ℕ). address_of x g d) mark_is ∙ address_marked m g t state d;
          wrote = tt;
          kept = λ x r o.
              ap (λ (y : List ℕ). blocks_of y g x) mark_is
              ∙ part_marked m g t state p inside (span_at g x) _ (omega (arith, place_after_media g x.drive x.block.0, p.slot_ends));
          retained = ap (λ (x : List ℕ). results x g) mark_is ∙ marked_results m g h.shelf t state inside;
          sum_is = λ r l. ap (λ (x : List ℕ). row_sum x g r) mark_is ∙ marked_sum m g h.shelf r t state inside ∙ sym (xor_nil (row_sum m g r));
        }

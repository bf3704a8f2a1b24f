-- "Something to retain and no empty slot": as many results are retained as there are slots.
use Rattle.std.specs.Prelude.{ℕ, true, ◌≡◌, List, length, None}
use Rattle.std.proofs.Math.Bool.{not}
use Rattle.std.proofs.Common.{◌∙◌}
use Rattle.std.proofs.Math.ListN.{length-map}
use borrow.Author.Tests.{not-false}
use Rattle.folds.specs.Count.{count_all}
use Rattle.folds.proofs.Least.{least_nothing}
use Rattle.geometry.specs.declared.Geometry.{Geometry}
use Rattle.slots.specs.Record.{slot_of, is_used}
use Rattle.slots.specs.Slots.{used_count, slots_ok}
use Rattle.slots.specs.Facts.{right}
use Rattle.slots.specs.Find.{empty_slot}
use Rattle.results.proofs.Members.{length_ages}
use Rattle.results.specs.Results.{result_at, by_age, results}

module _ (s : List ℕ) (g : Geometry) (ok : slots_ok s g ≡ true) where
  pub length_results : length (results s g) ≡ used_count s g
  unfolding results
  length_results = length-map (by_age s g) (result_at s g) ∙ length_ages g (slot_of s g) (right s g ok)

  pub full : empty_slot s g ≡ None → length (results s g) ≡ g.s
  unfolding empty_slot
  full e =
      length_results
      ∙ count_all (λ i. is_used (slot_of s g i)) g.s (λ i l. not-false _ (least_nothing (λ j. not (is_used (slot_of s g j))) g.s e i l))

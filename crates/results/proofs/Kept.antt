-- An image whose bytes in the slots are as before has the same results.
use Rattle.std.specs.Prelude.{ℕ, suc, true, ◌≡◌, List, map}
use Rattle.std.proofs.Math.Path.{ap}
use Rattle.std.proofs.Common.{◌∙◌}
use Rattle.geometry.specs.declared.Geometry.{Geometry}
use Rattle.geometry.specs.Frame.{Placed}
use Rattle.slots.specs.Record.{slot_of}
use Rattle.slots.specs.Slots.{used_count, slots_ok}
use Rattle.slots.specs.Facts.{right}
use Rattle.slots.specs.Kept.{slot_bytes, kept_slot, kept_data, kept_count, kept_has}
use Rattle.results.specs.Lists.{map_same}
use Rattle.results.specs.Ages.{ages_to, ages}
use Rattle.results.specs.Ranks.{ranked_same, ages_same}
use Rattle.results.proofs.Members.{ages_in}
use Rattle.results.specs.Results.{result_at, by_age, results, result_same}

module _ (s t : List ℕ) (g : Geometry) (p : Placed g) (e : slot_bytes t g ≡ slot_bytes s g) where
  kept_ages : ages g (slot_of t g) ≡ ages g (slot_of s g)
  kept_ages =
      ap (ages_to g (slot_of t g)) (kept_count s t g p e)
      ∙ ages_same g (slot_of s g) (slot_of t g) (used_count s g)
      (λ m l. ranked_same g (slot_of s g) (slot_of t g) (suc m) (suc m) (kept_has s t g p e (suc m)))

  pub kept_results : slots_ok s g ≡ true → results t g ≡ results s g
  unfolding results
  kept_results ok =
      let h = right s g ok in
      ap (map (result_at t g)) kept_ages
      ∙ map_same (result_at t g) (result_at s g) (by_age s g)
      (λ i m. let b = ages_in g (slot_of s g) h i m in
      let w = h.used i b.0 b.1 in
      result_same s t g i (slot_of s g i).rank (kept_slot s t g p e i b.0) (kept_data s t g p e i (slot_of s g i).len b.0 w.fits.len_high))

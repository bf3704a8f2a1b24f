-- What a right image retains, a slot can hold.
use Rattle.std.specs.Prelude.{ℕ, ◌*◌, ◌<◌, true, ◌≡◌}
use mathlib.Core.List.Memᴰ
use mathlib.Core.List.{List, Memᴰ}
use Rattle.octets.specs.Part.{length_part}
use Rattle.geometry.specs.declared.Geometry.{Geometry}
use Rattle.geometry.specs.Header.{data_at}
use Rattle.geometry.specs.Frame.{Framed}
use Rattle.geometry.specs.Places.{data_in}
use Rattle.slots.specs.Record.{slot_of}
use Rattle.slots.specs.Slots.{used_count, slots_ok}
use Rattle.slots.specs.Facts.{Used, right}
use Rattle.results.proofs.Members.{ages_in}
use Rattle.results.specs.Results.{Result, result_at, by_age, results, Sound}

-- what a right image retains is sound
module _ (m : List ℕ) (g : Geometry) (f : Framed m g) (ok : slots_ok m g ≡ true) where
  slot_sound : (i : ℕ) → i < g.s → Used g (used_count m g) (slot_of m g i) → Sound g (result_at m g i)
  unfolding result_at
  slot_sound i l w =
      record {
        fits = w.fits;
        exact = length_part m (data_at g i) ((slot_of m g i).len * g.l) (data_in m g i (slot_of m g i).len f l w.fits.len_high);
      }

  pub results_sound : (r : Result) → Memᴰ r (results m g) → Sound g r
  unfolding results
  results_sound r q =
      let w = Memᴰ.of_map (result_at m g) (by_age m g) q in
      let h = right m g ok in
      let b = ages_in g (slot_of m g) h w.0 w.1 in
      rw (← w.2) (slot_sound w.0 b.0 (h.used w.0 b.0 b.1))

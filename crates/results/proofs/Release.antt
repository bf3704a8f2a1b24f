-- A result that goes: the slots stay right, it alone is taken out of the results, and no byte outside the slots' records changes.
use Rattle.std.specs.Prelude.{ℕ, ◌*◌, ◌^◌, ◌<◌, true, ◌≡◌, List, map, eqb, length, replicate}
use Rattle.std.proofs.Common.{arith, ◌∙◌, ⊎_elim}
use Rattle.std.proofs.Math.Bool.{not}
use Rattle.std.proofs.Math.Path.{ap}
use Rattle.std.proofs.lemmas.Bool.{not-true, eqb-false}
use Rattle.octets.specs.Part.{part}
use Rattle.octets.specs.Put.{put, length_put}
use Rattle.octets.specs.PutPut.{part_put_apart}
use Rattle.folds.specs.Cases.{either, same}
use Rattle.folds.specs.Count.{count_le}
use Rattle.geometry.specs.declared.Geometry.{Geometry}
use Rattle.geometry.specs.Header.{slot_at, data_at}
use Rattle.geometry.specs.Frame.{Framed, framed_same}
use Rattle.geometry.specs.Places.{slot_room}
use Rattle.geometry.specs.Outside.{Outside, outside_data}
use Rattle.slots.specs.declared.Slot.{Slot}
use Rattle.slots.specs.Record.{slot_of, is_used, zero_slot}
use Rattle.slots.specs.Slots.{slots_ok}
use Rattle.slots.specs.Facts.{right, right_ok}
use Rattle.slots.specs.Change.{lowered, released}
use Rattle.slots.specs.Stored.{slot_zeroed, slot_other}
use Rattle.results.specs.Lists.{map_keeping}
use Rattle.results.specs.Ages.{without}
use Rattle.results.specs.Lower.{lower_rank, lower_slot, lower_below}
use Rattle.results.specs.Gone.{Lost}
use Rattle.results.proofs.Gone.{gone_right, gone_ages}
use Rattle.results.proofs.Members.{ages_in}
use Rattle.results.specs.Results.{result_at, by_age, results, result_same}
use Rattle.results.specs.Lowered.{length_lowered, lowered_part, lowered_below}

pub length_released : (s : List ℕ) (g : Geometry) (x : ℕ) → length (released s g x) ≡ length s
unfolding released lowered
length_released s g x = length_lowered g _ _ g.s ∙ length_put s _ _

pub release_part : (s : List ℕ) (g : Geometry) (x a n : ℕ) → x < g.s → Outside g a n → part (released s g x) a n ≡ part s a n
unfolding released lowered
release_part s g x a n l o =
    lowered_part g _ _ g.s a n (omega arith) o ∙ part_put_apart s (slot_at g x) (replicate 16 0) a n (o x l)

module _ (s : List ℕ) (g : Geometry) (f : Framed s g) (ok : slots_ok s g ≡ true) where
  -- ranks are small
  rank_small : (j : ℕ) → j < g.s → (slot_of s g j).rank < 2 ^ 32
  rank_small j l =
      let h = right s g ok in
      ⊎_elim
      (λ u. let w = h.used j l u in omega (arith, count_le (λ i. is_used (slot_of s g i)) g.s, f.placed.ranges.s_high))
      (λ u. omega (arith, ap (λ (t : Slot). t.rank) (h.empty j l u)))
      (either (is_used (slot_of s g j)))

  module _ (x : ℕ) (l : x < g.s) where
    abbrev zeroed : List ℕ
    zeroed = put s (slot_at g x) (replicate 16 0)

    zeroed_x : slot_of zeroed g x ≡ zero_slot
    zeroed_x = slot_zeroed s g x (omega (arith, slot_room s g x f l))

    zeroed_other : (j : ℕ) → (j ≡ x → ⊥) → slot_of zeroed g j ≡ slot_of s g j
    zeroed_other j ne = slot_other s g x j (replicate 16 0) ne (omega arith)

    zeroed_small : (j : ℕ) → j < g.s → (slot_of zeroed g j).rank < 2 ^ 32
    zeroed_small j lj =
        ⊎_elim (λ e. omega (arith, ap (λ (t : Slot). t.rank) (ap (slot_of zeroed g) e ∙ zeroed_x)))
        (λ ne. rw (zeroed_other j ne) (rank_small j lj))
        (same j x)

    lowered_all : (j : ℕ) → j < g.s → slot_of (released s g x) g j ≡ lower_slot (slot_of s g x).rank (slot_of zeroed g j)
    unfolding released lowered
    lowered_all j lj =
        lowered_below g (slot_of s g x).rank zeroed (framed_same s zeroed g f (length_put s _ _)) zeroed_small g.s j (omega arith) lj

    -- "its record is zeroed, its data left, and higher ranks fall by one"
    pub release_zeroed : slot_of (released s g x) g x ≡ zero_slot
    release_zeroed = lowered_all x l ∙ rw (zeroed_x, lower_below (slot_of s g x).rank 0 (omega arith))

    pub release_slot : (j : ℕ) → j < g.s → (j ≡ x → ⊥) → slot_of (released s g x) g j ≡ lower_slot (slot_of s g x).rank (slot_of s g j)
    release_slot j lj ne = lowered_all j lj ∙ ap (lower_slot (slot_of s g x).rank) (zeroed_other j ne)

    module _ (u : is_used (slot_of s g x) ≡ true) where
      gone : Lost g (slot_of s g) (slot_of (released s g x) g) x
      gone = record { inside = l; used = u; zeroed = release_zeroed; rest = release_slot }

      pub release_ok : slots_ok (released s g x) g ≡ true
      release_ok = right_ok (released s g x) g (gone_right g _ _ x (right s g ok) gone)

      left : (i : ℕ) → i < g.s → is_used (slot_of s g i) ≡ true → (i ≡ x → ⊥) → result_at (released s g x) g i ≡ result_at s g i
      left i li ui ne =
          let w = (right s g ok).used i li ui in
          result_same s (released s g x) g i (lower_rank (slot_of s g x).rank (slot_of s g i).rank) (release_slot i li ne)
          (release_part s g x (data_at g i) ((slot_of s g i).len * g.l) l (outside_data g i (slot_of s g i).len w.fits.len_high))

      -- just this one is taken out
      pub release_results : results (released s g x) g ≡ map (result_at s g) (without x (by_age s g))
      unfolding results
      release_results =
          let h = right s g ok in
          ap (map (result_at (released s g x) g)) (gone_ages g (slot_of s g) (slot_of (released s g x) g) x h gone)
          ∙ map_keeping (result_at (released s g x) g) (result_at s g) (λ i. not (eqb i x)) (by_age s g)
          (λ i m t. let b = ages_in g (slot_of s g) h i m in left i b.0 b.1 (eqb-false i x (not-true _ t)))

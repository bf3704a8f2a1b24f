-- A result that is retained: the slots stay right, and it is the newest of the results.
use Rattle.std.specs.Prelude.{ℕ, ◌+◌, ◌*◌, ◌≤◌, ◌<◌, true, ◌≡◌, refl, ◌⊎◌, length, Option, Some, None}
use Rattle.std.proofs.Common.{arith, true≢false, sym, ◌∙◌, inl, inr, ⊎_elim, length-append}
use Rattle.std.proofs.Math.Path.{ap, ap₂}
use mathlib.Core.List.{List, ◌∷◌, ◌++◌, map}
use Rattle.octets.specs.Part.{part, part_append_back}
use Rattle.octets.specs.Put.{length_put}
use Rattle.octets.specs.PutPut.{part_put_of, part_put_apart}
use Rattle.folds.specs.Count.{count_le}
use Rattle.geometry.specs.declared.Geometry.{Geometry}
use Rattle.geometry.specs.Header.{slot_at, data_at}
use Rattle.geometry.specs.Frame.{Framed}
use Rattle.geometry.specs.Places.{slots_apart, slot_after_front, slot_before_media, data_ends, data_in}
use Rattle.geometry.specs.Outside.{Away}
use Rattle.slots.specs.declared.Slot.{Slot}
use Rattle.slots.specs.Record.{slot_of, bytes_of, is_used}
use Rattle.slots.specs.RecordLaws.{Small, length_bytes}
use Rattle.slots.specs.Slots.{used_count, slots_ok}
use Rattle.slots.specs.Facts.{Used, empty_inside, right, right_ok}
use Rattle.slots.specs.Find.{empty_slot}
use Rattle.slots.specs.Change.{entered, retained}
use Rattle.slots.specs.Stored.{slot_put, slot_other}
use Rattle.results.specs.Lists.{map_same}
use Rattle.results.specs.Gain.{Gained}
use Rattle.results.proofs.Gain.{gain_right, gain_ages}
use Rattle.results.proofs.Members.{ages_in}
use Rattle.results.specs.Results.{Result, slot_result, result_at, by_age, results, with_result, Sound, result_same}
use Rattle.results.specs.Retain.{new_record, filled}

pub retain_is : (s : List ℕ) (g : Geometry) (x : ℕ) (r : Result) → empty_slot s g ≡ Some x → with_result s g r ≡ filled s g x r
unfolding retained
retain_is s g x r e = ap (λ (t : Option ℕ). entered t s g (new_record s g r) r.bytes) e

pub length_retained : (s : List ℕ) (g : Geometry) (r : Result) → length (with_result s g r) ≡ length s
unfolding retained
length_retained s g r = by (empty_slot s g)
  where
    by : (t : Option ℕ) → length (entered t s g (new_record s g r) r.bytes) ≡ length s
    by (Some x) = length_put s _ _
    by None = refl

module _ (s : List ℕ) (g : Geometry) (f : Framed s g) (ok : slots_ok s g ≡ true) (x : ℕ) (e : empty_slot s g ≡ Some x) (r : Result)
    (w : Sound g r) where
  inside : x < g.s
  inside = (empty_inside s g x e).0

  -- record and bytes end within the slot
  size : length (bytes_of (new_record s g r) ++ r.bytes) ≡ 16 + r.len * g.l
  size =
      length-append (bytes_of (new_record s g r)) r.bytes ∙ ap₂ (λ (a b : ℕ). a + b) (length_bytes (new_record s g r)) w.exact

  room : slot_at g x + (16 + r.len * g.l) ≤ length s
  room = omega (arith, data_in s g x r.len f inside w.fits.len_high)

  small : Small (new_record s g r)
  small =
      record {
        rank_small = omega (arith, count_le (λ i. is_used (slot_of s g i)) g.s, f.placed.ranges.s_high);
        kind_small = omega arith;
        drive_small = omega (arith, f.placed.ranges.d_high);
        len_small = omega (arith, f.placed.ranges.m_high);
        block_small = omega (arith, f.placed.ranges.b_high);
        last_small = omega arith;
      }

  pub filled_x : slot_of (filled s g x r) g x ≡ new_record s g r
  filled_x = slot_put s g x (omega (arith, room)) (new_record s g r) r.bytes (omega (arith, room)) small

  filled_other : (j : ℕ) → (j ≡ x → ⊥) → slot_of (filled s g x r) g j ≡ slot_of s g j
  filled_other j ne = slot_other s g x j _ ne (omega (arith, size, data_ends g x r.len w.fits.len_high))

  new_used : Used g (used_count s g + 1) (new_record s g r)
  new_used =
      record {
        fits = w.fits;
        last_zero = refl;
        rank_low = omega arith;
        rank_high = omega arith;
      }

  pub gained : Gained g (slot_of s g) (slot_of (filled s g x r) g) x
  gained =
      record {
        inside = inside;
        empty = (empty_inside s g x e).1;
        new = rw filled_x new_used;
        top = ap (λ (t : Slot). t.rank) filled_x;
        rest = λ j l ne. filled_other j ne;
      }

  -- no byte changes but the slot's record and the front of its data
  pub retain_part : (a n : ℕ) → (a + n ≤ slot_at g x) ⊎ (data_at g x + r.len * g.l ≤ a) → part (with_result s g r) a n ≡ part s a n
  retain_part a n o =
      ap (λ (t : List ℕ). part t a n) (retain_is s g x r e)
      ∙ part_put_apart s (slot_at g x) _ a n (⊎_elim (λ l. inl l) (λ l. inr (omega (arith, size))) o)

  pub retain_away : (a n : ℕ) → Away g a n → part (with_result s g r) a n ≡ part s a n
  retain_away a n o =
      retain_part a n
      (⊎_elim (λ l. inl (omega (arith, slot_after_front g x)))
      (λ l. inr (omega (arith, data_ends g x r.len w.fits.len_high, slot_before_media g x f.placed inside)))
      o)

  pub retain_ok : slots_ok (with_result s g r) g ≡ true
  retain_ok = ap (λ (t : List ℕ). slots_ok t g) (retain_is s g x r e) ∙ right_ok (filled s g x r) g (gain_right g _ _ x (right s g ok) gained)

  new_result : result_at (filled s g x r) g x ≡ r
  unfolding result_at
  new_result =
      ap (λ (t : Slot). slot_result t (part (filled s g x r) (data_at g x) (t.len * g.l))) filled_x
      ∙ ap (slot_result (new_record s g r))
      (part_put_of s (slot_at g x) _ 16 (r.len * g.l) (omega (arith, size, room)) (omega (arith, size))
      ∙ part_append_back (bytes_of (new_record s g r)) r.bytes 16 (r.len * g.l) (length_bytes (new_record s g r)) w.exact)

  old_result : (i : ℕ) → i < g.s → is_used (slot_of s g i) ≡ true → result_at (filled s g x r) g i ≡ result_at s g i
  old_result i l u =
      let v = (right s g ok).used i l u in
      let ne : i ≡ x → ⊥ = (λ q. true≢false (sym u ∙ ap (λ (j : ℕ). is_used (slot_of s g j)) q ∙ (empty_inside s g x e).1)) in
      result_same s (filled s g x r) g i (slot_of s g i).rank (filled_other i ne)
      (part_put_apart s (slot_at g x) _ (data_at g i) ((slot_of s g i).len * g.l)
      (⊎_elim (λ b. inl (omega (arith, data_ends g i (slot_of s g i).len v.fits.len_high)))
      (λ b. inr (omega (arith, size, data_ends g x r.len w.fits.len_high)))
      (slots_apart g i x ne)))

  -- "A new result takes the lowest-numbered empty slot and rank k+1": it is the newest, and the others stay as they are
  pub retain_results : results (with_result s g r) g ≡ r ∷ results s g
  unfolding results
  retain_results =
      let h = right s g ok in
      ap (λ (t : List ℕ). map (result_at t g) (by_age t g)) (retain_is s g x r e)
      ∙ ap (map (result_at (filled s g x r) g)) (gain_ages g (slot_of s g) (slot_of (filled s g x r) g) x h gained)
      ∙ ap₂ (λ (t : Result) (ts : List Result). t ∷ ts) new_result
      (map_same (result_at (filled s g x r) g) (result_at s g) (by_age s g)
      (λ i m. let b = ages_in g (slot_of s g) h i m in old_result i b.0 b.1))

-- An image whose bytes in the slots are as before has the same slots.
use Rattle.std.specs.Prelude.{ℕ, ◌+◌, ◌-◌, ◌*◌, ◌≤◌, ◌<◌, ◌≡◌, List, eqb, length}
use Rattle.std.proofs.Common.{arith, sym, ◌∙◌, inl, inr, ⊎_elim}
use Rattle.std.proofs.Math.Bool.{not}
use Rattle.std.proofs.Math.Path.{ap, ap₂}
use Rattle.octets.specs.Part.{part, part_part}
use Rattle.octets.specs.Put.{put}
use Rattle.octets.specs.PutPut.{part_put_apart}
use Rattle.folds.specs.All.{all_ext}
use Rattle.folds.specs.Count.{count_ext}
use Rattle.folds.proofs.Least.{least_ext}
use Rattle.geometry.specs.declared.Geometry.{Geometry}
use Rattle.geometry.specs.Header.{slot_size, slot_at, data_at}
use Rattle.geometry.specs.Frame.{Placed}
use Rattle.geometry.specs.Places.{slot_after_front, slot_inside, data_ends}
use Rattle.geometry.specs.Outside.{Away}
use Rattle.slots.specs.declared.Slot.{Slot}
use Rattle.slots.specs.Record.{record_of, slot_of, is_used}
use Rattle.slots.specs.Slots.{slot_ok, used_count, has_rank, rank_in, new_rank, slots_ok}
use Rattle.slots.specs.Find.{empty_slot}

-- all slots' bytes
abbrev pub slot_bytes : List ℕ → Geometry → List ℕ
slot_bytes s g = part s g.slots (g.s * slot_size g)

-- a write that ends before the slots, or starts with the media
pub put_outside : (s : List ℕ) (g : Geometry) (at : ℕ) (ys : List ℕ) → Placed g → Away g at (length ys)
    → slot_bytes (put s at ys) g ≡ slot_bytes s g
put_outside s g at ys p w =
    part_put_apart s at ys g.slots (g.s * slot_size g) (⊎_elim (λ l. inr l) (λ l. inl (omega arith)) w)

module _ (s t : List ℕ) (g : Geometry) (p : Placed g) (e : slot_bytes t g ≡ slot_bytes s g) where
  kept_part : (a n : ℕ) → g.slots ≤ a → a + n ≤ g.slots + g.s * slot_size g → part t a n ≡ part s a n
  kept_part a n l m =
      let q : a ≡ g.slots + (a - g.slots) = omega arith in
      let h : a - g.slots + n ≤ g.s * slot_size g = omega arith in
      rw q
      (sym (part_part t g.slots (g.s * slot_size g) (a - g.slots) n h)
      ∙ ap (λ (r : List ℕ). part r (a - g.slots) n) e
      ∙ part_part s g.slots (g.s * slot_size g) (a - g.slots) n h)

  pub kept_slot : (i : ℕ) → i < g.s → slot_of t g i ≡ slot_of s g i
  unfolding slot_of
  kept_slot i l =
      ap record_of (kept_part (slot_at g i) 16 (omega (arith, slot_after_front g i)) (omega (arith, slot_inside g i l)))

  pub kept_data : (i n : ℕ) → i < g.s → n ≤ g.m → part t (data_at g i) (n * g.l) ≡ part s (data_at g i) (n * g.l)
  kept_data i n l h =
      kept_part (data_at g i) (n * g.l) (omega (arith, slot_after_front g i))
      (omega (arith, data_ends g i n h, slot_inside g i l))

  pub kept_count : used_count t g ≡ used_count s g
  kept_count = count_ext _ _ g.s (λ i l. ap is_used (kept_slot i l))

  pub kept_has : (n i : ℕ) → i < g.s → has_rank n (slot_of t g i) ≡ has_rank n (slot_of s g i)
  kept_has n i l = ap (has_rank n) (kept_slot i l)

  kept_new : (i : ℕ) → i < g.s → new_rank (slot_of t g) i ≡ new_rank (slot_of s g) i
  kept_new i l = all_ext _ _ i (λ j lj. ap₂ (λ (a b : Slot). not (eqb (rank_in a) (rank_in b))) (kept_slot j (omega arith)) (kept_slot i l))

  pub kept_ok : slots_ok t g ≡ slots_ok s g
  unfolding slots_ok
  kept_ok =
      all_ext _ _ g.s
      (λ i l. ap (λ (k : ℕ). slot_ok g k (new_rank (slot_of t g) i) (slot_of t g i)) kept_count ∙ ap₂ (slot_ok g (used_count s g)) (kept_new i l) (kept_slot i l))

  pub kept_empty : empty_slot t g ≡ empty_slot s g
  unfolding empty_slot
  kept_empty = least_ext _ _ g.s (λ i l. ap (λ (r : Slot). not (is_used r)) (kept_slot i l))

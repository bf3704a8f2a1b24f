-- What a write inside a slot does to the slots: to its own record, and to the others.
use Rattle.std.specs.Prelude.{◌≡◌, List, ◌++◌, ℕ, ◌+◌, ◌^◌, ◌≤◌, ◌<◌, replicate}
use Rattle.std.proofs.Math.Path.{ap}
use Rattle.std.proofs.Common.{◌∙◌, inl, inr, ⊎_elim}
use native.Mathlib.Omega.{arith}
use Rattle.std.proofs.Math.ListN.{length, length-append}
use Rattle.octets.specs.Part.{part, length_part, part_append_front}
use Rattle.octets.specs.Put.{put}
use Rattle.octets.specs.PutPut.{part_put, part_put_of, part_put_in, part_put_apart}
use Rattle.octets.specs.Number.{to_be}
use Rattle.geometry.specs.declared.Geometry.{Geometry}
use Rattle.geometry.specs.Header.{slot_at, slot_size}
use Rattle.geometry.specs.Places.{slots_apart}
use Rattle.slots.specs.declared.Slot.{Slot}
use Rattle.slots.specs.Record.{record_of, bytes_of, slot_of, zero_slot}
use Rattle.slots.specs.RecordLaws.{Small, record_bytes_lem, length_bytes, record_zeros, ranked, record_ranked}

module _ (s : List ℕ) (g : Geometry) (i : ℕ) (room : slot_at g i + 16 ≤ length s) where
  -- a whole record, and what may follow it
  pub slot_put : (r : Slot) (bytes : List ℕ) → slot_at g i + (16 + length bytes) ≤ length s → Small r → slot_of (put s (slot_at g i) (bytes_of r ++ bytes)) g i ≡ r
  unfolding slot_of
  slot_put r bytes h small =
      let a = slot_at g i in
      let n : length (bytes_of r) ≡ 16 = length_bytes r in
      let l : length (bytes_of r ++ bytes) ≡ 16 + length bytes = length-append (bytes_of r) bytes ∙ ap (λ (k : ℕ). k + length bytes) n in
      let z : a ≡ a + 0 = omega arith in
      ap (λ (k : ℕ). record_of (part (put s a (bytes_of r ++ bytes)) k 16)) z
      ∙ ap record_of (part_put_of s a (bytes_of r ++ bytes) 0 16 (omega arith) (omega arith) ∙ part_append_front (bytes_of r) bytes 16 n)
      ∙ record_bytes_lem r small

  pub slot_zeroed : slot_of (put s (slot_at g i) (replicate 16 0)) g i ≡ zero_slot
  unfolding slot_of
  slot_zeroed = ap record_of (part_put s (slot_at g i) (replicate 16 0) room) ∙ record_zeros

  pub slot_ranked_lem : (v : ℕ) → v < 2 ^ 32 → slot_of (put s (slot_at g i) (to_be 4 v)) g i ≡ ranked v (slot_of s g i)
  unfolding slot_of
  slot_ranked_lem v h =
      let a = slot_at g i in
      let z : a ≡ a + 0 = omega arith in
      ap (λ (k : ℕ). record_of (part (put s k (to_be 4 v)) a 16)) z
      ∙ ap record_of (part_put_in s a 16 0 (to_be 4 v))
      ∙ record_ranked (part s a 16) v (length_part s a 16 room) h

-- a write inside one slot leaves the others
pub slot_other : (s : List ℕ) (g : Geometry) (i j : ℕ) (ys : List ℕ) → (j ≡ i → ⊥) → length ys ≤ slot_size g → slot_of (put s (slot_at g i) ys) g j ≡ slot_of s g j
unfolding slot_of
slot_other s g i j ys ne h =
    ap record_of (part_put_apart s (slot_at g i) ys (slot_at g j) 16 (⊎_elim (λ l. inl (omega arith)) (λ l. inr (omega arith)) (slots_apart g j i ne)))

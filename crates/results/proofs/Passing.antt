-- A result that is retained and goes again: the image is as before but for the slot's data.
use Rattle.std.specs.Prelude.{ℕ, ◌+◌, ◌≤◌, ◌<◌, true, ◌≡◌, refl, length, replicate, Option, Some, None}
use Rattle.std.proofs.Common.{arith, true≢false, subst, ◌∙◌, ⊎_elim, le-ltb, eq-eqb}
use Rattle.std.proofs.Math.Path.{sym, ap}
use mathlib.Core.List.{List, ◌++◌}
use Rattle.octets.specs.Part.{part, length_part}
use Rattle.octets.specs.Put.{put, length_put}
use Rattle.octets.specs.PutPut.{put_put, put_comm, put_append, put_part}
use Rattle.octets.specs.Octets.{Octets, octets_part}
use Rattle.octets.specs.Number.{to_be}
use Rattle.folds.specs.Cases.{either, same}
use Rattle.folds.specs.Every.{holds, every_of}
use Rattle.geometry.specs.declared.Geometry.{Geometry}
use Rattle.geometry.specs.Header.{slot_at, data_at}
use Rattle.geometry.specs.Stores.{stored, in_turn, in_turn_keeps}
use Rattle.geometry.specs.Frame.{Framed}
use Rattle.geometry.specs.Places.{slot_room}
use Rattle.slots.specs.declared.Slot.{Slot}
use Rattle.slots.specs.Record.{bytes_of, slot_of, is_used}
use Rattle.slots.specs.RecordLaws.{length_bytes, bytes_record}
use Rattle.slots.specs.Slots.{used_in, used_count, slots_ok}
use Rattle.slots.specs.Facts.{Right, right, right_ok, empty_inside}
use Rattle.slots.specs.Find.{empty_slot, wanted, newest_of}
use Rattle.slots.specs.Change.{fall_stores, gone_stores, released}
use Rattle.slots.specs.Ranks.{used_is}
use Rattle.slots.specs.Stored.{slot_zeroed, slot_other}
use Rattle.results.proofs.Gain.{gain_count, gain_right}
use Rattle.results.specs.Results.{Result, record_at, with_result, Sound}
use Rattle.results.specs.Retain.{filled}
use Rattle.results.proofs.Retain.{retain_is, filled_x, gained}
use Rattle.results.specs.Best.{newest_at, newest_nothing}

-- ---- where no rank is higher, none falls

none_falls : (g : Geometry) (rank : ℕ) (m : List ℕ) (n : ℕ) → ((i : ℕ) → i < n → (slot_of m g i).rank ≤ rank) → stored m (in_turn (fall_stores g rank) n m) ≡ m
none_falls g rank m n h =
    in_turn_keeps (fall_stores g rank) m (λ i t. t ≡ m) n
    (λ i t l e. subst (λ (u : List ℕ). stored u (fall_stores g rank i u) ≡ m) (sym e) (rw (le-ltb rank (slot_of m g i).rank (h i l)))) refl

-- ---- in an empty slot

module _ (s : List ℕ) (g : Geometry) (f : Framed s g) (ok : slots_ok s g ≡ true) (x : ℕ) (e : empty_slot s g ≡ Some x) (r : Result) (w : Sound g r) where
  abbrev t : List ℕ
  t = filled s g x r

  inside : x < g.s
  inside = (empty_inside s g x e).0

  room : slot_at g x + 16 ≤ length s
  room = omega (arith, slot_room s g x f inside)

  its : Right g (slot_of t g)
  its = gain_right g (slot_of s g) (slot_of t g) x (right s g ok) (gained s g f ok x e r w)

  -- no rank is higher
  most : (j : ℕ) → j < g.s → (slot_of t g j).rank ≤ (slot_of t g x).rank
  most j l =
      let c = gained s g f ok x e r w in
      let n = gain_count g (slot_of s g) (slot_of t g) x (right s g ok) c in
      ⊎_elim (λ u. let v = its.used j l u in omega (arith, n, c.top, v.rank_high)) (λ u. omega (arith, ap (λ (z : Slot). z.rank) (its.empty j l u))) (either (is_used (slot_of t g j)))

  -- its drive and block find it
  asked : wanted r.drive r.block (slot_of t g x) ≡ true
  asked =
      let q = filled_x s g f ok x e r w in
      let u = used_is g (used_in g (slot_of s g) + 1) (slot_of t g x) (gained s g f ok x e r w).new in
      every_of _ (u, (eq-eqb _ _ (ap (λ (z : Slot). z.drive) q), (eq-eqb _ _ (ap (λ (z : Slot). z.block.0) q), tt)))

  newest_filled : newest_of t g r.drive r.block ≡ Some x
  newest_filled = pick (newest_of t g r.drive r.block) refl
    where
      pick : (o : Option ℕ) → newest_of t g r.drive r.block ≡ o → newest_of t g r.drive r.block ≡ Some x
      pick None q = absurd (true≢false (sym asked ∙ newest_nothing t g r.drive r.block (right_ok t g its) q x inside))
      pick (Some j) q =
          let n = newest_at t g r.drive r.block j q in
          let same_rank : (slot_of t g j).rank ≡ (slot_of t g x).rank = omega (arith, n.most x inside asked, most j n.inside) in
          q ∙ ap Some (its.apart j x n.inside inside (holds _ 0 n.asked) (holds _ 0 asked) same_rank)

  -- ---- and it goes

  abbrev zeroed : List ℕ
  zeroed = put t (slot_at g x) (replicate 16 0)

  zeroed_most : (j : ℕ) → j < g.s → (slot_of zeroed g j).rank ≤ (slot_of t g x).rank
  zeroed_most j l =
      ⊎_elim
      (λ q. omega (arith, ap (λ (z : Slot). z.rank) (ap (slot_of zeroed g) q ∙ slot_zeroed t g x (omega (arith, length_put s (slot_at g x) (bytes_of (record_at (used_count s g + 1) r) ++ r.bytes), room)))))
      (λ ne. omega (arith, most j l, ap (λ (z : Slot). z.rank) (slot_other t g x j (replicate 16 0) ne (omega arith))))
      (same j x)

  -- the record was all zero before
  zero_before : Octets s → part s (slot_at g x) 16 ≡ replicate 16 0
  unfolding slot_of bytes_of to_be
  zero_before o =
      sym (bytes_record (part s (slot_at g x) 16) (octets_part s (slot_at g x) 16 o) (length_part s (slot_at g x) 16 room))
      ∙ ap bytes_of ((right s g ok).empty x inside (empty_inside s g x e).1)

  zeroed_is : Octets s → zeroed ≡ put s (data_at g x) r.bytes
  zeroed_is o =
      let at = slot_at g x in
      let head = bytes_of (record_at (used_count s g + 1) r) in
      let zeros : List ℕ = replicate 16 0 in
      ap (λ (z : List ℕ). put z at zeros) (put_append s at head r.bytes ∙ ap (λ (k : ℕ). put (put s at head) (at + k) r.bytes) (length_bytes (record_at (used_count s g + 1) r)))
      ∙ sym (put_comm (put s at head) at zeros (at + 16) r.bytes (omega arith))
      ∙ ap (λ (z : List ℕ). put z (at + 16) r.bytes)
      (put_put s at head zeros (omega (arith, length_bytes (record_at (used_count s g + 1) r))) ∙ ap (put s at) (sym (zero_before o)) ∙ put_part s at 16)

  pub passing : Octets s → released (with_result s g r) g x ≡ put s (data_at g x) r.bytes
  unfolding released
  passing o =
      ap (λ (z : List ℕ). stored z (gone_stores g x z)) (retain_is s g x r e)
      ∙ none_falls g (slot_of t g x).rank zeroed g.s zeroed_most
      ∙ zeroed_is o

  pub newest_new : newest_of (with_result s g r) g r.drive r.block ≡ Some x
  newest_new = ap (λ (z : List ℕ). newest_of z g r.drive r.block) (retain_is s g x r e) ∙ newest_filled

-- Each change of an image leaves a valid one valid, with the same geometry.
use Rattle.std.specs.Prelude.{◌≡◌, true, List, ℕ, ◌*◌, ◌≤◌, ◌<◌, Some}
use Rattle.std.proofs.Common.{◌∙◌, inl, inr, le_refl, arith}
use Rattle.octets.specs.Put.{put, length_put}
use Rattle.geometry.specs.declared.Geometry.{Geometry}
use Rattle.geometry.specs.Header.{slot_size}
use Rattle.geometry.specs.Kept.{framed_alike}
use Rattle.geometry.specs.Outside.{outside_away}
use Rattle.drives.specs.Table.{marked}
use Rattle.drives.specs.Front.{front_put}
use Rattle.drives.specs.Marked.{length_marked, geometry_marked, part_marked, table_marked}
use Rattle.slots.specs.Record.{slot_of, is_used}
use Rattle.slots.specs.Find.{empty_slot}
use Rattle.slots.specs.Change.{released, dropped}
use Rattle.slots.specs.Kept.{slot_bytes, put_outside, kept_ok}
use Rattle.results.specs.Results.{Result, Sound, with_result}
use Rattle.results.proofs.Retain.{length_retained, retain_away, retain_ok}
use Rattle.results.proofs.Release.{length_released, release_part, release_ok}
use Rattle.results.proofs.Drop.{length_dropped, drop_part, drop_ok}
use Rattle.image.specs.Shelf.{Shelf, shelf_frame, shelf_kept}

module _ (s : List ℕ) (g : Geometry) (h : Shelf s g) where
  -- a result comes
  pub shelf_retained : (x : ℕ) → empty_slot s g ≡ Some x → (r : Result) → Sound g r → Shelf (with_result s g r) g
  shelf_retained x e r w =
      let f = shelf_frame s g h in
      shelf_kept s (with_result s g r) g h (length_retained s g r)
      (retain_away s g f h.slots_fine x e r w 0 g.slots (inl (omega arith))) (retain_ok s g f h.slots_fine x e r w)

  -- a result goes
  pub shelf_released : (x : ℕ) → x < g.s → is_used (slot_of s g x) ≡ true → Shelf (released s g x) g
  shelf_released x l u =
      let f = shelf_frame s g h in
      shelf_kept s (released s g x) g h (length_released s g x)
      (release_part s g x 0 g.slots l (outside_away g 0 g.slots f.placed (inl (omega arith)))) (release_ok s g f h.slots_fine x l u)

  -- all of a drive's go
  pub shelf_dropped : (drive : ℕ) → Shelf (dropped s g drive) g
  shelf_dropped drive =
      let f = shelf_frame s g h in
      shelf_kept s (dropped s g drive) g h (length_dropped s g drive)
      (drop_part s g drive 0 g.slots (outside_away g 0 g.slots f.placed (inl (omega arith)))) (drop_ok s g f h.slots_fine drive)

  -- blocks are written
  pub shelf_written : (at : ℕ) (ys : List ℕ) → g.media ≤ at → Shelf (put s at ys) g
  shelf_written at ys l =
      let p = (shelf_frame s g h).placed in
      shelf_kept s (put s at ys) g h (length_put s at ys) (front_put s g at ys (omega arith))
      (kept_ok s (put s at ys) g p (put_outside s g at ys p (inr l)) ∙ h.slots_fine)

  -- a drive is marked
  pub shelf_marked : (i state : ℕ) → i < g.d → state ≤ 1 → Shelf (marked s g i state) g
  shelf_marked i state l b =
      let f = shelf_frame s g h in
      let p = f.placed in
      let e : slot_bytes (marked s g i state) g ≡ slot_bytes s g = part_marked s g i state p l g.slots (g.s * slot_size g) (le_refl g.slots) in
      record {
        header = geometry_marked s g i state p ∙ h.header;
        framed_fine = framed_alike (marked s g i state) s (length_marked s g i state) (geometry_marked s g i state p) ∙ h.framed_fine;
        table_fine = table_marked s g i state f l b h.table_fine;
        slots_fine = kept_ok s (marked s g i state) g p e ∙ h.slots_fine;
      }

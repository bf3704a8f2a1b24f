-- In what order an XDWRITE stores does not show: where it is granted, its result stored first comes to what 01's data stored first comes to.
use Rattle.std.specs.Prelude.{ℕ, ◌+◌, ◌*◌, Bool, true, false, cond, List, ◌≡◌, refl}
use Rattle.std.proofs.Common.{arith, ⊎_elim, sym, ap, ◌∙◌}
use Rattle.octets.specs.Put.{put}
use Rattle.octets.specs.PutPut.{put_comm}
use Rattle.geometry.specs.declared.Geometry.{Geometry}
use Rattle.geometry.specs.Header.{slot_at, data_at}
use Rattle.geometry.specs.Places.{Range, places_apart}
use Rattle.slots.specs.Record.{bytes_of}
use Rattle.slots.specs.Slots.{used_count}
use Rattle.slots.specs.Change.{entry}
use Rattle.image.specs.Shelf.{Shelf, shelf_frame}
use Rattle.meaning.specs.declared.Span.{Span}
use Rattle.meaning.specs.declared.Act.TheVariants.{Couple, Retain}
use Rattle.meaning.specs.Acts.{span_at, result_of, passed_on, data_over, leaves}
use Rattle.meaning.specs.Allowed.{Allowed}
use Rattle.demands_one_two.specs.Effects.{written, blocks_first}
use Rattle.demands_one_two.specs.Fine.{fine}

module _ (m : List ℕ) (g : Geometry) (h : Shelf m g) (s : List ℕ) (room : ℕ) where
  pub retain_order : (x : Span) (i : ℕ) (mirror ndisc : Bool) → Allowed m g s room (Retain x i mirror ndisc)
      → leaves m g s (Retain x i mirror ndisc)
      ≡ put (put (cond ndisc m (put m (span_at g x) s)) (data_at g i) (result_of m g x mirror s)) (slot_at g i)
      (bytes_of (entry (used_count m g + 1) 1 x.drive x.block.0 x.count))
  retain_order x i mirror ndisc al =
      let f = shelf_frame m g h in
      let bytes = result_of m g x mirror s in
      blocks_first g f.placed m (data_over x ndisc s) i 1 x bytes (fine m g f s room (Retain x i mirror ndisc) al).possible
      ∙ ap (λ (t : List ℕ). put (put t (data_at g i) bytes) (slot_at g i) (bytes_of (entry (used_count m g + 1) 1 x.drive x.block.0 x.count))) (data_written ndisc)
    where
      data_written : (b : Bool) → written m g (data_over x b s) ≡ cond b m (put m (span_at g x) s)
      data_written true = refl
      data_written false = refl

  pub couple_order : (x y : Span) (mirror : Bool) → Allowed m g s room (Couple x y mirror)
      → leaves m g s (Couple x y mirror) ≡ put (put m (span_at g x) s) (span_at g y) (passed_on m g x y mirror s)
  couple_order x y mirror al =
      let c = (fine m g (shelf_frame m g h) s room (Couple x y mirror) al).covers in
      let same : x.count ≡ y.count = al.2 in
      let n : x.count * g.l ≡ y.count * g.l = ap (λ (k : ℕ). k * g.l) same in
      let r : Range g y.drive y.block.0 x.count = rw same al.1.range in
      ⊎_elim (λ l. sym (put_comm m (span_at g x) s (span_at g y) (passed_on m g x y mirror s) (omega (arith, c.1.0.exact))))
      (λ l. put_comm m (span_at g y) (passed_on m g x y mirror s) (span_at g x) s (omega (arith, c.0.exact)))
      (places_apart g x.drive y.drive x.block.0 y.block.0 x.count al.3 al.0.range r)

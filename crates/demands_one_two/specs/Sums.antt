-- What a row's sum becomes: the slots are no part of it, and blocks that are written move it by the old bytes XOR the new ones.
use Rattle.std.specs.Prelude.{ℕ, ◌*◌, ◌<◌, Bool, cond, List, [], ◌∷◌, ◌≡◌, refl}
use Rattle.std.proofs.Common.{arith, inl, inr, sym, ap, ap₂, ◌∙◌}
use Rattle.octets.specs.Put.{put}
use Rattle.octets.specs.Xor.{◌⊻◌, xor_nil, xor_regroups}
use Rattle.folds.specs.Each.{EachIs}
use Rattle.geometry.specs.declared.Geometry.{Geometry}
use Rattle.geometry.specs.Header.{place}
use Rattle.geometry.specs.Stores.{stored}
use Rattle.geometry.specs.Frame.{Placed}
use Rattle.geometry.specs.Outside.{outside_away}
use Rattle.geometry.specs.Places.{place_after_media}
use Rattle.geometry.specs.Written.{other_drive}
use Rattle.drives.specs.Table.{marked}
use Rattle.drives.specs.Front.{front_put}
use Rattle.drives.specs.Marked.{part_marked}
use Rattle.slots.specs.Change.{dropped}
use Rattle.results.proofs.Drop.{drop_part}
use Rattle.image.specs.Shelf.{Shelf, shelf_frame}
use Rattle.image.specs.Keeps.{shelf_written}
use Rattle.sums.specs.Row.{counts, row_sum}
use Rattle.sums.specs.Counts.{same_counts, marked_counts}
use Rattle.sums.specs.Share.{share}
use Rattle.sums.specs.Change.{sum_same, sum_put}
use Rattle.meaning.specs.Acts.{span_at, blocks_of, Over, Effect, stores_in}
use Rattle.meaning.specs.Lengths.{span_after_media}
use Rattle.demands_one_two.specs.Effects.{written, Covers, Distinct, Fine}
use Rattle.demands_one_two.specs.Beside.{off_slots, effect_media}

-- by which blocks written move row r's sum, where their drive counts
abbrev pub moved : List ℕ → Geometry → List Over → ℕ → List ℕ
moved m g [] r = []
moved m g (w ∷ ws) r = cond (counts m g w.blocks.drive) (share g w.blocks.block.0 (blocks_of m g w.blocks ⊻ w.bytes) r) [] ⊻ moved m g ws r

module _ (g : Geometry) (p : Placed g) (r : ℕ) (lr : r < g.b) where
  -- other drives' blocks are not seen
  moved_same : (m : List ℕ) (w : Over) → Covers g w → (ws : List Over) → EachIs (Covers g) ws → EachIs (λ v. w.blocks.drive ≡ v.blocks.drive → ⊥) ws
      → moved (put m (span_at g w.blocks) w.bytes) g ws r ≡ moved m g ws r
  moved_same m w c [] cs ds = refl
  moved_same m w c (v ∷ vs) (d, cs) (ne, ds) =
      let x = w.blocks in
      let y = v.blocks in
      let t = put m (span_at g x) w.bytes in
      ap (λ (b : Bool). cond b (share g y.block.0 (blocks_of t g y ⊻ v.bytes) r) [] ⊻ moved t g vs r)
      (same_counts t m g (front_put m g (span_at g x) w.bytes (omega (arith, span_after_media g x, p.slot_ends))) y.drive d.range.drive_in)
      ∙ ap₂ (λ (u z : List ℕ). cond (counts m g y.drive) (share g y.block.0 (u ⊻ v.bytes) r) [] ⊻ z)
      (other_drive m g x.drive y.drive x.block.0 y.block.0 x.count y.count (y.count * g.l) w.bytes (λ q. ne (sym q))
      c.range.range_in d.range.range_in (omega (arith, c.exact)) (omega arith))
      (moved_same m w c vs cs ds)

  written_sum : (m : List ℕ) → Shelf m g → (ws : List Over) → EachIs (Covers g) ws → Distinct ws → row_sum (written m g ws) g r ≡ row_sum m g r ⊻ moved m g ws r
  written_sum m h [] cs ds = sym (xor_nil (row_sum m g r))
  written_sum m h (w ∷ ws) (c, cs) (d, ds) =
      let x = w.blocks in
      let t = put m (span_at g x) w.bytes in
      written_sum t (shelf_written m g h (span_at g x) w.bytes (span_after_media g x)) ws cs ds
      ∙ ap₂ ◌⊻◌ (sum_put m g (shelf_frame m g h) x.drive x.block.0 x.count c.range w.bytes c.exact r lr) (moved_same m w c ws cs d)
      ∙ xor_regroups (row_sum m g r) (cond (counts m g x.drive) (share g x.block.0 (blocks_of m g x ⊻ w.bytes) r) []) (moved m g ws r)

pub effect_sum : (m : List ℕ) (g : Geometry) → Shelf m g → (room : ℕ) (e : Effect) → Fine m g room e → (r : ℕ) → r < g.b
    → row_sum (stored m (stores_in m g e)) g r ≡ row_sum m g r ⊻ moved m g e.writes r
effect_sum m g h room e f r l =
    let t = stored m (stores_in m g e) in
    let w = written m g e.writes in
    sum_same w t g r (same_counts t w g (effect_media m g h 0 g.slots room e f (off_slots g 0 g.slots e.change (inl (omega arith)))))
    (λ d k. effect_media m g h (place g d r) g.l room e f (off_slots g (place g d r) g.l e.change (inr (place_after_media g d r))))
    ∙ written_sum g (shelf_frame m g h).placed r l m h e.writes f.covers f.distinct

-- nor do a reset and a marking move it
module _ (m : List ℕ) (g : Geometry) (h : Shelf m g) (r : ℕ) where
  p : Placed g
  p = (shelf_frame m g h).placed

  pub dropped_sum : (drive : ℕ) → row_sum (dropped m g drive) g r ≡ row_sum m g r
  dropped_sum drive =
      let t = dropped m g drive in
      sum_same m t g r (same_counts t m g (drop_part m g drive 0 g.slots (outside_away g 0 g.slots p (inl (omega arith)))))
      (λ d k. drop_part m g drive (place g d r) g.l (outside_away g (place g d r) g.l p (inr (place_after_media g d r))))

  pub marked_sum : (i state : ℕ) → i < g.d → row_sum (marked m g i state) g r ≡ row_sum m g r
  marked_sum i state l =
      sum_same m (marked m g i state) g r (marked_counts m g i state)
      (λ d k. part_marked m g i state p l (place g d r) g.l (omega (arith, place_after_media g d r, p.slot_ends)))

-- Every act keeps a valid image valid, with the same geometry.
use Rattle.std.proofs.Common.{sym, subst, ◌∙◌}
use Rattle.std.specs.Prelude.{List, [], ◌∷◌, ℕ}
use Rattle.octets.specs.Put.{put}
use Rattle.folds.specs.Every.{holds}
use Rattle.geometry.specs.declared.Geometry.{Geometry}
use Rattle.geometry.specs.Stores.{stored}
use Rattle.slots.specs.Kept.{kept_empty}
use Rattle.results.specs.Best.{newest_at}
use Rattle.image.specs.Shelf.{Shelf, shelf_frame}
use Rattle.image.specs.Keeps.{shelf_retained, shelf_released, shelf_written}
use Rattle.meaning.specs.declared.Act.{Act}
use Rattle.meaning.specs.Acts.{span_at, Over, Change, Stays, Comes, Goes, Effect, stores_in, effect_of, leaves}
use Rattle.meaning.specs.Allowed.{Allowed}
use Rattle.meaning.specs.Lengths.{span_after_media}
use Rattle.demands_one_two.specs.Effects.{result_in, written, changed, Possible, Fine, written_slots, in_form}
use Rattle.demands_one_two.specs.Fine.{fine}

module _ (g : Geometry) where
  pub written_shelf : (m : List ℕ) → Shelf m g → (ws : List Over) → Shelf (written m g ws) g
  written_shelf m h [] = h
  written_shelf m h (w ∷ ws) =
      let at = span_at g w.blocks in
      written_shelf (put m at w.bytes) (shelf_written m g h at w.bytes (span_after_media g w.blocks)) ws

module _ (m : List ℕ) (g : Geometry) (h : Shelf m g) where
  changed_shelf : (ws : List Over) (c : Change) → Possible m g ws c → Shelf (changed (written m g ws) g c) g
  changed_shelf ws Stays p = written_shelf g m h ws
  changed_shelf ws (Comes i kind x bytes) (e, sound) =
      let frame = shelf_frame m g h in
      shelf_retained (written m g ws) g (written_shelf g m h ws) i (kept_empty m (written m g ws) g frame.placed (written_slots g frame.placed m ws) ∙ e)
      (result_in kind x bytes) sound
  changed_shelf ws (Goes i x) (e, q) =
      let w = newest_at m g x.drive x.block.0 i e in
      subst (λ (vs : List Over). Shelf (changed (written m g vs) g (Goes i x)) g) (sym q) (shelf_released m g h i w.inside (holds _ 0 w.asked))

  pub effect_shelf : (room : ℕ) (e : Effect) → Fine m g room e → Shelf (stored m (stores_in m g e)) g
  effect_shelf room e f = subst (λ (t : List ℕ). Shelf t g) (sym (in_form g (shelf_frame m g h).placed m room e f)) (changed_shelf e.writes e.change f.possible)

  pub leaves_shelf : (s : List ℕ) (room : ℕ) (act : Act) → Allowed m g s room act → Shelf (leaves m g s act) g
  leaves_shelf s room act a = effect_shelf room (effect_of m g s act) (fine m g (shelf_frame m g h) s room act a)

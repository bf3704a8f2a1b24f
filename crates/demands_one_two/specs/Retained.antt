-- What each act does to the retained results by age; and XDREAD's answer is the newest at its drive and block.
use Rattle.std.specs.Prelude.{◌≡◌, List, ◌∷◌, ℕ, ◌*◌, ◌<◌, Some}
use Rattle.std.proofs.Common.{sym, subst, ◌∙◌, le_refl}
use Rattle.std.proofs.Math.Path.{ap}
use Rattle.octets.specs.Part.{part}
use Rattle.geometry.specs.declared.Geometry.{Geometry}
use Rattle.geometry.specs.Header.{data_at, slot_size}
use Rattle.drives.specs.Table.{marked}
use Rattle.drives.specs.Marked.{part_marked}
use Rattle.geometry.specs.Stores.{stored}
use Rattle.slots.specs.Kept.{kept_empty}
use Rattle.results.specs.First.{first_of, sans_first}
use Rattle.results.specs.Results.{Result, results, result_at}
use Rattle.results.proofs.Retain.{retain_results}
use Rattle.results.proofs.Kept.{kept_results}
use Rattle.results.specs.Newest.{answers}
use Rattle.results.proofs.Newest.{newest_result, newest_goes}
use Rattle.image.specs.Shelf.{Shelf, shelf_frame}
use Rattle.meaning.specs.declared.Span.{Span}
use Rattle.meaning.specs.declared.Act.{Act}
use Rattle.meaning.specs.declared.Act.TheVariants.{XdRead}
use Rattle.meaning.specs.Acts.{Over, Change, Stays, Comes, Goes, Effect, stores_in, effect_of, leaves, hands}
use Rattle.meaning.specs.Allowed.{Allowed}
use Rattle.demands_one_two.specs.Effects.{result_in, written, changed, Possible, Fine, written_slots, in_form}
use Rattle.demands_one_two.specs.Fine.{fine}
use Rattle.demands_one_two.specs.Valid.{written_shelf}

-- the results after a change of them
abbrev pub afterwards : Change → List Result → List Result
afterwards Stays rs = rs
afterwards (Comes i kind x bytes) rs = result_in kind x bytes ∷ rs
afterwards (Goes i x) rs = sans_first (answers x.drive x.block.0) rs

module _ (m : List ℕ) (g : Geometry) (h : Shelf m g) where
  -- blocks written leave them
  pub written_results : (ws : List Over) → results (written m g ws) g ≡ results m g
  written_results ws =
      let p = (shelf_frame m g h).placed in
      kept_results m (written m g ws) g p (written_slots g p m ws) h.slots_fine

  changed_results : (ws : List Over) (c : Change) → Possible m g ws c → results (changed (written m g ws) g c) g ≡ afterwards c (results m g)
  changed_results ws Stays p = written_results ws
  changed_results ws (Comes i kind x bytes) (e, sound) =
      let t = written m g ws in
      let ht = written_shelf g m h ws in
      let p = (shelf_frame m g h).placed in
      let z = result_in kind x bytes in
      retain_results t g (shelf_frame t g ht) ht.slots_fine i (kept_empty m t g p (written_slots g p m ws) ∙ e) z sound ∙ ap (λ (l : List Result). z ∷ l) (written_results ws)
  changed_results ws (Goes i x) (e, q) =
      subst (λ (vs : List Over). results (changed (written m g vs) g (Goes i x)) g ≡ afterwards (Goes i x) (results m g)) (sym q)
      (newest_goes m g h.slots_fine x.drive x.block.0 (shelf_frame m g h) i e)

  pub effect_results : (room : ℕ) (e : Effect) → Fine m g room e → results (stored m (stores_in m g e)) g ≡ afterwards e.change (results m g)
  effect_results room e f =
      ap (λ (t : List ℕ). results t g) (in_form g (shelf_frame m g h).placed m room e f) ∙ changed_results e.writes e.change f.possible

  pub results_after : (s : List ℕ) (room : ℕ) (act : Act) → Allowed m g s room act → results (leaves m g s act) g ≡ afterwards (effect_of m g s act).change (results m g)
  results_after s room act a = effect_results room (effect_of m g s act) (fine m g (shelf_frame m g h) s room act a)

  -- and so does a marking
  pub marked_results : (i state : ℕ) → i < g.d → results (marked m g i state) g ≡ results m g
  marked_results i state l =
      let p = (shelf_frame m g h).placed in
      kept_results m (marked m g i state) g p (part_marked m g i state p l g.slots (g.s * slot_size g) (le_refl g.slots)) h.slots_fine

  -- XDREAD hands out the newest result at its drive and block, whole
  pub newest_handed : (s : List ℕ) (room : ℕ) (x : Span) (i : ℕ) → Allowed m g s room (XdRead x i)
      → (first_of (answers x.drive x.block.0) (results m g) ≡ Some (result_at m g i)) × (hands m g s (XdRead x i) ≡ (result_at m g i).bytes)
  unfolding result_at
  newest_handed s room x i a =
      (newest_result m g h.slots_fine x.drive x.block.0 i a.0.answers, ap (λ (k : ℕ). part m (data_at g i) (k * g.l)) (sym a.0.same_len))

-- "In every GOOD answer only the named blocks of the media involved are written, besides the slots."
use Rattle.std.specs.Prelude.{◌≡◌, refl, ◌⊎◌, List, [], ◌∷◌, ℕ, ◌+◌, ◌*◌, ◌≤◌}
use Rattle.std.proofs.Common.{ap, ◌∙◌, inl, inr, ⊎_elim, arith}
use Rattle.octets.specs.Part.{part}
use Rattle.octets.specs.Put.{put}
use Rattle.octets.specs.PutPut.{part_put_apart}
use Rattle.folds.specs.Each.{EachIs}
use Rattle.geometry.specs.declared.Geometry.{Geometry}
use Rattle.geometry.specs.Frame.{Placed}
use Rattle.geometry.specs.Stores.{stored}
use Rattle.geometry.specs.Outside.{Away, outside_away}
use Rattle.slots.specs.Kept.{kept_empty}
use Rattle.results.specs.Best.{newest_at}
use Rattle.results.proofs.Release.{release_part}
use Rattle.results.proofs.Retain.{retain_away}
use Rattle.image.specs.Shelf.{Shelf, shelf_frame}
use Rattle.meaning.specs.declared.Span.{Span}
use Rattle.meaning.specs.declared.Act.{Act}
use Rattle.meaning.specs.Acts.{span_at, Over, Change, Stays, Comes, Goes, Effect, stores_in, effect_of, leaves}
use Rattle.meaning.specs.Allowed.{Allowed}
use Rattle.meaning.specs.Lengths.{span_after_media}
use Rattle.demands_one_two.specs.Effects.{result_in, written, changed, Covers, Possible, Fine, written_slots, in_form}
use Rattle.demands_one_two.specs.Fine.{fine}
use Rattle.demands_one_two.specs.Valid.{written_shelf}

-- n bytes from index a on lie apart from a span's blocks
abbrev pub OffSpan : Geometry → ℕ → ℕ → Span → Type 0
OffSpan g a n x = (a + n ≤ span_at g x) ⊎ (span_at g x + x.count * g.l ≤ a)

-- and from the slots, where a result comes or goes
abbrev pub OffSlots : Geometry → ℕ → ℕ → Change → Type 0
OffSlots g a n Stays = Unit {0}
OffSlots g a n (Comes i kind x bytes) = Away g a n
OffSlots g a n (Goes i x) = Away g a n

pub off_slots : (g : Geometry) (a n : ℕ) (c : Change) → Away g a n → OffSlots g a n c
off_slots g a n Stays w = tt
off_slots g a n (Comes i kind x bytes) w = w
off_slots g a n (Goes i x) w = w

-- apart from all that an act writes
abbrev pub Beside : Geometry → ℕ → ℕ → Effect → Type 0
Beside g a n e = EachIs (λ w. OffSpan g a n w.blocks) e.writes × OffSlots g a n e.change

-- no act writes before the slots
module _ (g : Geometry) (p : Placed g) where
  pub front_beside : (e : Effect) → Beside g 0 g.slots e
  front_beside e = (before e.writes, off_slots g 0 g.slots e.change (inl (omega arith)))
    where
      before : (ws : List Over) → EachIs (λ w. OffSpan g 0 g.slots w.blocks) ws
      before [] = tt
      before (w ∷ ws) = (inl (omega (arith, span_after_media g w.blocks, p.slot_ends)), before ws)

module _ (g : Geometry) (a n : ℕ) where
  pub written_beside : (m : List ℕ) (ws : List Over) → EachIs (Covers g) ws → EachIs (λ w. OffSpan g a n w.blocks) ws → part (written m g ws) a n ≡ part m a n
  written_beside m [] c o = refl
  written_beside m (w ∷ ws) (c, cs) (o, os) =
      let at = span_at g w.blocks in
      written_beside (put m at w.bytes) ws cs os ∙ part_put_apart m at w.bytes a n (⊎_elim (λ l. inl l) (λ l. inr (omega (arith, c.exact))) o)

module _ (m : List ℕ) (g : Geometry) (h : Shelf m g) (a n : ℕ) where
  -- a result that comes or goes changes slots alone
  changed_beside : (ws : List Over) (c : Change) → Possible m g ws c → OffSlots g a n c → part (changed (written m g ws) g c) a n ≡ part (written m g ws) a n
  changed_beside ws Stays p o = refl
  changed_beside ws (Comes i kind x bytes) (e, sound) o =
      let t = written m g ws in
      let ht = written_shelf g m h ws in
      let p = (shelf_frame m g h).placed in
      retain_away t g (shelf_frame t g ht) ht.slots_fine i (kept_empty m t g p (written_slots g p m ws) ∙ e) (result_in kind x bytes) sound a n o
  changed_beside ws (Goes i x) (e, q) o =
      let p = (shelf_frame m g h).placed in
      release_part (written m g ws) g i a n (newest_at m g x.drive x.block.0 i e).inside (outside_away g a n p o)

  -- so away from the slots an effect is the blocks written
  pub effect_media : (room : ℕ) (e : Effect) → Fine m g room e → OffSlots g a n e.change → part (stored m (stores_in m g e)) a n ≡ part (written m g e.writes) a n
  effect_media room e f o = ap (λ (t : List ℕ). part t a n) (in_form g (shelf_frame m g h).placed m room e f) ∙ changed_beside e.writes e.change f.possible o

  pub effect_beside : (room : ℕ) (e : Effect) → Fine m g room e → Beside g a n e → part (stored m (stores_in m g e)) a n ≡ part m a n
  effect_beside room e f o = effect_media room e f o.1 ∙ written_beside g a n m e.writes f.covers o.0

  pub leaves_beside : (s : List ℕ) (room : ℕ) (act : Act) → Allowed m g s room act → Beside g a n (effect_of m g s act) → part (leaves m g s act) a n ≡ part m a n
  leaves_beside s room act al = effect_beside room (effect_of m g s act) (fine m g (shelf_frame m g h) s room act al)

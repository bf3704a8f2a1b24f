-- What an act comes to, in one form: blocks written, and then a result that comes, one that goes, or neither. What is known of every act
-- is known of this form.
use Rattle.std.specs.Prelude.{◌≡◌, refl, ℕ, ◌+◌, ◌*◌, ◌≤◌, ◌<◌, length, Some}
use Rattle.std.proofs.Common.{sym, ap, subst, ◌∙◌, inr, arith}
use mathlib.Core.List.{List, [], ◌∷◌, ◌++◌, map, append-nil}
use Rattle.octets.specs.Put.{put}
use Rattle.octets.specs.PutPut.{put_comm}
use Rattle.folds.specs.Each.{EachIs}
use Rattle.geometry.specs.declared.Geometry.{Geometry}
use Rattle.geometry.specs.Header.{slot_at, data_at}
use Rattle.geometry.specs.Stores.{stored, stored_append}
use Rattle.geometry.specs.Frame.{Placed}
use Rattle.geometry.specs.Places.{Range, slot_before_media, data_ends}
use Rattle.slots.specs.Slots.{used_count}
use Rattle.slots.specs.Find.{empty_slot, newest_of}
use Rattle.slots.specs.Facts.{empty_inside}
use Rattle.slots.specs.Change.{gone_stores, released}
use Rattle.slots.specs.Turns.{retained_at}
use Rattle.slots.specs.Kept.{slot_bytes, put_outside, kept_count, kept_empty}
use Rattle.results.specs.Results.{Result, with_result, Sound}
use Rattle.meaning.specs.declared.Span.{Span}
use Rattle.meaning.specs.Acts.{span_at, Over, Change, Stays, Comes, Goes, Effect, data_stores, block_store, record_stores, stores_in}
use Rattle.meaning.specs.Lengths.{span_after_media}

-- the result of a kind that an act on a span comes to
abbrev pub result_in : ℕ → Span → List ℕ → Result
result_in kind x bytes = record { kind = kind; drive = x.drive; block = x.block.0; len = x.count; bytes = bytes }

-- blocks written, in order
abbrev pub written : List ℕ → Geometry → List Over → List ℕ
written m g ws = stored m (map (block_store g) ws)

-- and the change of results made
abbrev pub changed : List ℕ → Geometry → Change → List ℕ
changed m g Stays = m
changed m g (Comes i kind x bytes) = with_result m g (result_in kind x bytes)
changed m g (Goes i x) = released m g i

-- ---- what an effect needs

-- bytes as long as the blocks that they are written over
pub record Covers (g : Geometry) (w : Over) : Type 0 where
  pub range : Range g w.blocks.drive w.blocks.block.0 w.blocks.count
  pub exact : length w.bytes ≡ w.blocks.count * g.l

-- the slot that takes a result is the lowest empty one; the one that goes is the newest at its drive and block, and no block is written then
abbrev pub Possible : List ℕ → Geometry → List Over → Change → Type 0
Possible m g ws Stays = Unit {0}
Possible m g ws (Comes i kind x bytes) = (empty_slot m g ≡ Some i) × Sound g (result_in kind x bytes)
Possible m g ws (Goes i x) = (newest_of m g x.drive x.block.0 ≡ Some i) × (ws ≡ [])

-- no drive is written twice
abbrev pub Distinct : List Over → Type 0
Distinct [] = Unit {0}
Distinct (w ∷ ws) = EachIs (λ v. w.blocks.drive ≡ v.blocks.drive → ⊥) ws × Distinct ws

-- and what is handed over fits the room, and 32 bits
pub record Fine (m : List ℕ) (g : Geometry) (room : ℕ) (e : Effect) : Type 0 where
  pub covers : EachIs (Covers g) e.writes
  pub distinct : Distinct e.writes
  pub possible : Possible m g e.writes e.change
  pub fits : length e.hands ≤ room
  pub small : length e.hands < 4294967296

-- ---- the stores come to that

module _ (g : Geometry) (p : Placed g) where
  -- no slot sees blocks that are written
  pub written_slots : (m : List ℕ) (ws : List Over) → slot_bytes (written m g ws) g ≡ slot_bytes m g
  written_slots m [] = refl
  written_slots m (w ∷ ws) =
      let at = span_at g w.blocks in
      written_slots (put m at w.bytes) ws ∙ put_outside m g at w.bytes p (inr (span_after_media g w.blocks))

  -- bytes before the media change places with them
  before_written : (at : ℕ) (ys : List ℕ) → at + length ys ≤ g.media → (m : List ℕ) (ws : List Over) → written (put m at ys) g ws ≡ put (written m g ws) at ys
  before_written at ys l m [] = refl
  before_written at ys l m (w ∷ ws) =
      let b = span_at g w.blocks in
      ap (λ (t : List ℕ). written t g ws) (put_comm m at ys b w.bytes (omega (arith, span_after_media g w.blocks))) ∙ before_written at ys l (put m b w.bytes) ws

  -- a result's data, the blocks, and then its record, as if the blocks came first
  pub blocks_first : (m : List ℕ) (ws : List Over) (i kind : ℕ) (x : Span) (bytes : List ℕ) → Possible m g ws (Comes i kind x bytes)
      → stored m (data_stores g (Comes i kind x bytes) ++ map (block_store g) ws ++ record_stores m g (Comes i kind x bytes))
      ≡ stored (put (written m g ws) (data_at g i) bytes) (record_stores m g (Comes i kind x bytes))
  blocks_first m ws i kind x bytes (e, sound) =
      let room : data_at g i + length bytes ≤ g.media =
      omega (arith, slot_before_media g i p (empty_inside m g i e).0, data_ends g i x.count sound.fits.len_high, sound.exact) in
      stored_append (put m (data_at g i) bytes) (map (block_store g) ws) (record_stores m g (Comes i kind x bytes))
      ∙ ap (λ (u : List ℕ). stored u (record_stores m g (Comes i kind x bytes))) (before_written (data_at g i) bytes room m ws)

  -- is a result that comes after the blocks are written
  written_result : (m : List ℕ) (ws : List Over) (i kind : ℕ) (x : Span) (bytes : List ℕ) → Possible m g ws (Comes i kind x bytes)
      → stored (put (written m g ws) (data_at g i) bytes) (record_stores m g (Comes i kind x bytes)) ≡ with_result (written m g ws) g (result_in kind x bytes)
  written_result m ws i kind x bytes (e, sound) =
      let t = written m g ws in
      let k = written_slots m ws in
      retained_at t g kind x.drive x.block.0 x.count bytes i (slot_at g i) (used_count m g + 1) _ _
      (kept_empty m t g p k ∙ e) refl (ap (λ (n : ℕ). n + 1) (sym (kept_count m t g p k))) refl refl

  pub in_form : (m : List ℕ) (room : ℕ) (e : Effect) → Fine m g room e → stored m (stores_in m g e) ≡ changed (written m g e.writes) g e.change
  unfolding released
  in_form m room e f = pick e.change f.possible
    where
      ws : List Over
      ws = e.writes

      pick : (c : Change) → Possible m g ws c → stored m (data_stores g c ++ map (block_store g) ws ++ record_stores m g c) ≡ changed (written m g ws) g c
      pick Stays h = ap (stored m) (append-nil (map (block_store g) ws))
      pick (Comes i kind x bytes) h = blocks_first m ws i kind x bytes h ∙ written_result m ws i kind x bytes h
      pick (Goes i x) h = subst (λ (vs : List Over). stored m (map (block_store g) vs ++ gone_stores g i m) ≡ released (written m g vs) g i) (sym h.1) refl

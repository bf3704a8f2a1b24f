-- How the searches and changes go on from slot to slot, as the code does.
use Rattle.std.specs.Prelude.{◌≡◌, List, [], ◌∷◌, Bool, true, false, ◌&&◌, ℕ, ◌+◌, ◌-◌, ◌≤◌, ◌<◌, length, replicate, ltb, eqb, Option, Some, None}
use Rattle.std.specs.Option.{option_map}
use Rattle.std.proofs.Math.Path.{refl, ap}
use Rattle.std.proofs.Common.{sym, ap₂, ◌∙◌, add-one, lt-ltb, le-ltb}
use native.Mathlib.Omega.{arith}
use Rattle.octets.specs.Put.{put}
use Rattle.octets.specs.PutPut.{put_comm, put_append}
use Rattle.octets.specs.Number.{be, to_be}
use Rattle.folds.specs.Every.{every, every_joined}
use Rattle.geometry.specs.declared.Geometry.{Geometry}
use Rattle.geometry.specs.Header.{slot_at}
use Rattle.geometry.specs.Stores.{in_turn_lem}
use Rattle.slots.specs.declared.Slot.{Slot}
use Rattle.slots.specs.declared.Best.{Best}
use Rattle.slots.specs.Record.{slot_of, bytes_of, is_used}
use Rattle.slots.specs.RecordLaws.{length_bytes, rank_at}
use Rattle.slots.specs.Slots.{used_count}
use Rattle.slots.specs.Find.{empty_slot, wanted, top_of, better, best_of, newest_of}
use Rattle.slots.specs.Change.{entry, retained, fall_stores, drop_stores, lower_one, lowered, released, drop_one, dropped_to, dropped}

-- ---- the newest

module _ (drive block : ℕ) (best : Option Best) (i : ℕ) (r : Slot) where
  -- the four tests, joined, say whether slot i is better
  test_better : (is_used r && eqb r.drive drive && eqb r.block.0 block && ltb (top_of best) r.rank) ≡ every (wanted drive block r ∷ ltb (top_of best) r.rank ∷ [])
  test_better =
      ap (λ (t : Bool). t && ltb (top_of best) r.rank) (every_joined (is_used r) (eqb r.drive drive ∷ eqb r.block.0 block ∷ []))
      ∙ every_joined (wanted drive block r) (ltb (top_of best) r.rank ∷ [])

  pub better_not : (is_used r && eqb r.drive drive && eqb r.block.0 block && ltb (top_of best) r.rank) ≡ false → best ≡ better drive block best i r
  unfolding better
  better_not e = rw (sym test_better ∙ e)

  pub better_newer : (is_used r && eqb r.drive drive && eqb r.block.0 block && ltb (top_of best) r.rank) ≡ true
      → Some (record { slot = i; rank = r.rank }) ≡ better drive block best i r
  unfolding better
  better_newer e = rw (sym test_better ∙ e)

module _ (s : List ℕ) (g : Geometry) (drive block : ℕ) where
  pub best_none : None ≡ best_of s g drive block 0
  unfolding best_of
  best_none = refl

  pub best_more : (n : ℕ) (b : Option Best) (r : Slot) → b ≡ best_of s g drive block n → r ≡ slot_of s g n → better drive block b n r ≡ best_of s g drive block (n + 1)
  unfolding best_of
  best_more n b r e q = rw (add-one n) (ap₂ (λ (x : Option Best) (y : Slot). better drive block x n y) e q)

  pub best_done : (i : ℕ) (b : Option Best) → b ≡ best_of s g drive block i → i ≤ g.s → g.s ≤ i → option_map (λ (x : Best). x.slot) b ≡ newest_of s g drive block
  unfolding newest_of
  best_done i b e h l =
      let q : i ≡ g.s = omega arith in ap (option_map (λ (x : Best). x.slot)) (e ∙ ap (best_of s g drive block) q)

-- ---- a new result

-- the bytes first, then the record
pub retained_at : (s : List ℕ) (g : Geometry) (kind drive block n : ℕ) (bytes : List ℕ) (i at rank : ℕ) (s₁ s₂ : List ℕ) → empty_slot s g ≡ Some i → at ≡ slot_at g i → rank ≡ used_count s g + 1
    → s₁ ≡ put s (at + 16) bytes → s₂ ≡ put s₁ at (bytes_of (entry rank kind drive block n)) → s₂ ≡ retained s g kind drive block n bytes
unfolding retained
retained_at s g kind drive block n bytes i at rank s₁ s₂ e a k p q =
    let r = bytes_of (entry rank kind drive block n) in
    let l : length r ≡ 16 = length_bytes (entry rank kind drive block n) in
    q
    ∙ ap (λ (x : List ℕ). put x at r) p
    ∙ sym (put_comm s at r (at + 16) bytes (omega arith))
    ∙ ap (λ (m : ℕ). put (put s at r) (at + m) bytes) (sym l)
    ∙ sym (put_append s at r bytes)
    ∙ rw (e, a, k)

-- ---- a result goes

pub lower_hit : (g : Geometry) (rank i : ℕ) (s : List ℕ) (at old : ℕ) → at ≡ slot_at g i → old ≡ be 4 s at → rank < old → put s at (to_be 4 (old - 1)) ≡ lower_one g rank i s
unfolding lower_one
lower_hit g rank i s at old a e l = rw (sym (rank_at s g i at old a e), lt-ltb _ _ l, a)

pub lower_miss : (g : Geometry) (rank i : ℕ) (s : List ℕ) (at old : ℕ) → at ≡ slot_at g i → old ≡ be 4 s at → old ≤ rank → s ≡ lower_one g rank i s
unfolding lower_one
lower_miss g rank i s at old a e l = rw (sym (rank_at s g i at old a e), le-ltb _ _ l)

pub lowered_none : (g : Geometry) (rank : ℕ) (s : List ℕ) → s ≡ lowered g rank 0 s
unfolding lowered
lowered_none g rank s = refl

pub lowered_more : (g : Geometry) (rank n : ℕ) (s s₀ : List ℕ) → s ≡ lowered g rank n s₀ → lower_one g rank n s ≡ lowered g rank (n + 1) s₀
unfolding lowered lower_one
lowered_more g rank n s s₀ e = rw (add-one n) (ap (lower_one g rank n) e ∙ sym (in_turn_lem (fall_stores g rank) s₀ n))

pub lowered_done : (g : Geometry) (rank i : ℕ) (s s₀ : List ℕ) → s ≡ lowered g rank i s₀ → i ≤ g.s → g.s ≤ i → s ≡ lowered g rank g.s s₀
lowered_done g rank i s s₀ e h l = let q : i ≡ g.s = omega arith in e ∙ ap (λ (k : ℕ). lowered g rank k s₀) q

pub released_by : (s : List ℕ) (g : Geometry) (i at rank : ℕ) (s₁ s₂ : List ℕ) → at ≡ slot_at g i → rank ≡ be 4 s at → s₁ ≡ put s at (replicate 16 0)
    → s₂ ≡ lowered g rank g.s s₁ → s₂ ≡ released s g i
unfolding released lowered
released_by s g i at rank s₁ s₂ a k p q = q ∙ rw (p, rank_at s g i at rank a k, a)

-- ---- all of a drive's go

pub drop_hit : (g : Geometry) (drive i : ℕ) (s : List ℕ) (r : Slot) → r ≡ slot_of s g i → (is_used r && eqb r.drive drive) ≡ true → released s g i ≡ drop_one g drive i s
unfolding drop_one released
drop_hit g drive i s r e t = rw (sym e, sym (every_joined (is_used r) (eqb r.drive drive ∷ [])) ∙ t)

pub drop_miss : (g : Geometry) (drive i : ℕ) (s : List ℕ) (r : Slot) → r ≡ slot_of s g i → (is_used r && eqb r.drive drive) ≡ false → s ≡ drop_one g drive i s
unfolding drop_one
drop_miss g drive i s r e t = rw (sym e, sym (every_joined (is_used r) (eqb r.drive drive ∷ [])) ∙ t)

pub dropped_none : (g : Geometry) (drive : ℕ) (s : List ℕ) → s ≡ dropped_to g drive 0 s
unfolding dropped_to
dropped_none g drive s = refl

pub dropped_more : (g : Geometry) (drive n : ℕ) (s s₀ : List ℕ) → s ≡ dropped_to g drive n s₀ → drop_one g drive n s ≡ dropped_to g drive (n + 1) s₀
unfolding dropped_to drop_one
dropped_more g drive n s s₀ e = rw (add-one n) (ap (drop_one g drive n) e ∙ sym (in_turn_lem (drop_stores g drive) s₀ n))

pub dropped_done : (g : Geometry) (drive i : ℕ) (s s₀ : List ℕ) → s ≡ dropped_to g drive i s₀ → i ≤ g.s → g.s ≤ i → s ≡ dropped s₀ g drive
unfolding dropped
dropped_done g drive i s s₀ e h l = let q : i ≡ g.s = omega arith in e ∙ ap (λ (k : ℕ). dropped_to g drive k s₀) q

-- A result comes, goes, and all of a drive's go (01, "The image" and "Commands").
use Rattle.std.specs.Prelude.{ℕ, ◌+◌, ◌-◌, List, [], ◌∷◌, ◌++◌, Bool, cond, ltb, eqb, replicate, Option, Some, None}
use Rattle.octets.specs.Put.{put}
use Rattle.octets.specs.Number.{to_be}
use Rattle.folds.specs.Every.{every}
use Rattle.geometry.specs.declared.Geometry.{Geometry}
use Rattle.geometry.specs.Header.{slot_at}
use Rattle.geometry.specs.Stores.{Store, store, Slots, stored, and_then, in_turn}
use Rattle.slots.specs.declared.Slot.{Slot}
use Rattle.slots.specs.Record.{slot_of, bytes_of, is_used}
use Rattle.slots.specs.Slots.{used_count}
use Rattle.slots.specs.Find.{empty_slot}

-- a result's record: n blocks of the drive from the block on, of a kind, at a rank
abbrev pub entry : ℕ → ℕ → ℕ → ℕ → ℕ → Slot
entry rank kind drive block n = record { rank = rank; kind = kind; drive = drive; len = n; block = record { 0 = block }; last = 0 }

-- "its bytes fill the front of the slot, the rest stays"; where no slot is empty nothing is retained
abbrev pub entered : Option ℕ → List ℕ → Geometry → Slot → List ℕ → List ℕ
entered (Some i) m g e bytes = put m (slot_at g i) (bytes_of e ++ bytes)
entered None m g e bytes = m

-- "A new result takes the lowest-numbered empty slot and rank k+1"
unfoldable pub retained : List ℕ → Geometry → ℕ → ℕ → ℕ → ℕ → List ℕ → List ℕ
retained m g kind drive block n bytes = entered (empty_slot m g) m g (entry (used_count m g + 1) kind drive block n) bytes

-- "higher ranks fall by one": slot i's, where it is above the rank
abbrev pub fall_stores : Geometry → ℕ → ℕ → List ℕ → List Store
fall_stores g rank i m = cond (ltb rank (slot_of m g i).rank) (store Slots (slot_at g i) (to_be 4 ((slot_of m g i).rank - 1)) ∷ []) []

-- "When a result goes, its record is zeroed, its data left, and higher ranks fall by one."
abbrev pub gone_stores : Geometry → ℕ → List ℕ → List Store
gone_stores g i m = and_then (in_turn (fall_stores g (slot_of m g i).rank) g.s) m (store Slots (slot_at g i) (replicate 16 0) ∷ [])

-- "Hard reset drops all results of its drive": slot i's
abbrev pub of_drive : ℕ → Slot → Bool
of_drive drive e = every (is_used e ∷ eqb e.drive drive ∷ [])

abbrev pub drop_stores : Geometry → ℕ → ℕ → List ℕ → List Store
drop_stores g drive i m = cond (of_drive drive (slot_of m g i)) (gone_stores g i m) []

-- ---- what they leave: in slot i, and in the first n slots

unfoldable pub lower_one : Geometry → ℕ → ℕ → List ℕ → List ℕ
lower_one g rank i m = stored m (fall_stores g rank i m)

unfoldable pub lowered : Geometry → ℕ → ℕ → List ℕ → List ℕ
lowered g rank n m = stored m (in_turn (fall_stores g rank) n m)

unfoldable pub released : List ℕ → Geometry → ℕ → List ℕ
released m g i = stored m (gone_stores g i m)

unfoldable pub drop_one : Geometry → ℕ → ℕ → List ℕ → List ℕ
drop_one g drive i m = stored m (drop_stores g drive i m)

unfoldable pub dropped_to : Geometry → ℕ → ℕ → List ℕ → List ℕ
dropped_to g drive n m = stored m (in_turn (drop_stores g drive) n m)

unfoldable pub dropped : List ℕ → Geometry → ℕ → List ℕ
dropped m g drive = dropped_to g drive g.s m

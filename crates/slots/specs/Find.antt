-- The slot that takes a result, and the slot that answers.
use Rattle.std.specs.Prelude.{ℕ, zero, suc, List, [], ◌∷◌, Bool, not, cond, ltb, eqb, Option, Some, None}
use Rattle.std.specs.Option.{option_map}
use Rattle.folds.specs.Every.{every}
use Rattle.folds.specs.Least.{least_below}
use Rattle.geometry.specs.declared.Geometry.{Geometry}
use Rattle.slots.specs.declared.Slot.{Slot}
use Rattle.slots.specs.declared.Best.{Best}
use Rattle.slots.specs.Record.{slot_of, is_used}

-- "A new result takes the lowest-numbered empty slot"
unfoldable pub empty_slot : List ℕ → Geometry → Option ℕ
empty_slot m g = least_below g.s (λ i. not (is_used (slot_of m g i)))

-- a result "retained on that drive with that block number"
abbrev pub wanted : ℕ → ℕ → Slot → Bool
wanted drive block e = every (is_used e ∷ eqb e.drive drive ∷ eqb e.block.0 block ∷ [])

-- the rank of the best so far: 0 where there is none
abbrev pub top_of : Option Best → ℕ
top_of None = 0
top_of (Some b) = b.rank

-- the best so far, or slot i where it is wanted and of a higher rank
unfoldable pub better : ℕ → ℕ → Option Best → ℕ → Slot → Option Best
better drive block best i e = cond (every (wanted drive block e ∷ ltb (top_of best) e.rank ∷ [])) (Some (record { slot = i; rank = e.rank })) best

-- of the first n slots
unfoldable pub best_of : List ℕ → Geometry → ℕ → ℕ → ℕ → Option Best
best_of m g drive block zero = None
best_of m g drive block (suc n) = better drive block (best_of m g drive block n) n (slot_of m g n)

-- "the newest retained on that drive with that block number": of those wanted, the one of the highest rank
unfoldable pub newest_of : List ℕ → Geometry → ℕ → ℕ → Option ℕ
newest_of m g drive block = option_map (λ (b : Best). b.slot) (best_of m g drive block g.s)

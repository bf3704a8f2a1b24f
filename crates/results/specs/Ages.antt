-- The used slots by age, newest first.
use Rattle.std.specs.Prelude.{ℕ, zero, suc, ◌≡◌, not, List, [], ◌∷◌, eqb}
use Rattle.folds.specs.Every.{every}
use Rattle.folds.specs.Count.{count_below}
use Rattle.folds.specs.Least.{index, least_below}
use Rattle.geometry.specs.declared.Geometry.{Geometry}
use Rattle.slots.specs.declared.Slot.{Slot}
use Rattle.slots.specs.Record.{zero_slot}
use Rattle.slots.specs.Slots.{used_in, has_rank}
use Rattle.slots.specs.Change.{entry}
use Rattle.results.specs.Lists.{keeping}

-- the slot of rank n, or 0 where none has it
unfoldable pub slot_ranked : Geometry → (ℕ → Slot) → ℕ → ℕ
slot_ranked g f n = index (least_below g.s (λ i. has_rank n (f i)))

-- the slots of ranks n, n - 1, .. 1
unfoldable pub ages_to : Geometry → (ℕ → Slot) → ℕ → List ℕ
ages_to g f zero = []
ages_to g f (suc n) = slot_ranked g f (suc n) ∷ ages_to g f n

-- "their ranks are 1 to k, each once; the newest has rank k"
abbrev pub ages : Geometry → (ℕ → Slot) → List ℕ
ages g f = ages_to g f (used_in g f)

-- of slots with ranks 2, none, 3 and 1, the third is the newest and the last the oldest
sample : ℕ → Slot
sample zero = entry 2 1 0 0 1
sample (suc zero) = zero_slot
sample (suc (suc zero)) = entry 3 1 0 0 1
sample (suc (suc (suc i))) = entry 1 1 0 0 1

by_age_lem : (g : Geometry) → g.s ≡ 4 → ages g sample ≡ 2 ∷ 0 ∷ 3 ∷ []
unfolding ages_to slot_ranked sample least_below count_below every
by_age_lem g e = rw e

-- the other numbers of a list, in order
abbrev pub without : ℕ → List ℕ → List ℕ
without x xs = keeping (λ i. not (eqb i x)) xs

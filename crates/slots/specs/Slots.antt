-- What makes the slots right (01, "The image").
use Rattle.std.specs.Prelude.{ℕ, ◌+◌, List, [], ◌∷◌, Bool, not, cond, leb, ltb, eqb}
use Rattle.folds.specs.Every.{every}
use Rattle.folds.specs.All.{all_below}
use Rattle.folds.specs.Count.{count_below}
use Rattle.rules.specs.Must.{Must, must, tests_of}
use Rattle.geometry.specs.declared.Geometry.{Geometry}
use Rattle.geometry.specs.Header.{Site, Byte, slot_at}
use Rattle.slots.specs.declared.Slot.{Slot}
use Rattle.slots.specs.Record.{field_starts, slot_of, zero_slot, is_used}

-- "An empty slot's record is all zero; its data may be anything." (That its kind is zero says that it is empty.) Its fields start as w says.
abbrev pub empty_musts : Slot → Slot → List (Must Site)
empty_musts w e =
    must (Byte w.rank) (eqb e.rank 0)
    ∷ must (Byte w.drive) (eqb e.drive 0)
    ∷ must (Byte w.len) (eqb e.len 0)
    ∷ must (Byte w.block.0) (eqb e.block.0 0)
    ∷ must (Byte w.last) (eqb e.last 0)
    ∷ []

-- "Used slots have kind 1 or 2, index below D, length 1 to M, block + length at most B, and their ranks are 1 to k, each once": k of them are
-- used, and the rank is new
abbrev pub used_musts : Geometry → ℕ → Bool → Slot → Slot → List (Must Site)
used_musts g k new w e =
    must (Byte w.rank) (leb 1 e.rank)
    ∷ must (Byte w.rank) (leb e.rank k)
    ∷ must (Byte w.rank) new
    ∷ must (Byte w.kind) (leb 1 e.kind)
    ∷ must (Byte w.kind) (leb e.kind 2)
    ∷ must (Byte w.drive) (ltb e.drive g.d)
    ∷ must (Byte w.len) (leb 1 e.len)
    ∷ must (Byte w.len) (leb e.len g.m)
    ∷ must (Byte w.block.0) (leb (e.block.0 + e.len) g.b)
    ∷ must (Byte w.last) (eqb e.last 0)
    ∷ []

-- the tests, wherever the slot starts
abbrev pub slot_ok : Geometry → ℕ → Bool → Slot → Bool
slot_ok g k new e = cond (is_used e) (every (tests_of (used_musts g k new zero_slot e))) (every (tests_of (empty_musts zero_slot e)))

-- how many of the slots f are used, and of an image's
abbrev pub used_in : Geometry → (ℕ → Slot) → ℕ
used_in g f = count_below g.s (λ i. is_used (f i))

abbrev pub used_count : List ℕ → Geometry → ℕ
used_count m g = used_in g (slot_of m g)

-- a used slot of rank n
abbrev pub has_rank : ℕ → Slot → Bool
has_rank n e = every (is_used e ∷ eqb e.rank n ∷ [])

-- a used slot's rank; an empty one has none
abbrev pub rank_in : Slot → ℕ
rank_in e = cond (is_used e) e.rank 0

-- slot i's rank is none of an earlier one
abbrev pub new_rank : (ℕ → Slot) → ℕ → Bool
new_rank f i = all_below i (λ j. not (eqb (rank_in (f j)) (rank_in (f i))))

abbrev pub slot_musts : List ℕ → Geometry → ℕ → List (Must Site)
slot_musts m g i =
    cond (is_used (slot_of m g i)) (used_musts g (used_count m g) (new_rank (slot_of m g) i) (field_starts (slot_at g i)) (slot_of m g i))
    (empty_musts (field_starts (slot_at g i)) (slot_of m g i))

-- every slot is right
unfoldable pub slots_ok : List ℕ → Geometry → Bool
slots_ok m g = all_below g.s (λ i. slot_ok g (used_count m g) (new_rank (slot_of m g) i) (slot_of m g i))

-- The retained results of an image as a list by age, newest first.
use Rattle.std.specs.Prelude.{ℕ, ◌*◌, ◌≡◌, length}
use Rattle.std.proofs.Common.{ap, ◌∙◌}
use mathlib.Core.List.{List, map}
use Rattle.octets.specs.Part.{part}
use Rattle.geometry.specs.declared.Geometry.{Geometry}
use Rattle.geometry.specs.Header.{data_at}
use Rattle.slots.specs.declared.Slot.{Slot}
use Rattle.slots.specs.Record.{slot_of}
use Rattle.slots.specs.RecordLaws.{ranked}
use Rattle.slots.specs.Facts.{Fits}
use Rattle.slots.specs.Change.{entry, retained}
use Rattle.results.specs.Ages.{ages}

-- a result of len blocks of a drive from a block on
pub record Result : Type 0 where
  pub kind : ℕ
  pub drive : ℕ
  pub block : ℕ
  pub len : ℕ
  pub bytes : List ℕ

-- what a record and its data hold
abbrev pub slot_result : Slot → List ℕ → Result
slot_result r bytes = record { kind = r.kind; drive = r.drive; block = r.block.0; len = r.len; bytes = bytes }

-- slot i's: "its bytes fill the front of the slot"
unfoldable pub result_at : List ℕ → Geometry → ℕ → Result
result_at m g i = slot_result (slot_of m g i) (part m (data_at g i) ((slot_of m g i).len * g.l))

-- an image's used slots, and their results
abbrev pub by_age : List ℕ → Geometry → List ℕ
by_age m g = ages g (slot_of m g)

unfoldable pub results : List ℕ → Geometry → List Result
results m g = map (result_at m g) (by_age m g)

-- the record of a result at a rank, and an image that retains it
abbrev pub record_at : ℕ → Result → Slot
record_at rank r = entry rank r.kind r.drive r.block r.len

abbrev pub with_result : List ℕ → Geometry → Result → List ℕ
with_result m g r = retained m g r.kind r.drive r.block r.len r.bytes

-- a result that a slot can hold
pub record Sound (g : Geometry) (r : Result) : Type 0 where
  pub fits : Fits g r.kind r.drive r.block r.len
  pub exact : length r.bytes ≡ r.len * g.l

-- a slot of another rank with the same data holds the same result
pub result_same : (m m' : List ℕ) (g : Geometry) (i q : ℕ) → slot_of m' g i ≡ ranked q (slot_of m g i)
    → part m' (data_at g i) ((slot_of m g i).len * g.l) ≡ part m (data_at g i) ((slot_of m g i).len * g.l) → result_at m' g i ≡ result_at m g i
unfolding result_at
result_same m m' g i q e d = ap (λ (t : Slot). slot_result t (part m' (data_at g i) (t.len * g.l))) e ∙ ap (slot_result (slot_of m g i)) d

-- Demand 3 as a property of any step.
use Rattle.std.specs.Prelude.{ℕ, ◌+◌, ◌*◌, ◌≤◌, ◌<◌, true, false, ◌≡◌, length}
use mathlib.Core.List.{List, [], map, Memᴰ, Permᴰ}
use Rattle.octets.specs.Put.{put}
use Rattle.octets.specs.Octets.{Octets}
use Rattle.octets.specs.Xor.{◌⊻◌}
use Rattle.geometry.specs.declared.Geometry.{Geometry}
use Rattle.geometry.specs.Header.{place}
use Rattle.drives.specs.declared.Came.{Came}
use Rattle.drives.specs.Table.{address_of, to, failed}
use Rattle.results.specs.Results.{results}
use Rattle.image.specs.Shelf.{Shelf}
use Rattle.sums.specs.Row.{row_sum}
use Rattle.sums.specs.Others.{others}
use Rattle.sums.specs.OldBytes.{ZeroSums}
use Rattle.sense.specs.declared.Answer.{Answer}
use Rattle.sense.specs.declared.Answer.TheVariants.{Good}
use Rattle.meaning.specs.Step.{step_image, step_outcome, reset_image, mark_image}
use Rattle.meaning.specs.Calls.{Call, command, reset, marking, run_to}
use Rattle.callers.specs.Bytes.{Together, rebuild_cdb}
use Rattle.callers.specs.Lists.{list_of}
use Rattle.callers.specs.Sources.{source_at}
use Rattle.callers.specs.Listed.{HowLong}
use Rattle.parity.specs.Ledger.{Line, ledger_to, FairTo}
use Rattle.parity.specs.Owed.{is_owed, in_row, owed}

-- ---- steps

pub record Done : Type 0 where
  pub image : List ℕ
  pub answer : Answer

abbrev pub done : List ℕ → Answer → Done
done image answer = record { image = image; answer = answer }

-- image, target, CDB, data-out bytes, receive room
abbrev pub AnyStep : Type 0
AnyStep = List ℕ → Came → List ℕ → List ℕ → List ℕ → Done

abbrev pub the_step : AnyStep
the_step m a c s r = done (step_image m a c s r) (step_outcome m a c s r).answer

-- what a call leaves, with this step
abbrev pub call_by : AnyStep → Call → List ℕ → List ℕ
call_by step (command a c s r) m = (step m a c s r).image
call_by step (reset a) m = reset_image m a
call_by step (marking a state) m = mark_image m a state

-- ---- the first half

-- "Start with nothing retained."
pub record Start (m : List ℕ) (g : Geometry) : Type 0 where
  pub valid : Shelf m g
  pub nothing_retained : results m g ≡ []

-- "each row's sum differs from its first value by exactly the XOR of such results not yet carried over"
abbrev pub SumsDiffer : (Call → List ℕ → List ℕ) → Type 0
SumsDiffer after =
    (m : List ℕ) (g : Geometry) → Start m g → (xs : List Call) → FairTo after xs m []
    → (r : ℕ) → r < g.b → row_sum (run_to after xs m) g r ≡ row_sum m g r ⊻ owed g r (ledger_to after xs m [])

-- ---- the second half

-- "nothing is owed": no owed result has a byte in those rows
abbrev pub NothingOwed : Geometry → ℕ → ℕ → List Line → Type 0
NothingOwed g b n es = (e : Line) → Memᴰ e es → is_owed e ≡ true → (r : ℕ) → b ≤ r → r < b + n → in_row g r e ≡ []

-- "all drives present"
abbrev pub AllPresent : List ℕ → Geometry → Type 0
AllPresent m g = (e : ℕ) → e < g.d → failed m g e ≡ false

-- "If the sums began at zero and nothing is owed in some adjoining rows": after the calls xs on an image m of bytes
pub record Whole (after : Call → List ℕ → List ℕ) (m : List ℕ) (g : Geometry) (xs : List Call) (b n : ℕ) : Type 0 where
  pub start : Start m g
  pub bytes : Octets m
  pub fair : FairTo after xs m []
  pub began_zero : ZeroSums m g b n
  pub nothing_owed : NothingOwed g b n (ledger_to after xs m [])
  pub all_present : AllPresent (run_to after xs m) g

-- the n rows from row b on; any bytes ys over drive d's blocks there; as sources the drives es, "every other drive once and nothing else",
-- in any order
pub record Overwriting (g : Geometry) (d b n : ℕ) (ys es : List ℕ) (sec count : ℕ) : Type 0 where
  pub drive_in : d < g.d
  pub some_rows : 1 ≤ n
  pub rows_in : b + n ≤ g.b
  pub as_long : length ys ≡ n * g.l
  pub every_other : Permᴰ es (others g.d d)
  pub together : Together sec
  pub how_long : HowLong g.b b n count

-- drive d's blocks from block b on overwritten
abbrev pub overwritten : List ℕ → Geometry → ℕ → ℕ → List ℕ → List ℕ
overwritten m g d b ys = put m (place g d b) ys

-- REBUILD to drive d on that image, "at the same blocks"
abbrev pub rebuilt : AnyStep → List ℕ → Geometry → ℕ → ℕ → List ℕ → List ℕ → ℕ → ℕ → List ℕ → Done
rebuilt step m g d b ys es sec count room =
    step (overwritten m g d b ys) (to (address_of m g d)) (rebuild_cdb sec count (length es)) (list_of b (map (source_at m g b) es) []) room

-- it answers GOOD and leaves the image of before the overwriting, slots and all
pub record BringsBack (m : List ℕ) (x : Done) : Type 0 where
  pub good : x.answer ≡ Good
  pub back : x.image ≡ m

abbrev pub Restores : (Call → List ℕ → List ℕ) → AnyStep → Type 0
Restores after step =
    (m : List ℕ) (g : Geometry) (xs : List Call) (d b n : ℕ) (ys es : List ℕ) (sec count : ℕ)
    → Whole after m g xs b n → Overwriting g d b n ys es sec count
    → (room : List ℕ) → BringsBack (run_to after xs m) (rebuilt step (run_to after xs m) g d b ys es sec count room)

-- and so wherever the sums are zero, whatever is owed: owed results that cancel, or whose bytes are all zero, do not stand in the way
abbrev pub RestoresZero : AnyStep → Type 0
RestoresZero step =
    (m : List ℕ) (g : Geometry) (d b n : ℕ) (ys es : List ℕ) (sec count : ℕ)
    → Shelf m g → Octets m → AllPresent m g → ZeroSums m g b n → Overwriting g d b n ys es sec count
    → (room : List ℕ) → BringsBack m (rebuilt step m g d b ys es sec count room)

-- ---- all of it

pub record Demand (step : AnyStep) : Type 0 where
  pub sums_differ : SumsDiffer (call_by step)
  pub restores : Restores (call_by step) step
  pub restores_zero : RestoresZero step

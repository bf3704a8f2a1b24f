-- What a decision to go grants the code that acts, by act.
use Rattle.std.specs.Prelude.{ℕ, ◌+◌, ◌*◌, ◌≤◌, ◌<◌, ◌≡◌, false, cond, List, length, get_or, Some}
use Rattle.geometry.specs.declared.Geometry.{Geometry}
use Rattle.geometry.specs.Places.{Range}
use Rattle.drives.specs.declared.Came.{Came}
use Rattle.drives.specs.Table.{source_drive, failed}
use Rattle.slots.specs.Record.{slot_of, is_used}
use Rattle.slots.specs.Find.{empty_slot, newest_of}
use Rattle.slots.specs.Facts.{empty_inside}
use Rattle.command.specs.declared.Source.{Source}
use Rattle.command.specs.Command.{source_of}
use Rattle.meaning.specs.declared.Span.{Span}
use Rattle.meaning.specs.declared.Summing.{Summing}
use Rattle.meaning.specs.declared.Act.{Act}
use Rattle.meaning.specs.declared.Act.TheVariants.{Read, Write, XpWrite, XdRead, Couple, Retain, Rebuild, Regenerate, XdWriteRead}

-- blocks of a present drive, one at least
pub record Blocks (m : List ℕ) (g : Geometry) (x : Span) : Type 0 where
  pub range : Range g x.drive x.block.0 x.count
  pub present : failed m g x.drive ≡ false
  pub some : 1 ≤ x.count

-- the data-out bytes are exactly the blocks
abbrev pub Filled : Geometry → Span → List ℕ → Type 0
Filled g x s = length s ≡ x.count * g.l

-- the receive room holds the blocks
abbrev pub Roomy : Geometry → Span → ℕ → Type 0
Roomy g x room = x.count * g.l ≤ room

abbrev pub Limited : Geometry → Span → Type 0
Limited g x = x.count ≤ g.m

-- slot i answers
pub record Held (m : List ℕ) (g : Geometry) (x : Span) (i : ℕ) : Type 0 where
  pub answers : newest_of m g x.drive x.block.0 ≡ Some i
  pub slot_in : i < g.s
  pub same_len : (slot_of m g i).len ≡ x.count
  pub limited : x.count ≤ g.m

-- slot i takes the result
pub record Free (m : List ℕ) (g : Geometry) (i : ℕ) : Type 0 where
  pub takes : empty_slot m g ≡ Some i
  pub slot_in : i < g.s
  pub unused : is_used (slot_of m g i) ≡ false

pub empty_free : (m : List ℕ) (g : Geometry) (i : ℕ) → empty_slot m g ≡ Some i → Free m g i
empty_free m g i e = let w = empty_inside m g i e in record { takes = e; slot_in = w.0; unused = w.1 }

-- the source e names blocks of another drive, which is present
pub record NamesOther (m : List ℕ) (g : Geometry) (a : Came) (x : Span) (e : Source) : Type 0 where
  pub drive : ℕ
  pub found : source_drive m g a e.address.0 ≡ Some drive
  pub range : Range g drive e.block.0 x.count
  pub present : failed m g drive ≡ false
  pub other : drive ≡ x.drive → ⊥

pub record Sourced (m : List ℕ) (g : Geometry) (x : Span) (j : Summing) (s : List ℕ) : Type 0 where
  pub some_source : 1 ≤ get_or s 0 0
  pub exact : length s ≡ 8 + 8 * get_or s 0 0 + cond j.int (x.count * g.l) 0
  pub each : (i : ℕ) → i < get_or s 0 0 → NamesOther m g j.came x (source_of s i)

abbrev pub Allowed : List ℕ → Geometry → List ℕ → ℕ → Act → Type 0
Allowed m g s room (Read x) = Blocks m g x × Roomy g x room
Allowed m g s room (Write x) = Blocks m g x × Filled g x s
Allowed m g s room (XpWrite x) = Blocks m g x × Filled g x s
Allowed m g s room (XdRead x i) = Held m g x i × Roomy g x room
Allowed m g s room (Couple x y mirror) = Blocks m g x × Blocks m g y × (x.count ≡ y.count) × (x.drive ≡ y.drive → ⊥) × Filled g x s
Allowed m g s room (Retain x i mirror ndisc) = Blocks m g x × Filled g x s × Limited g x × Free m g i
Allowed m g s room (Rebuild x j) = Blocks m g x × Sourced m g x j s
Allowed m g s room (Regenerate x j i) = Blocks m g x × Sourced m g x j s × Limited g x × Free m g i
Allowed m g s room (XdWriteRead x disable) = Blocks m g x × Filled g x s × Roomy g x room

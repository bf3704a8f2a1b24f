-- What a command that passed every check does to the image, and what it hands to the receive room (01, "Commands"; 02, A1). Every
-- operand is read from the image before the command. Each statement of the code that acts is one of these stores, or a piece of one,
-- and they are done in the order in which they stand, pieces ascending; what is handed out goes before all of them.
use Rattle.std.specs.Prelude.{ℕ, zero, suc, ◌+◌, ◌*◌, List, [], ◌∷◌, ◌++◌, map, Bool, not, cond, get_or}
use Rattle.octets.specs.Part.{part}
use Rattle.octets.specs.Xor.{◌⊻◌}
use Rattle.octets.specs.Operands.{xor_all}
use Rattle.folds.specs.Least.{index}
use Rattle.geometry.specs.declared.Geometry.{Geometry}
use Rattle.geometry.specs.Header.{slot_at, data_at, place, blocks_at}
use Rattle.geometry.specs.Stores.{Store, store, Slots, Media, stored}
use Rattle.drives.specs.declared.Came.{Came}
use Rattle.drives.specs.Table.{source_drive}
use Rattle.slots.specs.Record.{bytes_of}
use Rattle.slots.specs.Slots.{used_count}
use Rattle.slots.specs.Change.{entry, gone_stores}
use Rattle.command.specs.declared.Source.{Source}
use Rattle.command.specs.Command.{source_of}
use Rattle.meaning.specs.declared.Span.{Span}
use Rattle.meaning.specs.declared.Summing.{Summing}
use Rattle.meaning.specs.declared.Act.{Act}
use Rattle.meaning.specs.declared.Act.TheVariants.{Read, Write, XpWrite, XdRead, Couple, Retain, Rebuild, Regenerate, XdWriteRead}

-- ---- blocks

abbrev pub span_at : Geometry → Span → ℕ
span_at g x = place g x.drive x.block.0

-- the bytes of a span
abbrev pub blocks_of : List ℕ → Geometry → Span → List ℕ
blocks_of m g x = blocks_at m g x.drive x.block.0 x.count

-- ---- what an act comes to

-- blocks, and the bytes that are written over them
pub record Over : Type 0 where
  pub blocks : Span
  pub bytes : List ℕ

abbrev pub over : Span → List ℕ → Over
over x bytes = record { blocks = x; bytes = bytes }

-- the retained results stay; slot i takes one, of a kind and of the blocks x; or the one that slot i has, of the blocks x, goes
pub data Change : Type 0 where
  Stays : Change
  Comes : ℕ → ℕ → Span → List ℕ → Change
  Goes : ℕ → Span → Change

-- what goes to the receive room, the blocks written, in order, and what becomes of the results
pub record Effect : Type 0 where
  pub hands : List ℕ
  pub writes : List Over
  pub change : Change

abbrev pub effect : List ℕ → List Over → Change → Effect
effect hands writes change = record { hands = hands; writes = writes; change = change }

-- "its bytes fill the front of the slot, the rest stays"
abbrev pub data_stores : Geometry → Change → List Store
data_stores g Stays = []
data_stores g (Comes i kind x bytes) = store Slots (data_at g i) bytes ∷ []
data_stores g (Goes i x) = []

abbrev pub block_store : Geometry → Over → Store
block_store g w = store Media (span_at g w.blocks) w.bytes

-- "A new result takes .. rank k+1"
abbrev pub record_stores : List ℕ → Geometry → Change → List Store
record_stores m g Stays = []
record_stores m g (Comes i kind x bytes) = store Slots (slot_at g i) (bytes_of (entry (used_count m g + 1) kind x.drive x.block.0 x.count)) ∷ []
record_stores m g (Goes i x) = gone_stores g i m

-- where the result goes, then the data's own blocks, then the records; a secondary's blocks stand before the data's
abbrev pub stores_in : List ℕ → Geometry → Effect → List Store
stores_in m g e = data_stores g e.change ++ map (block_store g) e.writes ++ record_stores m g e.change

-- ---- XDWRITE

-- "result = data XOR old blocks, or the data itself with Mirror"
abbrev pub mixed : Bool → List ℕ → List ℕ → List ℕ
mixed mirror bytes old = cond mirror bytes (bytes ⊻ old)

abbrev pub result_of : List ℕ → Geometry → Span → Bool → List ℕ → List ℕ
result_of m g x mirror s = mixed mirror s (blocks_of m g x)

-- "Sec Ctl 00 or 10: the result goes to the secondary at its block, XORed into it, or written plainly with Mirror."
abbrev pub laid : Bool → List ℕ → List ℕ → List ℕ
laid adds there bytes = cond adds (there ⊻ bytes) bytes

abbrev pub passed_on : List ℕ → Geometry → Span → Span → Bool → List ℕ → List ℕ
passed_on m g x y mirror s = laid (not mirror) (blocks_of m g y) (result_of m g x mirror s)

-- with Sec Ctl 11 the data is written where NDisc is 0, and by 50h and 53h where DISABLE WRITE is 0
abbrev pub data_over : Span → Bool → List ℕ → List Over
data_over x ndisc s = cond ndisc [] (over x s ∷ [])

-- ---- REBUILD and REGENERATE

-- the drive that a source names, where its blocks start, and so many of them
abbrev pub home_of : List ℕ → Geometry → Came → Source → ℕ
home_of m g a x = index (source_drive m g a x.address.0)

abbrev pub start_of : List ℕ → Geometry → Came → Source → ℕ
start_of m g a x = place g (home_of m g a x) x.block.0

abbrev pub named_blocks : List ℕ → Geometry → Came → ℕ → Source → List ℕ
named_blocks m g a count x = blocks_at m g (home_of m g a x) x.block.0 count

-- the blocks that source entry i names
abbrev pub source_blocks : List ℕ → Geometry → Came → List ℕ → ℕ → ℕ → List ℕ
source_blocks m g a s count i = named_blocks m g a count (source_of s i)

-- "The list is read from its first entry on": the entries left, from entry i on
unfoldable pub sources_from : List ℕ → Geometry → Came → List ℕ → ℕ → ℕ → ℕ → List (List ℕ)
sources_from m g a s count i zero = []
sources_from m g a s count i (suc left) = source_blocks m g a s count i ∷ sources_from m g a s count (i + 1) left

-- "the intermediate data is the part of the data-out bytes that starts right after the list; it is one more operand"
abbrev pub int_data : Geometry → List ℕ → ℕ → ℕ → Bool → List (List ℕ)
int_data g s count n int = cond int (part s (8 + 8 * n) (count * g.l) ∷ []) []

-- "List: byte 0 number of sources": the XOR of the sources and the intermediate data
unfoldable pub gathered : List ℕ → Geometry → List ℕ → ℕ → Summing → List ℕ
gathered m g s count j = xor_all (sources_from m g j.came s count 0 (get_or s 0 0) ++ int_data g s count (get_or s 0 0) j.int)

-- ---- every command

abbrev pub effect_of : List ℕ → Geometry → List ℕ → Act → Effect
effect_of m g s (Read x) = effect (blocks_of m g x) [] Stays
effect_of m g s (Write x) = effect [] (over x s ∷ []) Stays
-- "XPWRITE: medium becomes old XOR data."
effect_of m g s (XpWrite x) = effect [] (over x (blocks_of m g x ⊻ s) ∷ []) Stays
-- "Its bytes go to the receive room's front", and "it is no longer retained"
effect_of m g s (XdRead x i) = effect (part m (data_at g i) (x.count * g.l)) [] (Goes i x)
-- to the secondary, and then "NDisc 0 writes the data"
effect_of m g s (Couple x y mirror) = effect [] (over y (passed_on m g x y mirror s) ∷ over x s ∷ []) Stays
-- "Sec Ctl 11: the result is retained", as kind 1
effect_of m g s (Retain x i mirror ndisc) = effect [] (data_over x ndisc s) (Comes i 1 x (result_of m g x mirror s))
-- "REBUILD writes the XOR to the target"
effect_of m g s (Rebuild x j) = effect [] (over x (gathered m g s x.count j) ∷ []) Stays
-- "REGENERATE adds the target's own blocks and retains the XOR."
effect_of m g s (Regenerate x j i) = effect [] [] (Comes i 2 x (blocks_of m g x ⊻ gathered m g s x.count j))
-- A1: 53h "puts the XOR in the receive room", of the data and the old blocks, and "takes no slot"
effect_of m g s (XdWriteRead x disable) = effect (s ⊻ blocks_of m g x) (data_over x disable s) Stays

abbrev pub stores_of : List ℕ → Geometry → List ℕ → Act → List Store
stores_of m g s act = stores_in m g (effect_of m g s act)

-- what is left of the image, and what goes to the receive room's front
abbrev pub leaves : List ℕ → Geometry → List ℕ → Act → List ℕ
leaves m g s act = stored m (stores_of m g s act)

abbrev pub hands : List ℕ → Geometry → List ℕ → Act → List ℕ
hands m g s act = (effect_of m g s act).hands

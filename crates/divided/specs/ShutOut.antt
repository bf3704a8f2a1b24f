-- Programs that A9 shuts out: each decides rightly, and does one thing otherwise.
use Rattle.std.specs.Prelude.{ℕ, zero, suc, ◌-◌, cond, List, map, eqb, get_or, take, drop}
use Rattle.octets.specs.Xor.{◌⊻◌}
use Rattle.octets.specs.Operands.{xor_all}
use Rattle.geometry.specs.declared.Geometry.{Geometry}
use Rattle.drives.specs.declared.Came.{Came}
use Rattle.meaning.specs.Acts.{blocks_of, Over, over, Change, Stays, Comes, Goes, effect, sources_from}
use Rattle.meaning.specs.Step.{decided}
use Rattle.callers.specs.Otherwise.{Otherwise, left_by, writing}
use Rattle.divided.specs.InParts.{reply, Program, ours}

-- another effect of the commands with a code
abbrev pub acting : ℕ → (Came → Otherwise) → Program
acting code f m x =
    cond (eqb (get_or x.cdb 0 0) code)
    (reply (ours m x).outcome (left_by (f x.came) (decided m x.came x.cdb x.bytes x.room) m x.bytes) (ours m x).room)
    (ours m x)

-- ---- two strings

-- the blocks of the sources, in the order of the list
abbrev source_blocks : Came → List ℕ → Geometry → List ℕ → Over → List (List ℕ)
source_blocks a m g s w = sources_from m g a s w.blocks.count 0 (get_or s 0 0)

-- a REBUILD that leaves the intermediate data out
abbrev pub without_data : Program
without_data = acting 0xC3 (λ a m g s. writing (λ w. xor_all (source_blocks a m g s w)))

-- a REGENERATE that does not count its own blocks: the result is the sources' XOR alone
abbrev sans : List ℕ → Geometry → Change → Change
sans m g Stays = Stays
sans m g (Comes i kind x ys) = Comes i kind x (ys ⊻ blocks_of m g x)
sans m g (Goes i x) = Goes i x

abbrev pub without_own : Program
without_own = acting 0xC4 (λ a m g s e. effect e.hands e.writes (sans m g e.change))

-- ---- ranges

-- blocks but for the first, and their bytes; from block 0 on all of them
abbrev tardy : Geometry → Over → Over
tardy g w = from w.blocks.block.0
  where
    from : ℕ → Over
    from zero = w
    from (suc b) = over (record { drive = w.blocks.drive; block = record { 0 = suc (suc b) }; count = w.blocks.count - 1 }) (drop g.l w.bytes)

-- a REBUILD whose later ranges start one block late
abbrev pub late : Program
late = acting 0xC3 (λ a m g s e. effect e.hands (map (tardy g) e.writes) e.change)

-- ---- order

-- a REBUILD that takes its first source only
abbrev pub first_only : Program
first_only = acting 0xC3 (λ a m g s. writing (λ w. xor_all (take 1 (source_blocks a m g s w))))

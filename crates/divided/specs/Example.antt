-- A shelf of four drives with four blocks each: the laws' conditions can be met there, and what the commands then come to.
use Prim.Native.Nat.{ℕ, ◌+◌, ◌*◌}
use Rattle.std.specs.Prelude.{◌≡◌, replicate}
use mathlib.Core.List.{List, [], ◌∷◌, ◌++◌}
use Rattle.octets.specs.Octets.{Octets}
use Rattle.geometry.specs.declared.Geometry.{Geometry}
use Rattle.drives.specs.Table.{to}
use Rattle.image.specs.Bench.{four, zeros}
use Rattle.sense.specs.declared.Answer.TheVariants.{Good}
use Rattle.sense.specs.Sense.{outcome_of}
use Rattle.command.specs.declared.Source.{Source}
use Rattle.callers.specs.Bytes.{xdread_cdb}
use Rattle.callers.specs.Lists.{source}
use Rattle.divided.specs.InParts.{Sent, sent, reply, Program, IsGood, rebuilding, Cut}
use Rattle.divided.specs.Said.{regenerating}

-- ---- the shelf

-- blocks of four bytes, each byte so much above the last
abbrev pub rising : ℕ → ℕ → List ℕ
rising k s = row k ++ row (k + 4 * s) ++ row (k + 8 * s) ++ row (k + 12 * s)
  where
    row : ℕ → List ℕ
    row k = four k (k + s) (k + 2 * s) (k + 3 * s)

-- with this slot, and these blocks of its first drive
abbrev pub shelf_of : List ℕ → List ℕ → List ℕ
shelf_of slot first =
    four 0 0 0 4 ++ four 0 0 0 4 ++ four 0 0 0 4 ++ four 0 0 0 1 ++ four 0 0 0 2 ++ four 0 0 0 32 ++ four 0 0 0 48 ++ four 0 0 0 72
    ++ four 0 0 0 1 ++ four 0 0 0 2 ++ four 0 0 0 3 ++ four 0 0 0 4 ++ slot ++ first ++ rising 0x11 1 ++ rising 0x21 7 ++ rising 3 13

abbrev pub shelf : List ℕ
shelf = shelf_of (replicate 24 0) (rising 0x80 1)

abbrev pub shape : Geometry
shape = record { d = 4; b = 4; l = 4; s = 1; m = 2; table = 32; slots = 48; media = 72 }

-- ---- two strings: REGENERATE to drive 2 from drive 3, XDREAD, REBUILD to drive 1 from drives 4 and 2 with the bytes ys

abbrev pub regenerate : Sent
regenerate = regenerating (to 2) 0 2 1 (source 3 0 ∷ []) [] []

abbrev pub fetch : Sent
fetch = sent (to 2) (xdread_cdb 0x52 1 2) [] (replicate 8 0xEE)

abbrev pub others : List Source
others = source 4 2 ∷ source 2 0 ∷ []

abbrev pub rebuild : List ℕ → Sent
rebuild ys = rebuilding (to 1) 4 2 2 others ys []

-- what the first two leave
abbrev pub regenerated : List ℕ → List ℕ
regenerated ys = shelf_of (four 0 0 0 1 ++ four 2 1 0 2 ++ four 0 0 0 1 ++ zeros ++ ys) (rising 0x80 1)

abbrev pub fetched : List ℕ → List ℕ
fetched ys = shelf_of (replicate 16 0 ++ ys) (rising 0x80 1)

-- one REBUILD in their place, its list in another order
abbrev pub all : List Source
all = source 4 2 ∷ source 2 1 ∷ source 3 0 ∷ source 2 0 ∷ []

abbrev pub one : Sent
one = rebuilding (to 1) 0 0xFFFFFFFF 2 all [] []

-- eight bytes
module _ (a b c d e f g h : ℕ) where
  abbrev pub eight : List ℕ
  eight = four a b c d ++ four e f g h

  -- a program that answers so
  pub record Passes (step : Program) : Type 0 where
    pub regenerates : step shelf regenerate ≡ reply (outcome_of Good 0) (regenerated eight) []
    pub hands : step (regenerated eight) fetch ≡ reply (outcome_of Good 8) (fetched eight) eight
    pub rebuilds : IsGood step (fetched eight) (rebuild eight)
    pub bytes : Octets (fetched eight)

-- blocks 1 and 2 of drive 2, blocks 0 and 1 of drive 3
abbrev pub passed : List ℕ
passed = eight 0x34 0x3E 0x38 0x2E 0x24 0x5E 0x50 0x4E

-- ---- a list of three in two orders, with Int Data

abbrev pub three : Sent
three = rebuilding (to 1) 4 2 0 (source 3 0 ∷ source 2 1 ∷ source 4 2 ∷ []) passed []

abbrev pub shuffled : Sent
shuffled = rebuilding (to 1) 4 2 0 (source 4 2 ∷ source 3 0 ∷ source 2 1 ∷ []) passed []

-- ---- four blocks in three ranges: the last one first, by length FFFFFFFFh, and two blocks at last

abbrev pub whole : Sent
whole = rebuilding (to 1) 0 0xFFFFFFFF 0 (source 2 0 ∷ source 3 0 ∷ []) [] []

-- n blocks from block o on
abbrev pub cut : ℕ → ℕ → ℕ → Cut
cut o n count = record { range = record { from = o; count = n }; by = rebuilding (to 1) 0 count o (source 2 o ∷ source 3 o ∷ []) [] [] }

abbrev pub ranges : List Cut
ranges = cut 3 1 0xFFFFFFFF ∷ cut 0 1 1 ∷ cut 1 2 2 ∷ []

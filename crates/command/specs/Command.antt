-- 01, "Commands", and 02, A1: what the bytes of a CDB and of a parameter list say. Nothing is refused here.
use Rattle.std.specs.Prelude.{ℕ, ◌+◌, ◌-◌, ◌*◌, ◌/◌, ◌%◌, ◌<◌, Bool, List, [], ◌∷◌, cond, ◌≡◌, refl, get_or, leb, eqb, Option, Some, None}
use Rattle.octets.specs.Part.{part}
use Rattle.octets.specs.Number.{num, be}
use Rattle.drives.specs.declared.Came.{Came}
use Rattle.command.specs.declared.Op.{Op}
use Rattle.command.specs.declared.Op.TheVariants.{XdWrite, XpWrite, XdRead, Rebuild, Regenerate, Read, Write, XdWriteTen, XdWriteRead, Unknown}
use Rattle.command.specs.declared.Layout.{Layout}
use Rattle.command.specs.declared.Layout.TheVariants.{Sixteen, Ten, ByList}
use Rattle.command.specs.declared.Command.{Command}
use Rattle.command.specs.declared.Source.{Source}

-- 01: "Code | Command"
abbrev pub op_of_1994 : ℕ → Op
op_of_1994 code =
    cond (eqb code 0xC0) XdWrite
    (cond (eqb code 0xC1) XpWrite
    (cond (eqb code 0xC2) XdRead
    (cond (eqb code 0xC3) Rebuild
    (cond (eqb code 0xC4) Regenerate
    (cond (eqb code 0x28) Read
    (cond (eqb code 0x2A) Write
    Unknown))))))

-- A1: "XDWRITE(10) 50h, XPWRITE(10) 51h, XDREAD(10) 52h and XDWRITEREAD(10) 53h", "beside ours"; 51h and 52h do what XPWRITE and XDREAD do
unfoldable pub op_of : ℕ → Op
op_of code =
    cond (eqb code 0x50) XdWriteTen
    (cond (eqb code 0x51) XpWrite
    (cond (eqb code 0x52) XdRead
    (cond (eqb code 0x53) XdWriteRead
    (op_of_1994 code))))

-- ---- what an operation has

-- which bits of byte 1 are named: "XDWRITE byte 1: bit 6 Mirror, 5 NDisc, 4 DPO, 3 FUA, 2-1 Sec Ctl. REBUILD and REGENERATE byte 1: bit 2 Int
-- Data, 1-0 Sec Ctl. XPWRITE, READ and WRITE: bit 4 DPO, 3 FUA."; A1: "bit 4 DPO and 3 FUA (not 52h), 2 DISABLE WRITE (50h, 53h)"
pub data FlagBits : Type 0 where
  SecBits : FlagBits
  ListBits : FlagBits
  CacheBits : FlagBits
  DisableBits : FlagBits
  NoBits : FlagBits
  AnyBits : FlagBits

-- which lengths it refuses: "XDWRITE, XPWRITE or REGENERATE length above M; REBUILD length FFFFFFFFh with Int Data"; A1: 53h "has limit M"
pub data Limit : Type 0 where
  UpToM : Limit
  NotToEnd : Limit
  NoLimit : Limit

-- what is sent and handed out: "XDWRITE, XPWRITE, WRITE send length*L", "REBUILD and REGENERATE list length plus, with Int Data, length*L", "READ
-- and XDREAD nothing", which fill the receive room; A1: 53h "sends length*L" and "puts the XOR in the receive room"
pub data Moves : Type 0 where
  DataSent : Moves
  ListSent : Moves
  HandedOut : Moves
  Exchanged : Moves
  NoBytes : Moves

-- what it works on: blocks, of which zero are GOOD, or the newest result at a block, which has the length that is asked for or none
pub data Works : Type 0 where
  OnBlocks : Works
  OnResult : Works

-- whether there is "something to retain": XDWRITE "Sec Ctl 11: the result is retained", "REGENERATE .. retains the XOR"; A1: "50h always retains"
pub data Keeping : Type 0 where
  Always : Keeping
  WithEleven : Keeping
  Never : Keeping

-- whose it is: 01's, or A1's own
pub data Since : Type 0 where
  Of1994 : Since
  OfA1 : Since

pub record Traits : Type 0 where
  pub layout : Option Layout
  pub bits : FlagBits
  pub limit : Limit
  pub moves : Moves
  pub works : Works
  pub keeps : Keeping
  pub since : Since

abbrev row : Option Layout → FlagBits → Limit → Moves → Works → Keeping → Since → Traits
row layout bits limit moves works keeps since =
    record { layout = layout; bits = bits; limit = limit; moves = moves; works = works; keeps = keeps; since = since }

-- 01's "Code | Command | Length | Fields" and A1's, operation by operation
abbrev pub has : Op → Traits
has XdWrite = row (Some Sixteen) SecBits UpToM DataSent OnBlocks WithEleven Of1994
has XpWrite = row (Some Ten) CacheBits UpToM DataSent OnBlocks Never Of1994
has XdRead = row (Some Ten) NoBits NoLimit HandedOut OnResult Never Of1994
has Rebuild = row (Some ByList) ListBits NotToEnd ListSent OnBlocks Never Of1994
has Regenerate = row (Some ByList) ListBits UpToM ListSent OnBlocks Always Of1994
has Read = row (Some Ten) CacheBits NoLimit HandedOut OnBlocks Never Of1994
has Write = row (Some Ten) CacheBits NoLimit DataSent OnBlocks Never Of1994
has XdWriteTen = row (Some Ten) DisableBits UpToM DataSent OnBlocks Always OfA1
has XdWriteRead = row (Some Ten) DisableBits UpToM Exchanged OnBlocks Never OfA1
has Unknown = row None AnyBits NoLimit NoBytes OnBlocks Never Of1994

-- "Length"
abbrev pub size_by : Option Layout → ℕ
size_by (Some Sixteen) = 16
size_by (Some Ten) = 10
size_by (Some ByList) = 10
size_by None = 0

abbrev pub size_of : Op → ℕ
size_of o = size_by (has o).layout

-- "All other bits of byte 1 .. must be zero."; A1: "other bits of byte 1 are zero": those others
abbrev pub zero_by : FlagBits → ℕ
zero_by SecBits = 0x81
zero_by ListBits = 0xF8
zero_by CacheBits = 0xE7
zero_by DisableBits = 0xE3
zero_by NoBits = 0xFF
zero_by AnyBits = 0

abbrev pub zero_bits : Op → ℕ
zero_bits o = zero_by (has o).bits

-- ---- the command in a CDB

-- "block 2-5, length 6-7, secondary address 8-10, secondary block 11-14"
unfoldable pub sixteen_of : Op → Came → List ℕ → Command
sixteen_of o a c =
    record {
      code = get_or c 0 0;
      op = o;
      came = a;
      flags = get_or c 1 0;
      six = 0;
      control = get_or c 15 0;
      block = record { 0 = be 4 c 2 };
      count = be 2 c 6;
      list = 0;
      second = record { 0 = be 3 c 8 };
      spot = record { 0 = be 4 c 11 };
    }

-- "block 2-5, length 7-8"; A1: "block in bytes 2-5, length in 7-8"
unfoldable pub ten_of : Op → Came → List ℕ → Command
ten_of o a c =
    record {
      code = get_or c 0 0;
      op = o;
      came = a;
      flags = get_or c 1 0;
      six = get_or c 6 0;
      control = get_or c 9 0;
      block = record { 0 = be 4 c 2 };
      count = be 2 c 7;
      list = 0;
      second = record { 0 = 0 };
      spot = record { 0 = 0 };
    }

-- "length 2-5, list length 7-8"
unfoldable pub listed_of : Op → Came → List ℕ → Command
listed_of o a c =
    record {
      code = get_or c 0 0;
      op = o;
      came = a;
      flags = get_or c 1 0;
      six = get_or c 6 0;
      control = get_or c 9 0;
      block = record { 0 = 0 };
      count = be 4 c 2;
      list = be 2 c 7;
      second = record { 0 = 0 };
      spot = record { 0 = 0 };
    }

-- "Fields"
abbrev pub command_by : Option Layout → Op → Came → List ℕ → Command
command_by (Some Sixteen) o a c = sixteen_of o a c
command_by (Some Ten) o a c = ten_of o a c
command_by (Some ByList) o a c = listed_of o a c
command_by None o a c = ten_of o a c

abbrev pub command_of : Op → Came → List ℕ → Command
command_of o a c = command_by (has o).layout o a c

-- XDWRITE: "bit 6 Mirror, 5 NDisc, .., 2-1 Sec Ctl"
abbrev pub mirror_of : Command → Bool
mirror_of k = eqb (k.flags / 64 % 2) 1

abbrev pub ndisc_of : Command → Bool
ndisc_of k = eqb (k.flags / 32 % 2) 1

abbrev pub sec_of : Command → ℕ
sec_of k = k.flags / 2 % 4

-- REBUILD and REGENERATE: "bit 2 Int Data, 1-0 Sec Ctl"
abbrev pub int_of : Command → Bool
int_of k = eqb (k.flags / 4 % 2) 1

abbrev pub list_sec_of : Command → ℕ
list_sec_of k = k.flags % 4

-- 50h and 53h: "2 DISABLE WRITE"
abbrev pub disable_of : Command → Bool
disable_of k = eqb (k.flags / 4 % 2) 1

-- each field fits its bytes
pub record Fits (k : Command) : Type 0 where
  pub code_small : k.code < 256
  pub flags_small : k.flags < 256
  pub six_small : k.six < 256
  pub control_small : k.control < 256
  pub block_small : k.block.0 < 4294967296
  pub count_small : k.count < 4294967296
  pub list_small : k.list < 65536
  pub second_small : k.second.0 < 16777216
  pub spot_small : k.spot.0 < 4294967296

-- "List: .. 4-7 own block": the command at the block that the data-out bytes s name
unfoldable pub own_of : Command → List ℕ → Command
own_of k s =
    record {
      code = k.code;
      op = k.op;
      came = k.came;
      flags = k.flags;
      six = k.six;
      control = k.control;
      block = record { 0 = be 4 s 4 };
      count = k.count;
      list = k.list;
      second = k.second;
      spot = k.spot;
    }

-- "then 8 bytes per source: address, block"
unfoldable pub source_of : List ℕ → ℕ → Source
source_of s i = record { address = record { 0 = be 4 s (8 + 8 * i) }; block = record { 0 = be 4 s (8 + 8 * i + 4) } }

-- "length FFFFFFFFh means to the last block": n blocks from block b on, of a drive of B; where no block is left the length stays
abbrev pub resolved_count : ℕ → ℕ → ℕ → ℕ
resolved_count n b B = cond (eqb n 0xFFFFFFFF) (cond (leb B b) n (B - b)) n

unfoldable pub resolved_of : Command → ℕ → Command
resolved_of k B =
    record {
      code = k.code;
      op = k.op;
      came = k.came;
      flags = k.flags;
      six = k.six;
      control = k.control;
      block = k.block;
      count = resolved_count k.count k.block.0 B;
      list = k.list;
      second = k.second;
      spot = k.spot;
    }

-- "list length plus, with Int Data, length*L, or nothing if the list length is 0"
unfoldable pub list_bytes : Command → ℕ → ℕ
list_bytes k L = cond (eqb k.list 0) 0 (cond (int_of k) (k.list + k.count * L) k.list)

-- ---- three of them

-- XDWRITE's byte 6 is length
upper : (a : Came) → (command_of XdWrite a (0xC0 ∷ 6 ∷ 0 ∷ 0 ∷ 0 ∷ 0 ∷ 1 ∷ 0 ∷ 0 ∷ 0 ∷ 0 ∷ 0 ∷ 0 ∷ 0 ∷ 0 ∷ 0 ∷ [])).count ≡ 256
unfolding sixteen_of part num
upper a = refl

-- REBUILD of a block, by a list of two sources
two : (a : Came) → (command_of Rebuild a (0xC3 ∷ 0 ∷ 0 ∷ 0 ∷ 0 ∷ 1 ∷ 0 ∷ 0 ∷ 0x18 ∷ 0 ∷ [])).list ≡ 24
unfolding listed_of part num
two a = refl

-- of two blocks, none is left from block 2 on
none : resolved_count 0xFFFFFFFF 2 2 ≡ 0xFFFFFFFF
none = refl

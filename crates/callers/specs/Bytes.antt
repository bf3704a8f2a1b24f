-- The CDB of each command, from its code and the fields that it says, and that the step reads these fields from it.
use Rattle.std.specs.Prelude.{ℕ, ◌+◌, ◌*◌, ◌<◌, false, ◌≡◌, refl, ◌⊎◌, List, [], ◌∷◌, ◌++◌, eqb, length, get_or, Option, Some}
use Rattle.std.proofs.Common.{sym, ap, ◌∙◌}
use Rattle.std.proofs.Math.Path.{ap₂}
use Rattle.octets.specs.Part.{part}
use Rattle.octets.specs.Number.{num, to_be, num_to_be_lt}
use Rattle.drives.specs.declared.Came.{Came}
use Rattle.drives.specs.Table.{to}
use Rattle.command.specs.declared.Op.{Op}
use Rattle.command.specs.declared.Op.TheVariants.{XdWrite, XpWrite, XdRead, Rebuild, Regenerate, Read, Write, XdWriteTen, XdWriteRead}
use Rattle.command.specs.declared.Command.{Command}
use Rattle.command.specs.declared.Layout.{Layout}
use Rattle.command.specs.declared.Layout.TheVariants.{Ten}
use Rattle.command.specs.Command.{has, op_of, size_by, size_of, sixteen_of, ten_of, listed_of, command_by, command_of}
use Rattle.command.specs.Lossless.{cdb_of, bytes_by_lem}
use Rattle.meaning.specs.Checks.{is_unknown}

-- ---- what is said, with the code that says it: what the CDB has no bytes for is zero, and so is what must be

abbrev saying : ℕ → Op → Came → ℕ → ℕ → ℕ → ℕ → ℕ → ℕ → Command
saying code o a flags block count list second spot =
    record {
      code = code;
      op = o;
      came = a;
      flags = flags;
      six = 0;
      control = 0;
      block = record { 0 = block };
      count = count;
      list = list;
      second = record { 0 = second };
      spot = record { 0 = spot };
    }

-- "block 2-5, length 6-7, secondary address 8-10, secondary block 11-14"
abbrev pub sixteen_saying : ℕ → Op → Came → ℕ → ℕ → ℕ → ℕ → ℕ → Command
sixteen_saying code o a flags block count second spot = saying code o a flags block count 0 second spot

-- "block 2-5, length 7-8"
abbrev pub ten_saying : ℕ → Op → Came → ℕ → ℕ → ℕ → Command
ten_saying code o a flags block count = saying code o a flags block count 0 0 0

-- "length 2-5, list length 7-8"
abbrev pub listed_saying : ℕ → Op → Came → ℕ → ℕ → ℕ → Command
listed_saying code o a flags count list = saying code o a flags 0 count list 0 0

-- ---- the CDBs, each with byte 1 given

-- a CDB says nothing of how its command came
abbrev pub anyhow : Came
anyhow = to 0

-- Sec Ctl 00 or 10
abbrev pub Together : ℕ → Type 0
Together sec = (sec ≡ 0) ⊎ (sec ≡ 2)

-- "28h, .. | READ(10), .. | 10"
abbrev pub read_cdb : ℕ → ℕ → ℕ → List ℕ
read_cdb flags block count = cdb_of (ten_saying 0x28 Read anyhow flags block count)

-- ".. 2Ah | .. WRITE(10) | 10"
abbrev pub write_cdb : ℕ → ℕ → ℕ → List ℕ
write_cdb flags block count = cdb_of (ten_saying 0x2A Write anyhow flags block count)

-- "C1h | XPWRITE | 10", and 51h: by its code
abbrev pub xpwrite_cdb : ℕ → ℕ → ℕ → ℕ → List ℕ
xpwrite_cdb code flags block count = cdb_of (ten_saying code XpWrite anyhow flags block count)

-- "C2h | XDREAD | 10", and 52h: by its code; no bit of its byte 1 is named
abbrev pub xdread_cdb : ℕ → ℕ → ℕ → List ℕ
xdread_cdb code block count = cdb_of (ten_saying code XdRead anyhow 0 block count)

-- "XDWRITE(10) 50h", "XDWRITEREAD(10) 53h"
abbrev pub xdwrite_ten_cdb : ℕ → ℕ → ℕ → List ℕ
xdwrite_ten_cdb flags block count = cdb_of (ten_saying 0x50 XdWriteTen anyhow flags block count)

abbrev pub xdwriteread_cdb : ℕ → ℕ → ℕ → List ℕ
xdwriteread_cdb flags block count = cdb_of (ten_saying 0x53 XdWriteRead anyhow flags block count)

-- "C0h | XDWRITE | 16"
abbrev pub xdwrite_cdb : ℕ → ℕ → ℕ → ℕ → ℕ → List ℕ
xdwrite_cdb flags block count second spot = cdb_of (sixteen_saying 0xC0 XdWrite anyhow flags block count second spot)

-- "C3h | REBUILD | 10", and "C4h | REGENERATE | 10": of a list of n sources
abbrev pub rebuild_cdb : ℕ → ℕ → ℕ → List ℕ
rebuild_cdb flags count n = cdb_of (listed_saying 0xC3 Rebuild anyhow flags count (8 + 8 * n))

abbrev pub regenerate_cdb : ℕ → ℕ → ℕ → List ℕ
regenerate_cdb flags count n = cdb_of (listed_saying 0xC4 Regenerate anyhow flags count (8 + 8 * n))

-- each code says its operation; two say XPWRITE, and two XDREAD
pub codes_say :
    (op_of 0x28 ≡ Read)
    × (op_of 0x2A ≡ Write)
    × (op_of 0xC1 ≡ XpWrite)
    × (op_of 0x51 ≡ XpWrite)
    × (op_of 0xC2 ≡ XdRead)
    × (op_of 0x52 ≡ XdRead)
    × (op_of 0x50 ≡ XdWriteTen)
    × (op_of 0x53 ≡ XdWriteRead)
unfolding op_of
codes_say = (refl, refl, refl, refl, refl, refl, refl, refl)

-- ---- what is written is read

-- the bytes c are the CDB of a known operation o, and make a command that came as a the command k
pub record Says (a : Came) (c : List ℕ) (o : Op) (k : Command) : Type 0 where
  pub code : op_of (get_or c 0 0) ≡ o
  pub known : is_unknown o ≡ false
  pub size : length c ≡ size_of o
  pub fields : command_of o a c ≡ k

module _ (code : ℕ) (o : Op) (a : Came) (flags : ℕ) where
  ten_read : (block count : ℕ) → block < 4294967296 → count < 65536
      → ten_of o a (code ∷ flags ∷ to_be 4 block ++ 0 ∷ to_be 2 count ++ 0 ∷ []) ≡ ten_saying code o a flags block count
  unfolding ten_of part to_be
  ten_read block count b n = ap₂ (ten_saying code o a flags) (num_to_be_lt 4 block b) (num_to_be_lt 2 count n)

  listed_read : (count list : ℕ) → count < 4294967296 → list < 65536
      → listed_of o a (code ∷ flags ∷ to_be 4 count ++ 0 ∷ to_be 2 list ++ 0 ∷ []) ≡ listed_saying code o a flags count list
  unfolding listed_of part to_be
  listed_read count list n l = ap₂ (listed_saying code o a flags) (num_to_be_lt 4 count n) (num_to_be_lt 2 list l)

-- the 10-byte commands that name a block
pub ten_says : (code : ℕ) (o : Op) (a : Came) (flags block count : ℕ) → op_of code ≡ o → (has o).layout ≡ Some Ten → block < 4294967296 → count < 65536
    → Says a (cdb_of (ten_saying code o anyhow flags block count)) o (ten_saying code o a flags block count)
unfolding to_be
ten_says code o a flags block count q l b n =
    let e = bytes_by_lem (ten_saying code o anyhow flags block count) (Some Ten) l in
    record {
      code = ap (λ (c : List ℕ). op_of (get_or c 0 0)) e ∙ q;
      known = ap (λ (x : Option Layout). eqb (size_by x) 0) l;
      size = ap length e ∙ sym (ap size_by l);
      fields = ap₂ (λ (x : Option Layout) (c : List ℕ). command_by x o a c) l e ∙ ten_read code o a flags block count b n;
    }

module _ (a : Came) (flags count list : ℕ) (c : count < 4294967296) (l : list < 65536) where
  pub rebuild_says : Says a (cdb_of (listed_saying 0xC3 Rebuild anyhow flags count list)) Rebuild (listed_saying 0xC3 Rebuild a flags count list)
  unfolding cdb_of op_of to_be
  rebuild_says = record { code = refl; known = refl; size = refl; fields = listed_read 0xC3 Rebuild a flags count list c l }

  pub regenerate_says : Says a (cdb_of (listed_saying 0xC4 Regenerate anyhow flags count list)) Regenerate (listed_saying 0xC4 Regenerate a flags count list)
  unfolding cdb_of op_of to_be
  regenerate_says = record { code = refl; known = refl; size = refl; fields = listed_read 0xC4 Regenerate a flags count list c l }

pub xdwrite_says : (a : Came) (flags block count second spot : ℕ)
    → block < 4294967296 → count < 65536 → second < 16777216 → spot < 4294967296
    → Says a (xdwrite_cdb flags block count second spot) XdWrite (sixteen_saying 0xC0 XdWrite a flags block count second spot)
unfolding cdb_of op_of sixteen_of part to_be
xdwrite_says a flags block count second spot b n s p =
    record {
      code = refl;
      known = refl;
      size = refl;
      fields = ap₂ (λ (x y : ℕ). sixteen_saying 0xC0 XdWrite a flags x y (num (to_be 3 second)) (num (to_be 4 spot))) (num_to_be_lt 4 block b) (num_to_be_lt 2 count n)
          ∙ ap₂ (sixteen_saying 0xC0 XdWrite a flags block count) (num_to_be_lt 3 second s) (num_to_be_lt 4 spot p);
    }

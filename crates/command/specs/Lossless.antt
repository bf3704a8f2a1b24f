-- Nothing is lost: a CDB can be written back from its command.
use Rattle.std.specs.Prelude.{ℕ, ◌+◌, ◌≤◌, ◌<◌, List, [], ◌∷◌, ◌++◌, ◌≡◌, refl, length, get_or, Option, Some, None}
use Rattle.std.proofs.Common.{zero-add, arith, sym, ◌∙◌}
use Rattle.std.proofs.Math.Path.{ap}
use Rattle.octets.specs.Octets.{Octets}
use Rattle.octets.specs.Part.{part, part_snoc, part_all}
use Rattle.octets.specs.Number.{be, to_be, be_on}
use Rattle.drives.specs.declared.Came.{Came}
use Rattle.command.specs.declared.Op.{Op}
use Rattle.command.specs.declared.Command.{Command}
use Rattle.command.specs.declared.Layout.{Layout}
use Rattle.command.specs.declared.Layout.TheVariants.{Sixteen, Ten, ByList}
use Rattle.command.specs.Command.{has, size_by, size_of, sixteen_of, ten_of, listed_of, command_by, command_of}

-- a decoded command keeps its operation, and how it came
by_kept : (l : Option Layout) (o : Op) (a : Came) (c : List ℕ) → ((command_by l o a c).op ≡ o) × ((command_by l o a c).came ≡ a)
unfolding sixteen_of ten_of listed_of
by_kept (Some Sixteen) o a c = (refl, refl)
by_kept (Some Ten) o a c = (refl, refl)
by_kept (Some ByList) o a c = (refl, refl)
by_kept None o a c = (refl, refl)

pub command_kept : (o : Op) (a : Came) (c : List ℕ) → ((command_of o a c).op ≡ o) × ((command_of o a c).came ≡ a)
command_kept o = by_kept (has o).layout o

-- ---- the CDB

abbrev head_of : Command → List ℕ
head_of k = k.code ∷ k.flags ∷ []

abbrev sixteen_bytes : Command → List ℕ
sixteen_bytes k = head_of k ++ to_be 4 k.block.0 ++ to_be 2 k.count ++ to_be 3 k.second.0 ++ to_be 4 k.spot.0 ++ k.control ∷ []

abbrev ten_bytes : Command → List ℕ
ten_bytes k = head_of k ++ to_be 4 k.block.0 ++ k.six ∷ [] ++ to_be 2 k.count ++ k.control ∷ []

abbrev listed_bytes : Command → List ℕ
listed_bytes k = head_of k ++ to_be 4 k.count ++ k.six ∷ [] ++ to_be 2 k.list ++ k.control ∷ []

abbrev pub bytes_by : Option Layout → Command → List ℕ
bytes_by (Some Sixteen) k = sixteen_bytes k
bytes_by (Some Ten) k = ten_bytes k
bytes_by (Some ByList) k = listed_bytes k
bytes_by None k = []

-- the bytes that a command is written as
unfoldable pub cdb_of : Command → List ℕ
cdb_of k = bytes_by (has k.op).layout k

pub bytes_by_lem : (k : Command) (l : Option Layout) → (has k.op).layout ≡ l → cdb_of k ≡ bytes_by l k
unfolding cdb_of
bytes_by_lem k l e = ap (λ (x : Option Layout). bytes_by x k) e

module _ (a : Came) (c : List ℕ) (b : Octets c) where
  -- the front of the CDB is written: a byte more (a number more is `be_on`)
  byte : (n : ℕ) {xs : List ℕ} → n < length c → xs ≡ part c 0 n → xs ++ get_or c n 0 ∷ [] ≡ part c 0 (n + 1)
  byte n h e = ap (λ (r : List ℕ). r ++ get_or c n 0 ∷ []) e ∙ sym (rw zero-add at (part_snoc c 0 n (omega arith)))

  head : 2 ≤ length c → get_or c 0 0 ∷ get_or c 1 0 ∷ [] ≡ part c 0 2
  unfolding part
  head h = byte 1 (omega arith) (byte 0 {xs = []} (omega arith) refl)

  all : (n : ℕ) → length c ≡ n → part c 0 n ≡ c
  all n l = ap (part c 0) (sym l) ∙ part_all c

  sixteen_back : length c ≡ 16
      → get_or c 0 0 ∷ get_or c 1 0 ∷ [] ++ to_be 4 (be 4 c 2) ++ to_be 2 (be 2 c 6) ++ to_be 3 (be 3 c 8) ++ to_be 4 (be 4 c 11) ++ get_or c 15 0 ∷ [] ≡ c
  sixteen_back l =
      byte 15 (omega arith)
      (be_on c b 4 11 (omega arith) (be_on c b 3 8 (omega arith) (be_on c b 2 6 (omega arith) (be_on c b 4 2 (omega arith) (head (omega arith))))))
      ∙ all 16 l

  ten_back : length c ≡ 10
      → get_or c 0 0 ∷ get_or c 1 0 ∷ [] ++ to_be 4 (be 4 c 2) ++ get_or c 6 0 ∷ [] ++ to_be 2 (be 2 c 7) ++ get_or c 9 0 ∷ [] ≡ c
  ten_back l = byte 9 (omega arith) (be_on c b 2 7 (omega arith) (byte 6 (omega arith) (be_on c b 4 2 (omega arith) (head (omega arith))))) ∙ all 10 l

  by_layout : (l : Option Layout) (o : Op) → length c ≡ size_by l → bytes_by l (command_by l o a c) ≡ c
  unfolding sixteen_of ten_of listed_of part
  by_layout (Some Sixteen) o l = sixteen_back l
  by_layout (Some Ten) o l = ten_back l
  by_layout (Some ByList) o l = ten_back l
  by_layout None o l = all 0 l

  -- a CDB of a command's length is what the command is written as
  pub lossless : (o : Op) → length c ≡ size_of o → cdb_of (command_of o a c) ≡ c
  unfolding cdb_of
  lossless o l = ap (λ (x : Op). bytes_by (has x).layout (command_of o a c)) (command_kept o a c).0 ∙ by_layout (has o).layout o l

-- two CDBs that say the same are the same
pub same_cdb : (o : Op) (a a' : Came) (c c' : List ℕ) → Octets c → Octets c' → length c ≡ size_of o → length c' ≡ size_of o → command_of o a c ≡ command_of o a' c' → c ≡ c'
same_cdb o a a' c c' b b' l l' e = sym (lossless a c b o l) ∙ ap cdb_of e ∙ lossless a' c' b' o l'

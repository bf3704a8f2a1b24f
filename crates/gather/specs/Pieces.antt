-- A piece of the XOR: k bytes of each operand, from byte o of it on.
use Rattle.std.specs.Prelude.{ℕ, ◌+◌, ◌<◌, ◌≡◌, Bool, cond, List, [], length, get_or, replicate, Option, Some, None}
use Rattle.octets.specs.Part.{part}
use Rattle.octets.specs.Xor.{◌⊻◌}
use Rattle.octets.specs.Operands.{xor_all}
use Rattle.geometry.specs.declared.Geometry.{Geometry}
use Rattle.command.specs.Command.{source_of}
use Rattle.meaning.specs.Acts.{start_of, sources_from}
use Rattle.gather.specs.declared.Job.{Job}
use Rattle.gather.specs.Job.{size, own_blocks}

-- the entries left, from entry i on
abbrev pub entries_from : List ℕ → Geometry → List ℕ → Job → ℕ → ℕ → List (List ℕ)
entries_from s g sent j i left = sources_from s g j.sum.came sent j.count i left

-- the XOR of all operands that lie in the image
unfoldable pub in_image : List ℕ → Geometry → List ℕ → Job → List ℕ
in_image s g sent j = own_blocks s j.own (size g j) ⊻ xor_all (entries_from s g sent j 0 j.sources)

-- what the plain path XORs the sources to
unfoldable pub seed_piece : List ℕ → Option ℕ → ℕ → ℕ → List ℕ
seed_piece s None o k = replicate k 0
seed_piece s (Some from) o k = part s (from + o) k

-- the intermediate data, where there is any, from index at on
unfoldable pub int_piece : Bool → List ℕ → ℕ → ℕ → List ℕ
int_piece int sent at k = cond int (part sent at k) []

-- ---- where the operands in the image start

-- how many operands the target's own blocks are
abbrev pub own_count : Option ℕ → ℕ
own_count None = 0
own_count (Some from) = 1

-- the places of all: of the sources in their order and, behind them, of the target's own blocks, where there are such
pub record AllKnown (s : List ℕ) (g : Geometry) (sent : List ℕ) (j : Job) (places : List ℕ) : Type 0 where
  pub all : length places ≡ j.sources + own_count j.own
  pub source : (i : ℕ) → i < j.sources → get_or places i 0 ≡ start_of s g j.sum.came (source_of sent i)
  pub own : (from : ℕ) → j.own ≡ Some from → get_or places j.sources 0 ≡ from

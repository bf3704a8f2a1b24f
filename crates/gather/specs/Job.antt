-- What a job leaves, and what it needs.
use Rattle.std.specs.Prelude.{ℕ, ◌+◌, ◌*◌, ◌≤◌, ◌<◌, ◌≡◌, true, List, [], length, get_or, Option, Some, None}
use Rattle.octets.specs.Part.{part, Apart}
use Rattle.octets.specs.Xor.{◌⊻◌}
use Rattle.geometry.specs.declared.Geometry.{Geometry}
use Rattle.geometry.specs.Frame.{Framed}
use Rattle.drives.specs.declared.Came.{Came}
use Rattle.command.specs.declared.Source.{Source}
use Rattle.command.specs.Command.{source_of}
use Rattle.meaning.specs.Acts.{home_of, start_of, gathered}
use Rattle.gather.specs.declared.Job.{Job}

-- how many bytes each operand has
abbrev pub size : Geometry → Job → ℕ
size g j = j.count * g.l

-- the n bytes of the target's own blocks, where there are such
abbrev pub own_blocks : List ℕ → Option ℕ → ℕ → List ℕ
own_blocks s None n = []
own_blocks s (Some from) n = part s from n

-- the XOR of all operands: the target's own blocks (REGENERATE) may be one
unfoldable pub summed : List ℕ → Geometry → List ℕ → Job → List ℕ
summed s g sent j = own_blocks s j.own (size g j) ⊻ gathered s g sent j.count j.sum

-- ---- what the code needs

-- a source names a block of a drive, or a drive's end
pub record Named (s : List ℕ) (g : Geometry) (a : Came) (x : Source) : Type 0 where
  pub drive_in : home_of s g a x < g.d
  pub block_in : x.block.0 ≤ g.b

-- and so does each of the first n entries of a list
pub record Listed (s : List ℕ) (g : Geometry) (a : Came) (sent : List ℕ) (n : ℕ) : Type 0 where
  pub frame : Framed s g
  pub few : n < 256
  pub long : 8 + 8 * n ≤ length sent
  pub each : (i : ℕ) → i < n → Named s g a (source_of sent i)

-- every operand lies in the image, or among the bytes sent
pub record Readable (s : List ℕ) (g : Geometry) (sent : List ℕ) (j : Job) : Type 0 where
  pub listed : Listed s g j.sum.came sent j.sources
  pub counted : j.sources ≡ get_or sent 0 0
  pub some_source : 1 ≤ j.sources
  pub exact : j.sum.int ≡ true → length sent ≡ 8 + 8 * j.sources + size g j
  pub own_in : (from : ℕ) → j.own ≡ Some from → from + size g j ≤ length s
  pub inside : (i : ℕ) → i < j.sources → start_of s g j.sum.came (source_of sent i) + size g j ≤ length s

-- and apart from where the XOR goes, and so does what says where each lies
pub record Ready (s : List ℕ) (g : Geometry) (sent : List ℕ) (j : Job) : Type 0 where
  pub readable : Readable s g sent j
  pub past_table : g.slots ≤ j.to
  pub to_in : j.to + size g j ≤ length s
  pub own_apart : (from : ℕ) → j.own ≡ Some from → Apart from j.to (size g j)
  pub apart : (i : ℕ) → i < j.sources → Apart (start_of s g j.sum.came (source_of sent i)) j.to (size g j)

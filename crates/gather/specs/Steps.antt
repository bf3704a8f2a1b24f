-- How the code finds an operand, step by step: no proof needs it, and it holds of what the code does.
use Prim.Native.Nat.{ℕ, ◌+◌, ◌≤◌, ◌<◌}
use Rattle.std.proofs.Common.{arith, ◌∙◌}
use Rattle.std.specs.Prelude.{◌≡◌, length, replicate, Option, Some, None}
use Rattle.std.proofs.Math.Path.{ap}
use mathlib.Core.List.{List}
use Rattle.octets.specs.Part.{part}
use Rattle.geometry.specs.declared.Geometry.{Geometry}
use Rattle.geometry.specs.Header.{place}
use Rattle.drives.specs.declared.Came.{Came}
use Rattle.drives.specs.Table.{source_drive}
use Rattle.command.specs.declared.Source.{Source}
use Rattle.command.specs.Command.{source_of}
use Rattle.folds.specs.Least.{index}
use Rattle.meaning.specs.Acts.{home_of, start_of}
use Rattle.gather.specs.declared.Job.{Job}
use Rattle.gather.specs.Job.{size, Named, Listed, Readable}
use Rattle.gather.specs.Pieces.{own_count, seed_piece}

-- ---- one source

module _ (s : List ℕ) (g : Geometry) (a : Came) (x : Source) (f : Option ℕ) (d : ℕ) (fe : f ≡ source_drive s g a x.address.0) (de : d ≡ index f) where
  home_by : d ≡ home_of s g a x
  home_by = de ∙ ap index fe

  pub drive_by : home_of s g a x < g.d → d < g.d
  drive_by h = omega (arith, home_by)

  pub start_by : (p : ℕ) → p ≡ place g d x.block.0 → p ≡ start_of s g a x
  start_by p e = e ∙ ap (λ (i : ℕ). place g i x.block.0) home_by

pub entry_named : (s : List ℕ) (g : Geometry) (a : Came) (sent : List ℕ) (n i : ℕ) (x : Source) → Listed s g a sent n → i < n → x ≡ source_of sent i → Named s g a x
entry_named s g a sent n i x h l e = rw e (h.each i l)

-- where the blocks of entry i start, as the code finds it
pub entry_in : (s : List ℕ) (g : Geometry) (sent : List ℕ) (j : Job) (i at : ℕ) (x : Source) → Readable s g sent j → i < j.sources → x ≡ source_of sent i
    → at ≡ start_of s g j.sum.came x → at + size g j ≤ length s
entry_in s g sent j i at x r l xe pe = omega (arith, pe ∙ ap (start_of s g j.sum.came) xe, r.inside i l)

-- ---- the target's own blocks

few : (own : Option ℕ) → own_count own ≤ 1
few (Some from) = omega arith
few None = omega arith

module _ (s : List ℕ) (own : Option ℕ) (from o k : ℕ) where
  pub seed_own : own ≡ Some from → part s (from + o) k ≡ seed_piece s own o k
  unfolding seed_piece
  seed_own e = rw e

  pub seed_zeros : own ≡ None → replicate k 0 ≡ seed_piece s own o k
  unfolding seed_piece
  seed_zeros e = rw e

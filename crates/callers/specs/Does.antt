-- What a caller's laws speak of: blocks of a drive, a drive that is called, and what a call that is GOOD leaves.
pub use Rattle.demands_one_two.specs.Effects.{result_in}
use Rattle.std.specs.Prelude.{ℕ, ◌<◌, Bool, false, ◌≡◌, List, length, eqb, Some}
use Rattle.std.proofs.Common.{arith, ap, ◌∙◌}
use Rattle.octets.specs.Put.{put}
use Rattle.octets.specs.Octets.{Octets}
use Rattle.geometry.specs.declared.Geometry.{Geometry}
use Rattle.drives.specs.declared.Came.{Came}
use Rattle.drives.specs.Table.{state_of, address_of, to, target_of, secondary_of, failed}
use Rattle.drives.specs.Facts.{address_lt}
use Rattle.drives.specs.Lookup.{drive_found, drive_inside}
use Rattle.results.specs.Results.{Result}
use Rattle.image.specs.Shelf.{Shelf, shelf_frame}
use Rattle.sense.specs.declared.Answer.TheVariants.{Good}
use Rattle.sense.specs.Sense.{outcome_of}
use Rattle.meaning.specs.declared.Span.{Span}
use Rattle.meaning.specs.declared.Summing.{Summing}
use Rattle.meaning.specs.Acts.{Over}
use Rattle.meaning.specs.Step.{step_outcome, step_room, step_image}
use Rattle.callers.specs.After.{After}
use Rattle.drives.specs.Front.{drive_ext}

-- what is summed by a command that came as a, with Int Data or not
abbrev pub summing : Came → Bool → Summing
summing a int = record { int = int; came = a }

-- n blocks of drive t from block b on
abbrev pub blocks : ℕ → ℕ → ℕ → Span
blocks t b n = record { drive = t; block = record { 0 = b }; count = n }

-- on image m a command that came as a, CDB c with data-out bytes s and receive room r, is GOOD: the bytes ys go to the room's front, and
-- afterwards the blocks ws are written and the results rs retained
pub record Does (m : List ℕ) (g : Geometry) (a : Came) (c s r ys : List ℕ) (ws : List Over) (rs : List Result) : Type 0 where
  pub outcome : step_outcome m a c s r ≡ outcome_of Good (length ys)
  pub room : step_room m a c s r ≡ put r 0 ys
  pub after : After m (step_image m a c s r) g (state_of m g) ws rs

-- a command that came as a was sent to drive t of the valid image m, which is present
pub record Target (m : List ℕ) (g : Geometry) (a : Came) (t : ℕ) : Type 0 where
  pub shelf : Shelf m g
  pub found : target_of m g a ≡ Some t
  pub present : failed m g t ≡ false

-- a drive by its own address
pub own_address : (m : List ℕ) (g : Geometry) (t : ℕ) → Shelf m g → t < g.d → failed m g t ≡ false → Target m g (to (address_of m g t)) t
own_address m g t h l e = record { shelf = h; found = drive_found m g h.table_fine t l; present = e }

-- an address of an image of bytes fits the three bytes of XDWRITE's CDB
pub address_fits : (m : List ℕ) (g : Geometry) → Shelf m g → Octets m → (a : Came) (x t : ℕ) → secondary_of m g a x ≡ Some t → x < 16777216
address_fits m g h o a x t e = let w = drive_inside m g x t e in omega (arith, address_lt m g (shelf_frame m g h) o t w.0, w.1)

-- a command leaves the drives as they were, so that the next one finds its target
pub next : (m m' : List ℕ) (g : Geometry) (ws : List Over) (rs : List Result) → After m m' g (state_of m g) ws rs → (a : Came) (t : ℕ) → Target m g a t → Target m' g a t
next m m' g ws rs d a t h =
    record {
      shelf = d.shelf;
      found = drive_ext m' m g d.address_kept a.target.0 ∙ h.found;
      present = ap (λ (k : ℕ). eqb k 1) (d.state_is t (drive_inside m g a.target.0 t h.found).0) ∙ h.present;
    }

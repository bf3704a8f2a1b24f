-- What lies before the slots decides header and table: a change from the slots on leaves both.
use Rattle.std.specs.Prelude.{ℕ, ◌+◌, ◌≤◌, ◌<◌, List, not, ◌≡◌}
use Rattle.std.proofs.Common.{arith, ap₂}
use Rattle.std.proofs.Math.Path.{ap}
use Rattle.std.proofs.Math.Dec.{leb, eqb}
use Rattle.octets.specs.Part.{part, front_byte}
use Rattle.octets.specs.Put.{put}
use Rattle.octets.specs.PutPut.{part_put_below}
use Rattle.octets.specs.Number.{front_be}
use Rattle.folds.specs.Every.{every_ext}
use Rattle.folds.specs.All.{all_ext}
use Rattle.folds.proofs.Least.{least_ext}
use Rattle.rules.specs.Must.{tests_of}
use Rattle.geometry.specs.declared.Geometry.{Geometry}
use Rattle.geometry.specs.Header.{geometry_of, entry_at}
use Rattle.geometry.specs.Frame.{Placed}
use Rattle.geometry.specs.Kept.{front_geometry}
use Rattle.drives.specs.Table.{state_of, address_of, failed, new_address, entry_musts, table_ok, drive_of}

-- ---- the table is its entries

module _ (s t : List ℕ) (g : Geometry) where
  module _ (h : (i : ℕ) → i < g.d → address_of s g i ≡ address_of t g i) where
    pub new_ext : (i : ℕ) → i < g.d → new_address s g i ≡ new_address t g i
    new_ext i l = all_ext _ _ i (λ j lj. ap₂ (λ (a b : ℕ). not (eqb a b)) (h j (omega arith)) (h i l))

    pub drive_ext : (a : ℕ) → drive_of s g a ≡ drive_of t g a
    unfolding drive_of
    drive_ext a = least_ext _ _ g.d (λ i l. ap (λ (k : ℕ). eqb k a) (h i l))

-- ---- s and t agree up to the slots

abbrev pub SameFront : List ℕ → List ℕ → Geometry → Type 0
SameFront s t g = part s 0 g.slots ≡ part t 0 g.slots

-- after a write at the slots or past them
pub front_put : (s : List ℕ) (g : Geometry) (at : ℕ) (ys : List ℕ) → g.slots ≤ at → SameFront (put s at ys) s g
front_put s g at ys h = part_put_below s at ys 0 g.slots (omega arith)

module _ (s t : List ℕ) (g : Geometry) (p : Placed g) (e : SameFront s t g) where
  pub state_same : (i : ℕ) → i < g.d → state_of s g i ≡ state_of t g i
  state_same i l = front_byte s t g.slots e (entry_at g i) (omega arith)

  pub failed_same : (i : ℕ) → i < g.d → failed s g i ≡ failed t g i
  failed_same i l = ap (λ (k : ℕ). eqb k 1) (state_same i l)

  pub address_same : (i : ℕ) → i < g.d → address_of s g i ≡ address_of t g i
  address_same i l = front_be s t g.slots e 3 (entry_at g i + 1) (omega arith)

  pub drive_same : (a : ℕ) → drive_of s g a ≡ drive_of t g a
  drive_same = drive_ext s t g address_same

  pub table_same : table_ok s g ≡ table_ok t g
  unfolding table_ok
  table_same =
      all_ext _ _ g.d (λ i l. every_ext (tests_of (entry_musts s g i)) (tests_of (entry_musts t g i)) (ap (λ (k : ℕ). leb k 1) (state_same i l), (new_ext s t g address_same i l, tt)))

  pub geometry_same : geometry_of s ≡ geometry_of t
  geometry_same = front_geometry s t g.slots e (omega arith)

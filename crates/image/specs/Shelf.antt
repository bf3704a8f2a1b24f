-- What a valid image's tests say, by name, and what keeps an image valid.
use Rattle.std.specs.Prelude.{◌≡◌, List, true, ℕ, length}
use Rattle.std.proofs.Common.{subst, ◌∙◌}
use Rattle.geometry.specs.declared.Geometry.{Geometry}
use Rattle.geometry.specs.Header.{geometry_of, framed_ok}
use Rattle.geometry.specs.Frame.{Framed, framed}
use Rattle.geometry.specs.Kept.{framed_alike}
use Rattle.drives.specs.Table.{table_ok}
use Rattle.drives.specs.Front.{SameFront, table_same, geometry_same}
use Rattle.slots.specs.Slots.{slots_ok}

-- m is a valid image with geometry g
pub record Shelf (m : List ℕ) (g : Geometry) : Type 0 where
  pub header : geometry_of m ≡ g
  pub framed_fine : framed_ok m ≡ true
  pub table_fine : table_ok m g ≡ true
  pub slots_fine : slots_ok m g ≡ true

pub shelf_frame : (m : List ℕ) (g : Geometry) → Shelf m g → Framed m g
shelf_frame m g h = subst (Framed m) h.header (framed m h.framed_fine)

-- a change from the slots on that leaves the slots right
pub shelf_kept : (m t : List ℕ) (g : Geometry) → Shelf m g → length t ≡ length m → SameFront t m g → slots_ok t g ≡ true → Shelf t g
shelf_kept m t g h n e ok =
    let p = (shelf_frame m g h).placed in
    let q : geometry_of t ≡ geometry_of m = geometry_same t m g p e in
    record {
      header = q ∙ h.header;
      framed_fine = framed_alike t m n q ∙ h.framed_fine;
      table_fine = table_same t m g p e ∙ h.table_fine;
      slots_fine = ok;
    }

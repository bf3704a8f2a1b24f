-- A valid image's tests hold, by name: it is a shelf, and a shelf is valid.
use Rattle.std.specs.Prelude.{◌≡◌, refl, List, [], ◌∷◌, ◌++◌, Bool, true, false, cond, ℕ, ◌≤◌, length}
use Rattle.std.proofs.Common.{sym, ap, ap₂, subst, ◌∙◌}
use Rattle.folds.specs.Every.{every, holds, every_of}
use Rattle.folds.specs.All.{all_ext}
use Rattle.folds.specs.Tests.{cond_self}
use Rattle.rules.specs.Must.{tests_of, each_below, none_broken, every_either, every_both, every_below}
use Rattle.geometry.specs.declared.Geometry.{Geometry}
use Rattle.geometry.specs.Header.{geometry_of, header_musts, framed_ok}
use Rattle.geometry.specs.Frame.{Framed, framed_long, header_ok}
use Rattle.drives.specs.Table.{entry_musts, table_ok}
use Rattle.slots.specs.Record.{slot_of, is_used}
use Rattle.slots.specs.Slots.{slot_ok, used_count, new_rank, slot_musts, slots_ok}
use Rattle.image.specs.Valid.{image_musts, valid_image}
use Rattle.image.specs.Shelf.{Shelf, shelf_frame}

-- no rule applies where the three groups of tests hold, as the code makes them
pub valid_is : (m : List ℕ) → valid_image m ≡ every (framed_ok m ∷ table_ok m (geometry_of m) ∷ slots_ok m (geometry_of m) ∷ [])
unfolding valid_image table_ok slots_ok every
valid_is m =
    let g = geometry_of m in
    let table = each_below g.d (entry_musts m g) in
    let slots = each_below g.s (slot_musts m g) in
    let both : Bool → Bool → Bool = (λ a b. cond a b false) in
    none_broken (image_musts m)
    ∙ every_both (header_musts m) (table ++ slots)
    ∙ ap₂ both (header_ok m)
    (every_both table slots
    ∙ ap₂ both (every_below g.d (entry_musts m g))
    (every_below g.s (slot_musts m g)
    ∙ all_ext (λ i. every (tests_of (slot_musts m g i))) (λ i. slot_ok g (used_count m g) (new_rank (slot_of m g) i) (slot_of m g i)) g.s (λ i l. every_either (is_used (slot_of m g i)) _ _)
    ∙ sym (cond_self (slots_ok m g))))

pub shelf : (m : List ℕ) → valid_image m ≡ true → Shelf m (geometry_of m)
shelf m v = let e = sym (valid_is m) ∙ v in record { header = refl; framed_fine = holds _ 0 e; table_fine = holds _ 1 e; slots_fine = holds _ 2 e }

pub shelf_valid : (m : List ℕ) (g : Geometry) → Shelf m g → valid_image m ≡ true
shelf_valid m g h =
    valid_is m
    ∙ every_of _ (
      h.framed_fine,
      (ap (table_ok m) h.header ∙ h.table_fine, (ap (slots_ok m) h.header ∙ h.slots_fine, tt)),
    )

-- as the code reads the header of a valid image
pub valid_long : (m : List ℕ) → valid_image m ≡ true → 32 ≤ length m
valid_long m e = framed_long m (shelf m e).framed_fine

pub valid_framed : (m : List ℕ) (g : Geometry) → valid_image m ≡ true → g ≡ geometry_of m → Framed m g
valid_framed m g e h = subst (Framed m) (sym h) (shelf_frame m (geometry_of m) (shelf m e))

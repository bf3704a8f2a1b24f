-- An image is valid (01, "The image"): call 1 is the answer to any other.
use Rattle.std.specs.Prelude.{ℕ, List, ◌++◌, Bool, true, false}
use Rattle.rules.specs.Rule.{first}
use Rattle.rules.specs.Must.{Must, broken, each_below}
use Rattle.geometry.specs.Header.{Site, geometry_of, header_musts}
use Rattle.drives.specs.Table.{entry_musts}
use Rattle.slots.specs.Slots.{slot_musts}

-- what must hold, in the image's byte order: the header with offsets and length, the drive table, the slots; "its data may be anything", and
-- the media too
abbrev pub image_musts : List ℕ → List (Must Site)
image_musts m =
    header_musts m ++ (each_below (geometry_of m).d (entry_musts m (geometry_of m)) ++ each_below (geometry_of m).s (slot_musts m (geometry_of m)))

-- no rule applies
unfoldable pub valid_image : List ℕ → Bool
valid_image m = first (λ n w a. false) (broken (image_musts m)) true

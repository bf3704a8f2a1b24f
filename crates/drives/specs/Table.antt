-- 01: "Drive table at 32: per drive 4 bytes, state (0 present, 1 failed) and a 3-byte address. Addresses differ."
use Rattle.std.specs.Prelude.{ℕ, ◌+◌, List, [], ◌∷◌, Bool, not, get_or, leb, eqb, Option}
use Rattle.octets.specs.Number.{be}
use Rattle.folds.specs.Every.{every}
use Rattle.folds.specs.All.{all_below}
use Rattle.folds.specs.Least.{least_below}
use Rattle.geometry.specs.declared.Geometry.{Geometry}
use Rattle.rules.specs.Must.{Must, must, tests_of}
use Rattle.geometry.specs.Header.{Site, Byte, entry_at}
use Rattle.geometry.specs.Stores.{Store, store, Table, stored}
use Rattle.drives.specs.declared.Came.{Came}

-- "per drive 4 bytes, state .. and a 3-byte address"
abbrev pub state_of : List ℕ → Geometry → ℕ → ℕ
state_of m g i = get_or m (entry_at g i) 0

abbrev pub address_of : List ℕ → Geometry → ℕ → ℕ
address_of m g i = be 3 m (entry_at g i + 1)

-- "1 failed"
abbrev pub failed : List ℕ → Geometry → ℕ → Bool
failed m g i = eqb (state_of m g i) 1

-- "Addresses differ.": drive i's is none of an earlier drive
abbrev pub new_address : List ℕ → Geometry → ℕ → Bool
new_address m g i = all_below i (λ j. not (eqb (address_of m g j) (address_of m g i)))

-- drive i's entry: "state (0 present, 1 failed)", and its address, seen where it repeats
abbrev pub entry_musts : List ℕ → Geometry → ℕ → List (Must Site)
entry_musts m g i = must (Byte (entry_at g i)) (leb (state_of m g i) 1) ∷ must (Byte (entry_at g i + 1)) (new_address m g i) ∷ []

-- every entry is right
unfoldable pub table_ok : List ℕ → Geometry → Bool
table_ok m g = all_below g.d (λ i. every (tests_of (entry_musts m g i)))

-- the drive with address a, compared as a whole number
unfoldable pub drive_of : List ℕ → Geometry → ℕ → Option ℕ
drive_of m g a = least_below g.d (λ i. eqb (address_of m g i) a)

-- a command that was sent to address n
abbrev pub to : ℕ → Came
to n = record { target = record { 0 = n } }

-- the drive that a command was sent to, the one that it names as its secondary, and the one that a source entry of it names
abbrev pub target_of : List ℕ → Geometry → Came → Option ℕ
target_of m g a = drive_of m g a.target.0

abbrev pub secondary_of : List ℕ → Geometry → Came → ℕ → Option ℕ
secondary_of m g a x = drive_of m g x

abbrev pub source_drive : List ℕ → Geometry → Came → ℕ → Option ℕ
source_drive m g a x = drive_of m g x

-- "Marking writes the state byte alone"
abbrev pub mark_stores : Geometry → ℕ → ℕ → List Store
mark_stores g i state = store Table (entry_at g i) (state ∷ []) ∷ []

unfoldable pub marked : List ℕ → Geometry → ℕ → ℕ → List ℕ
marked m g i state = stored m (mark_stores g i state)

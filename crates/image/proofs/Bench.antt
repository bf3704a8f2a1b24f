-- The bench shelf is valid; what spoils it, and where that is seen first.
use Rattle.std.specs.Prelude.{ℕ, List, ◌++◌, true, false, ◌≡◌, refl, set, take, drop, Option, Some, None}
use Rattle.octets.specs.Part.{part}
use Rattle.octets.specs.Number.{num}
use Rattle.folds.specs.Every.{every}
use Rattle.folds.specs.All.{all_below}
use Rattle.folds.specs.Count.{count_below}
use Rattle.rules.specs.Rule.{first}
use Rattle.rules.specs.Must.{broken}
use Rattle.geometry.specs.Header.{Site, Length, Byte, framed_ok, slot_at}
use Rattle.drives.specs.Table.{table_ok}
use Rattle.slots.specs.Record.{slot_of}
use Rattle.slots.specs.Slots.{slots_ok}
use Rattle.image.specs.Valid.{image_musts, valid_image}
use Rattle.image.specs.Shelf.{Shelf}
use Rattle.image.proofs.Shelf.{shelf_valid}
use Rattle.image.specs.Bench.{zeros, holding, bench, after_c2, bench_shape}

pub bench_shelf : Shelf bench bench_shape
unfolding framed_ok table_ok slots_ok slot_of slot_at every all_below count_below part num
bench_shelf = record { header = refl; framed_fine = refl; table_fine = refl; slots_fine = refl }

pub bench_valid : valid_image bench ≡ true
bench_valid = shelf_valid bench bench_shape bench_shelf

-- drive 1 with drive 0's address; a state of 2; a slot's offset one off; one byte cut off
pub spoilt_not :
    (valid_image (set bench 39 1) ≡ false)
    × (valid_image (set bench 36 2) ≡ false)
    × (valid_image (set bench 27 45) ≡ false)
    × (valid_image (take 91 bench) ≡ false)
unfolding valid_image slot_of slot_at every all_below count_below part num
spoilt_not = (refl, refl, refl, refl)

-- where it is seen first that an image is not valid
abbrev seen : List ℕ → Option Site
seen m = first (λ n w a. Some w) (broken (image_musts m)) None

-- the bench shelf with two slots
abbrev two_slots : List ℕ → List ℕ → List ℕ
two_slots a b = take 44 (set (set bench 15 2) 31 92) ++ a ++ b ++ drop 68 bench

-- the bench shelf; 31 bytes; 40 bytes with D = 1; D = 4, S = 2 and B = 3, each by itself
-- a rank without a kind; a used slot of rank 0; ranks 2 and 1, the second of kind 5; two of rank 1
-- an address that repeats; a state of 2 before it, and behind it
pub seen_first :
    (seen bench ≡ None)
    × (seen (take 31 bench) ≡ Some Length)
    × (seen (take 40 (set bench 3 1)) ≡ Some (Byte 0))
    × (seen (set bench 3 4) ≡ Some (Byte 24))
    × (seen (set bench 15 2) ≡ Some (Byte 28))
    × (seen (set bench 7 3) ≡ Some Length)
    × (seen (set bench 47 1) ≡ Some (Byte 44))
    × (seen (set after_c2 47 0) ≡ Some (Byte 44))
    × (seen (two_slots (set (holding 1 0 zeros) 3 2) (holding 5 0 zeros)) ≡ Some (Byte 72))
    × (seen (two_slots (holding 1 0 zeros) (holding 1 0 zeros)) ≡ Some (Byte 68))
    × (seen (set bench 39 1) ≡ Some (Byte 37))
    × (seen (set (set bench 36 2) 43 1) ≡ Some (Byte 36))
    × (seen (set (set bench 39 1) 40 2) ≡ Some (Byte 37))
unfolding slot_of slot_at every all_below count_below part num
seen_first = (refl, refl, refl, refl, refl, refl, refl, refl, refl, refl, refl, refl, refl)

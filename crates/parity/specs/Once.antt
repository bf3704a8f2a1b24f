-- The bench shelf: two results with the same bytes, both owed while the row's sum is zero; each is carried once.
use Rattle.std.specs.Prelude.{true, ◌≡◌, refl, List, [], ◌∷◌, ◌++◌}
use mathlib.Core.List.Memᴰ
use Rattle.octets.specs.Part.{part}
use Rattle.octets.specs.Put.{put}
use Rattle.octets.specs.Xor.{◌⊻◌}
use Rattle.octets.specs.Operands.{xor_all}
use Rattle.octets.specs.Number.{num, to_be}
use Rattle.folds.specs.Every.{every}
use Rattle.folds.specs.All.{all_below}
use Rattle.folds.specs.Same.{same_list}
use Rattle.folds.specs.Count.{count_below}
use Rattle.folds.specs.Least.{least_below}
use Rattle.geometry.specs.Header.{slot_at, place}
use Rattle.drives.specs.Table.{drive_of, to}
use Rattle.slots.specs.Record.{slot_of, bytes_of}
use Rattle.slots.specs.Find.{empty_slot, better, best_of, newest_of}
use Rattle.slots.specs.Change.{released, lower_one, lowered}
use Rattle.results.specs.Lists.{keeping}
use Rattle.image.specs.Valid.{valid_image}
use Rattle.image.specs.Bench.{zeros, one, bench, fresh, result, bench_shape}
use Rattle.sums.specs.Row.{counts, summed_to, row_sum}
use Rattle.sums.specs.Share.{share}
use Rattle.command.specs.Command.{op_of, sixteen_of, ten_of}
use Rattle.meaning.specs.Checks.{decide_of}
use Rattle.meaning.specs.Step.{step_image}
use Rattle.meaning.specs.Calls.{Call, command, after_calls}
use Rattle.meaning.specs.Examples.Cases.{xdwrite, ten, room}
use Rattle.parity.specs.Ledger.{Fate, Read, Carried, Line, line, Fair, ledger}
use Rattle.parity.specs.Owed.{owed, carries_none}
use Rattle.parity.specs.Example.{of_first, third, carry_by, carries}

-- drive 1 gets new data and then its old block back; both results are read
abbrev pub twice : List Call
twice =
    command (to 1) (xdwrite 0x06) fresh room
    ∷ command (to 1) (ten 0xC2 0 1) [] room
    ∷ command (to 1) (xdwrite 0x06) one room
    ∷ command (to 1) (ten 0xC2 0 1) [] room
    ∷ []

-- the result, to drive 3
abbrev pub carry : Call
carry = carry_by 0xC1 result

abbrev pub pair : Fate → Fate → List Line
pair newer older = line (of_first result) true newer ∷ line (of_first result) true older ∷ []

-- what is owed cancels, and is owed all the same; one is carried, and then the other
pub twice_computed :
    (ledger twice bench ≡ pair Read Read)
    × (owed bench_shape 0 (pair Read Read) ≡ zeros)
    × (row_sum (after_calls twice bench) bench_shape 0 ≡ zeros)
    × (ledger (twice ++ carry ∷ []) bench ≡ pair Carried Read)
    × (row_sum (after_calls (twice ++ carry ∷ []) bench) bench_shape 0 ≡ result)
    × (ledger (twice ++ carry ∷ carry ∷ []) bench ≡ pair Carried Carried)
    × (row_sum (after_calls (twice ++ carry ∷ carry ∷ []) bench) bench_shape 0 ≡ zeros)
unfolding decide_of step_image valid_image slot_of slot_at place every all_below same_list count_below least_below drive_of empty_slot newest_of best_of better released lowered lower_one bytes_of part put num to_be ◌⊻◌ xor_all op_of sixteen_of ten_of row_sum summed_to counts owed keeping share
twice_computed = (refl, refl, refl, refl, refl, refl, refl)

pub twice_fair : Fair (twice ++ carry ∷ carry ∷ []) bench
unfolding decide_of step_image valid_image slot_of slot_at place every all_below same_list count_below least_below drive_of empty_slot newest_of best_of better released lowered lower_one bytes_of part put num to_be ◌⊻◌ xor_all op_of sixteen_of ten_of
twice_fair =
    ((λ e. refl), (tt, ((λ e. refl), (tt, (carries 0 result (pair Read Read) (Memᴰ.head refl), (carries 0 result (pair Carried Read) (Memᴰ.tail (Memᴰ.head refl)), tt))))))

-- a third time there is nothing to carry
pub thrice_not : Fair (twice ++ carry ∷ carry ∷ carry ∷ []) bench → ⊥
unfolding decide_of step_image valid_image slot_of slot_at place every all_below same_list count_below least_below drive_of empty_slot newest_of best_of better released lowered lower_one bytes_of part put num to_be ◌⊻◌ xor_all op_of sixteen_of ten_of
thrice_not f = carries_none third result (pair Carried Carried) (refl, (refl, tt)) f.1.1.1.1.1.1.0

-- The bench shelf with the published codes of 02, A1: a run that pays what it owes, mixed with a code of 01, and a REBUILD after it; then
-- a result of XDWRITEREAD that is owed until it is carried, once.
use Rattle.std.specs.Prelude.{ℕ, true, ◌≡◌, refl, List, [], ◌∷◌, ◌++◌}
use Rattle.std.proofs.Common.{sym, subst}
use mathlib.Core.List.Memᴰ
use Rattle.octets.specs.Part.{part}
use Rattle.octets.specs.Put.{put}
use Rattle.octets.specs.Octets.{small_octets}
use Rattle.octets.specs.Xor.{◌⊻◌}
use Rattle.octets.specs.Operands.{xor_all}
use Rattle.octets.specs.Number.{num, to_be}
use Rattle.folds.specs.Every.{every}
use Rattle.folds.specs.All.{all_below}
use Rattle.folds.specs.Same.{same_list}
use Rattle.folds.specs.Count.{count_below}
use Rattle.folds.specs.Least.{least_below}
use Rattle.geometry.specs.Header.{slot_at, place}
use Rattle.drives.specs.Table.{drive_of}
use Rattle.slots.specs.Record.{slot_of, bytes_of}
use Rattle.slots.specs.Find.{empty_slot, better, best_of, newest_of}
use Rattle.slots.specs.Change.{released, lower_one, lowered}
use Rattle.results.specs.Lists.{keeping}
use Rattle.image.specs.Valid.{valid_image}
use Rattle.image.specs.Bench.{zeros, bench, fresh, result, bench_shape}
use Rattle.sums.specs.Row.{counts, summed_to, row_sum}
use Rattle.sums.specs.Share.{share}
use Rattle.command.specs.Command.{op_of, ten_of}
use Rattle.meaning.specs.Checks.{decide_of}
use Rattle.meaning.specs.Step.{step_image}
use Rattle.meaning.specs.Calls.{after_call, after_calls}
use Rattle.meaning.specs.Examples.Cases.{room}
use Rattle.parity.specs.Ledger.{Read, Carried, line, fair_front, Fair, ledger}
use Rattle.parity.specs.Owed.{owed, carries_none}
use Rattle.parity.specs.AnyStep.{NothingOwed, AllPresent, Whole, the_step, rebuilt, BringsBack}
use Rattle.parity.proofs.Demand.{rebuild_restores}
use Rattle.parity.specs.Example.{bench_start, result_on, of_first, third, carry_by, carries, carried, bench_zero, none_owed, present, junk, both_rows}
use Rattle.parity.specs.Published.{xdwriteread, change, settling, settled_image, settled_ledger, owing, owing_ledger}

-- owed after the first 53h; nothing after them all; the last one's result, until C1h carries it
pub published_computed :
    (ledger (xdwriteread 0x00 fresh ∷ []) bench ≡ line (of_first result) true Read ∷ [])
    × (owed bench_shape 0 (line (of_first result) true Read ∷ []) ≡ result)
    × (row_sum (after_calls (xdwriteread 0x00 fresh ∷ []) bench) bench_shape 0 ≡ result)
    × (after_calls settling bench ≡ settled_image)
    × (ledger settling bench ≡ settled_ledger)
    × (owed bench_shape 0 settled_ledger ≡ [])
    × (row_sum settled_image bench_shape 0 ≡ zeros)
    × (ledger owing bench ≡ owing_ledger Read)
    × (owed bench_shape 0 (owing_ledger Read) ≡ fresh)
    × (row_sum (after_calls owing bench) bench_shape 0 ≡ fresh)
    × (ledger (owing ++ carry_by 0xC1 fresh ∷ []) bench ≡ owing_ledger Carried)
    × (row_sum (after_calls (owing ++ carry_by 0xC1 fresh ∷ []) bench) bench_shape 0 ≡ zeros)
unfolding decide_of step_image valid_image slot_of slot_at place every all_below same_list count_below least_below drive_of empty_slot newest_of best_of better released lowered lower_one bytes_of part put num to_be ◌⊻◌ xor_all op_of ten_of row_sum summed_to counts owed keeping share
published_computed = (refl, refl, refl, refl, refl, refl, refl, refl, refl, refl, refl, refl)

-- it is a run of the demand
pub owing_fair : Fair (owing ++ carry_by 0xC1 fresh ∷ []) bench
unfolding decide_of step_image valid_image slot_of slot_at place every all_below same_list count_below least_below drive_of empty_slot newest_of best_of better released lowered lower_one bytes_of part put num to_be ◌⊻◌ xor_all op_of ten_of
owing_fair =
    let kept = carries 1 change (line (result_on 1 change) true Read ∷ line (of_first result) true Carried ∷ []) (Memᴰ.head refl) in
    let last = carries 0 fresh (owing_ledger Read) (Memᴰ.head refl) in
    (tt, (carried, ((λ e. refl), (tt, (kept, (tt, (tt, (last, tt))))))))

-- ---- nothing is owed, and both blocks of drive 2 come back

pub settling_whole : Whole after_call bench bench_shape settling 0 2
settling_whole =
    record {
      start = bench_start;
      bytes = small_octets bench refl;
      fair = fair_front after_call settling (xdwriteread 0x00 zeros ∷ carry_by 0xC1 fresh ∷ []) bench [] owing_fair;
      began_zero = bench_zero;
      nothing_owed = subst (NothingOwed bench_shape 0 2) (sym published_computed.4) (none_owed settled_ledger (refl, (refl, (refl, tt))));
      all_present = subst (λ (m : List ℕ). AllPresent m bench_shape) (sym published_computed.3) (present settled_image refl refl refl);
    }

pub settling_restored : BringsBack (after_calls settling bench) (rebuilt the_step (after_calls settling bench) bench_shape 1 0 junk (0 ∷ 2 ∷ []) 2 0xFFFFFFFF room)
settling_restored = rebuild_restores bench bench_shape settling 1 0 2 junk (0 ∷ 2 ∷ []) 2 0xFFFFFFFF settling_whole both_rows room

-- ---- what may not be carried

-- the result of a 53h that did not write
pub unwritten_not : Fair (settling ++ carry_by 0x51 fresh ∷ []) bench → ⊥
unfolding decide_of step_image valid_image slot_of slot_at place every all_below same_list count_below least_below drive_of empty_slot newest_of best_of better released lowered lower_one bytes_of part put num to_be ◌⊻◌ xor_all op_of ten_of
unwritten_not f = carries_none third fresh settled_ledger (refl, (refl, (refl, tt))) f.1.1.1.1.1.1.0

-- other bytes than the 53h handed out
pub others_not : Fair (owing ++ carry_by 0x51 result ∷ []) bench → ⊥
unfolding decide_of step_image valid_image slot_of slot_at place every all_below same_list count_below least_below drive_of empty_slot newest_of best_of better released lowered lower_one bytes_of part put num to_be ◌⊻◌ xor_all op_of ten_of
others_not f = carries_none third result (owing_ledger Read) (refl, (refl, (refl, (refl, tt)))) f.1.1.1.1.1.1.1.0

-- its bytes a second time, by the other code
pub again_not : Fair (owing ++ carry_by 0xC1 fresh ∷ carry_by 0x51 fresh ∷ []) bench → ⊥
unfolding decide_of step_image valid_image slot_of slot_at place every all_below same_list count_below least_below drive_of empty_slot newest_of best_of better released lowered lower_one bytes_of part put num to_be ◌⊻◌ xor_all op_of ten_of
again_not f = carries_none third fresh (owing_ledger Carried) (refl, (refl, (refl, (refl, tt)))) f.1.1.1.1.1.1.1.1.0

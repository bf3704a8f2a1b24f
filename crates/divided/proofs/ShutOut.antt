-- Programs that A9 shuts out: each decides rightly, and does one thing otherwise.
use Rattle.std.specs.Prelude.{ℕ, ◌≡◌, refl, get_or}
use Rattle.std.proofs.Common.{arith, ap}
use Rattle.octets.specs.Part.{part}
use Rattle.octets.specs.Put.{put}
use Rattle.octets.specs.Number.{num, to_be}
use Rattle.octets.specs.Xor.{◌⊻◌}
use Rattle.octets.specs.Octets.{small_octets}
use Rattle.octets.specs.Operands.{xor_all}
use Rattle.folds.specs.Every.{every}
use Rattle.folds.specs.All.{all_below}
use Rattle.folds.specs.Count.{count_below}
use Rattle.folds.specs.Least.{least_below}
use Rattle.geometry.specs.Header.{slot_at, place}
use Rattle.drives.specs.Table.{drive_of}
use Rattle.slots.specs.Record.{slot_of, bytes_of}
use Rattle.slots.specs.Find.{empty_slot, better, best_of, newest_of}
use Rattle.image.specs.Valid.{valid_image}
use Rattle.command.specs.Command.{op_of, ten_of, listed_of, own_of, resolved_of, list_bytes, source_of}
use Rattle.command.specs.Lossless.{cdb_of}
use Rattle.meaning.specs.Acts.{sources_from, gathered}
use Rattle.meaning.specs.Sources.{own_entry, drive_bad, entry_bad, first_bad}
use Rattle.meaning.specs.Checks.{decide_of}
use Rattle.meaning.specs.Step.{step_outcome, step_image, step_room}
use Rattle.callers.specs.Goes.{◌then◌}
use Rattle.divided.specs.InParts.{Reply, OrderFree, Joins, CutFree, EachGood}
use Rattle.divided.specs.Example.{shelf, Passes, eight, fetched, ranges}
use Rattle.divided.proofs.Example.{by_law, by_order, by_cuts}
use Rattle.divided.specs.ShutOut.{without_data, without_own, late, first_only}

-- a byte of an image
abbrev byte_of : ℕ → Reply → ℕ
byte_of i x = get_or x.image i 0

pub without_data_not : Joins without_data → ⊥
unfolding cdb_of op_of to_be part put num source_of decide_of step_outcome step_image step_room valid_image slot_of slot_at place every all_below count_below least_below drive_of empty_slot better best_of newest_of bytes_of ten_of listed_of own_of resolved_of list_bytes own_entry drive_bad entry_bad first_bad sources_from gathered xor_all ◌⊻◌
without_data_not law =
    let passes : Passes 0x34 0x3E 0x38 0x2E 0x24 0x5E 0x50 0x4E without_data =
    record { regenerates = refl; hands = refl; rebuilds = refl; bytes = small_octets (fetched (eight 0x34 0x3E 0x38 0x2E 0x24 0x5E 0x50 0x4E)) refl } in
    let z : ◌≡◌ {A = ℕ} 0x4E 0x7A = ap (byte_of 80) (by_law 0x34 0x3E 0x38 0x2E 0x24 0x5E 0x50 0x4E without_data passes law) in
    omega arith

pub without_own_not : Joins without_own → ⊥
unfolding cdb_of op_of to_be part put num source_of decide_of step_outcome step_image step_room valid_image slot_of slot_at place every all_below count_below least_below drive_of empty_slot better best_of newest_of bytes_of ten_of listed_of own_of resolved_of list_bytes own_entry drive_bad entry_bad first_bad sources_from gathered xor_all ◌⊻◌
without_own_not law =
    let passes : Passes 0x21 0x28 0x2F 0x36 0x3D 0x44 0x4B 0x52 without_own =
    record { regenerates = refl; hands = refl; rebuilds = refl; bytes = small_octets (fetched (eight 0x21 0x28 0x2F 0x36 0x3D 0x44 0x4B 0x52)) refl } in
    let z : ◌≡◌ {A = ℕ} 0x4E 0x5B = ap (byte_of 80) (by_law 0x21 0x28 0x2F 0x36 0x3D 0x44 0x4B 0x52 without_own passes law) in
    omega arith

pub late_not : CutFree late → ⊥
unfolding cdb_of op_of to_be part put num source_of decide_of step_outcome step_image step_room valid_image slot_of slot_at place every all_below count_below least_below drive_of empty_slot better best_of newest_of bytes_of ten_of listed_of own_of resolved_of list_bytes own_entry drive_bad entry_bad first_bad sources_from gathered xor_all ◌⊻◌
late_not law =
    let good : EachGood late ranges shelf = refl then refl then refl then tt in
    let z : ◌≡◌ {A = ℕ} 0x28 0x84 = ap (byte_of 76) (by_cuts late good law) in
    omega arith

pub first_only_not : OrderFree first_only → ⊥
unfolding cdb_of op_of to_be part put num source_of decide_of step_outcome step_image step_room valid_image slot_of slot_at place every all_below count_below least_below drive_of empty_slot better best_of newest_of bytes_of ten_of listed_of own_of resolved_of list_bytes own_entry drive_bad entry_bad first_bad sources_from gathered xor_all ◌⊻◌
first_only_not law =
    let z : ◌≡◌ {A = ℕ} 0x21 0x6B = ap (byte_of 72) (by_order first_only refl law) in
    omega arith

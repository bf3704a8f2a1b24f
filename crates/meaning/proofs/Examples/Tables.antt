-- The tables of examples hold, by computation.
use Rattle.std.specs.Prelude.{refl, ◌++◌}
use Rattle.octets.specs.Part.{part}
use Rattle.octets.specs.Put.{put}
use Rattle.octets.specs.Xor.{◌⊻◌}
use Rattle.octets.specs.Operands.{xor_all}
use Rattle.octets.specs.Number.{num, to_be}
use Rattle.folds.specs.Every.{every}
use Rattle.folds.specs.All.{all_below}
use Rattle.folds.specs.Count.{count_below}
use Rattle.folds.specs.Least.{least_below}
use Rattle.geometry.specs.Header.{slot_at, place}
use Rattle.drives.specs.Table.{drive_of, marked}
use Rattle.slots.specs.Record.{slot_of, bytes_of}
use Rattle.slots.specs.Find.{empty_slot, better, best_of, newest_of}
use Rattle.slots.specs.Change.{released, lower_one, lowered, dropped, dropped_to, drop_one}
use Rattle.image.specs.Valid.{valid_image}
use Rattle.sense.specs.Sense.{no_sense, plain_sense, absent_sense, nested_sense}
use Rattle.command.specs.Command.{op_of, sixteen_of, ten_of, listed_of, own_of, resolved_of, list_bytes, source_of}
use Rattle.meaning.specs.Acts.{sources_from, gathered}
use Rattle.meaning.specs.Sources.{own_entry, drive_bad, entry_bad, first_bad}
use Rattle.meaning.specs.Checks.{decide_of}
use Rattle.meaning.specs.Step.{step_image, step_room, step_outcome, reset_image, reset_answer, mark_image, mark_answer}
use Rattle.meaning.specs.Examples.Cases.{table}
use Rattle.meaning.specs.Examples.Several.{several}
use Rattle.meaning.specs.Examples.Further as further
use Rattle.meaning.specs.Examples.Published.{works, refusals}
use Rattle.meaning.specs.Examples.Tables.{Hold}

computed : Hold table × Hold several × Hold (further.works ++ further.refusals) × Hold (works ++ refusals)
unfolding decide_of step_image step_room step_outcome reset_image reset_answer mark_image mark_answer valid_image slot_of slot_at place every all_below count_below least_below drive_of empty_slot newest_of best_of better released lowered lower_one dropped dropped_to drop_one marked bytes_of part put num to_be ◌⊻◌ xor_all sources_from gathered op_of sixteen_of ten_of listed_of own_of resolved_of list_bytes source_of own_entry drive_bad entry_bad first_bad no_sense plain_sense absent_sense nested_sense
computed = (refl, refl, refl, refl)

-- C1 to C11 of 01
pub cases : Hold table
cases = computed.0

-- several slots
pub several_cases : Hold several
several_cases = computed.1

-- one command each
pub further_cases : Hold (further.works ++ further.refusals)
further_cases = computed.2

-- the published codes
pub published_cases : Hold (works ++ refusals)
published_cases = computed.3

-- The contract of each public function of `slots` allows one outcome only.
use Rattle.slots.proofs as slots
use Rattle.one_outcome.specs.Only.{Only, equation, bounded}

pub write_record_once : Only slots.write_record.Reads.Post (λ _ _ s. s.0.now)
write_record_once = equation

pub release_once : Only slots.release.Reads.Post (λ _ _ s. s.0.now)
release_once = equation

pub drop_drive_once : Only slots.drop_drive.Reads.Post (λ _ _ s. s.0.now)
drop_drive_once = equation

pub empty_slot_once : Only slots.empty_slot.Reads.Post (λ _ r _. r)
empty_slot_once = equation

pub newest_once : Only slots.newest.Reads.Post (λ _ r _. r)
newest_once = equation

pub used_count_once : Only slots.used_count.Reads.Post (λ _ r _. r)
used_count_once = bounded

pub slots_ok_once : Only slots.slots_ok.Reads.Post (λ _ r _. r)
slots_ok_once = equation

pub read_slot_once : Only slots.read_slot.Reads.Post (λ _ r _. r)
read_slot_once = bounded

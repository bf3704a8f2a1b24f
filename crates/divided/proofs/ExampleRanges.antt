-- The shelf of four drives again: drive 1, of four blocks, is rebuilt over two strings in ranges of two, as many as a slot holds.
use Rattle.std.specs.Prelude.{ℕ, ◌+◌, ◌*◌, ◌<◌, ◌≡◌, refl, true, false, List, [], ◌∷◌, ◌++◌, get_or, replicate, Some}
use Rattle.std.proofs.Common.{sym, ap, ◌∙◌, lit≤}
use mathlib.Core.List.Permᴰ
use Rattle.octets.specs.Part.{part}
use Rattle.octets.specs.Put.{put}
use Rattle.octets.specs.Number.{num, to_be, be}
use Rattle.octets.specs.Xor.{◌⊻◌}
use Rattle.octets.specs.Octets.{Octets, small_octets}
use Rattle.octets.specs.Operands.{xor_all}
use Rattle.folds.specs.Every.{every}
use Rattle.folds.specs.All.{all_below}
use Rattle.folds.specs.Count.{count_below}
use Rattle.folds.specs.Least.{least_below}
use Rattle.geometry.specs.Header.{slot_at, place}
use Rattle.drives.specs.Table.{drive_of, to, target_of}
use Rattle.slots.specs.Record.{slot_of, bytes_of}
use Rattle.slots.specs.Find.{empty_slot, better, best_of, newest_of}
use Rattle.image.specs.Valid.{valid_image}
use Rattle.image.specs.Shelf.{Shelf}
use Rattle.image.specs.Bench.{four}
use Rattle.command.specs.declared.Op.TheVariants.{XdRead, Rebuild, Regenerate}
use Rattle.command.specs.Command.{op_of, ten_of, listed_of, own_of, resolved_of, list_bytes, source_of}
use Rattle.command.specs.Lossless.{cdb_of}
use Rattle.meaning.specs.Acts.{sources_from, gathered}
use Rattle.meaning.specs.Sources.{own_entry, drive_bad, entry_bad, first_bad}
use Rattle.meaning.specs.Checks.{decide_of}
use Rattle.meaning.specs.Step.{step_outcome, step_image, step_room}
use Rattle.demands_one_two.specs.Step.{step_shelf}
use Rattle.callers.specs.Bytes.{xdread_cdb}
use Rattle.callers.specs.Lists.{source, entries_from}
use Rattle.divided.specs.InParts.{Sent, sent, ours, IsGood, Asks, rebuilding, First, Fetched, medium_of, Strung, StrungOf}
use Rattle.divided.specs.Said.{regenerating}
use Rattle.divided.specs.Media.{same_itself}
use Rattle.divided.proofs.Left.{media_as_before}
use Rattle.divided.proofs.Ranges.{joins_by_ranges}
use Rattle.divided.specs.Example.{shelf, shape, eight}
use Rattle.divided.proofs.Example.{shelf_is}
use Rattle.divided.specs.ExampleRanges.{whole}

-- ---- the commands for two blocks from block o on, and the bytes that are passed on

abbrev regenerate : ℕ → Sent
regenerate o = regenerating (to 2) 0 2 o (source 3 o ∷ []) [] []

abbrev fetch : ℕ → Sent
fetch o = sent (to 2) (xdread_cdb 0xC2 o 2) [] (replicate 8 0xEE)

abbrev rebuild : ℕ → List ℕ → Sent
rebuild o ys = rebuilding (to 1) 4 2 o (source 4 o ∷ []) ys []

abbrev upper : List ℕ
upper = eight 0x40 0x7A 0x7C 0x72 0x68 0x62 0x9C 0xAA

abbrev lower : List ℕ
lower = eight 0x30 0x3A 0x3C 0x22 0x28 0x52 0x5C 0x4A

-- sent one after the other, from image m on
abbrev strung : List ℕ → ℕ → List ℕ → Strung
strung m o ys =
    record {
      range = record { from = o; count = 2 };
      regenerate = regenerate o;
      fetch = fetch o;
      rebuild = rebuild o ys;
      first_on = m;
      fetched_on = (ours m (regenerate o)).image;
      second_on = (ours (ours m (regenerate o)).image (fetch o)).image;
      bytes = ys;
    }

abbrev after : List ℕ → ℕ → List ℕ → List ℕ
after m o ys = (ours (strung m o ys).second_on (rebuild o ys)).image

-- ---- they are answered GOOD: blocks 2 and 3 first, then blocks 0 and 1

-- and hand those bytes over
abbrev Answered : List ℕ → ℕ → List ℕ → Type 0
Answered m o ys =
    let p = strung m o ys in
    IsGood ours m (regenerate o)
    × IsGood ours p.fetched_on (fetch o)
    × ((ours p.fetched_on (fetch o)).room ≡ ys)
    × IsGood ours p.second_on (rebuild o ys)
    × (target_of p.fetched_on shape (to 2) ≡ Some 1)
    × (target_of p.second_on shape (to 1) ≡ Some 0)
    × Octets p.second_on
    × (target_of m shape (to 2) ≡ Some 1)

upper_answered : Answered shelf 2 upper
unfolding cdb_of op_of to_be part put num source_of decide_of step_outcome step_image step_room valid_image slot_of slot_at place every all_below count_below least_below drive_of empty_slot better best_of newest_of bytes_of ten_of listed_of own_of resolved_of list_bytes own_entry drive_bad entry_bad first_bad sources_from gathered xor_all ◌⊻◌
upper_answered = (refl, refl, refl, refl, refl, refl, small_octets (strung shelf 2 upper).second_on refl, refl)

abbrev half : List ℕ
half = after shelf 2 upper

lower_answered : Answered half 0 lower
unfolding cdb_of op_of to_be part put num source_of decide_of step_outcome step_image step_room valid_image slot_of slot_at place every all_below count_below least_below drive_of empty_slot better best_of newest_of bytes_of ten_of listed_of own_of resolved_of list_bytes own_entry drive_bad entry_bad first_bad sources_from gathered xor_all ◌⊻◌
lower_answered = (refl, refl, refl, refl, refl, refl, small_octets (strung half 0 lower).second_on refl, refl)

-- ---- each is a range of the whole

abbrev Of : Strung → Type 0
Of = StrungOf ours shape 1 0 0 0 (source 3 0 ∷ []) (source 4 0 ∷ []) false []

module _ (m : List ℕ) (h : Shelf m shape) (o : ℕ) (ys : List ℕ) (k : Answered m o ys) where
  step_keeps : (m : List ℕ) (x : Sent) → Shelf m shape → Shelf (ours m x).image shape
  step_keeps m x h = step_shelf m x.came x.cdb x.bytes x.room shape h

  strung_of : Asks Regenerate 4 (regenerate o) (0 + o) 2 (source 3 (0 + o) ∷ []) false (part [] (o * 4) 8) → be 4 (fetch o).cdb 2 ≡ 0 + o → op_of (get_or (fetch o).cdb 0 0) ≡ XdRead
      → Asks Rebuild 4 (rebuild o ys) (0 + o) 2 (source 4 (0 + o) ∷ []) true ys → part ys 0 8 ≡ ys → Of (strung m o ys)
  strung_of first_asks at code second_asks long =
      let p = strung m o ys in
      let first : First ours m shape (regenerate o) 1 (0 + o) 2 (source 3 (0 + o) ∷ []) false (part [] (o * 4) 8) =
      record { shelf = h; found = k.7; asks = first_asks; some_block = lit≤ tt; good = k.0 } in
      let fetched : Fetched ours p.fetched_on p.fetched_on shape (fetch o) 1 (0 + o) 2 ys =
      record {
        shelf = step_keeps m (regenerate o) h;
        found = k.4;
        code = code;
        block = at;
        newest = refl;
        good = k.1;
        bytes = sym (ap (λ (r : List ℕ). part r 0 8) k.2 ∙ long);
      } in
      record {
        first = first;
        fetched = fetched;
        second =
            record {
              shelf = step_keeps p.fetched_on (fetch o) (step_keeps m (regenerate o) h);
              bytes = k.6;
              found = k.5;
              asks = second_asks;
              good = k.3;
            };
        same = media_as_before shape m (regenerate o) (fetch o) 1 (0 + o) 2 (source 3 (0 + o) ∷ []) false (part [] (o * 4) 8) ys first fetched;
      }

  step_after : Shelf (after m o ys) shape
  step_after = step_keeps _ (rebuild o ys) (step_keeps _ (fetch o) (step_keeps m (regenerate o) h))

upper_of : Of (strung shelf 2 upper)
unfolding cdb_of op_of to_be part num entries_from source_of
upper_of = strung_of shelf shelf_is 2 upper upper_answered (record { code = refl; flag = refl; long = refl; listed = refl; own = refl; sources = refl; rest = refl }) refl refl (record { code = refl; flag = refl; long = refl; listed = refl; own = refl; sources = refl; rest = refl }) refl

half_is : Shelf half shape
half_is = step_after shelf shelf_is 2 upper upper_answered

lower_of : Of (strung half 0 lower)
unfolding cdb_of op_of to_be part num entries_from source_of
lower_of = strung_of half half_is 0 lower lower_answered (record { code = refl; flag = refl; long = refl; listed = refl; own = refl; sources = refl; rest = refl }) refl refl (record { code = refl; flag = refl; long = refl; listed = refl; own = refl; sources = refl; rest = refl }) refl

-- ---- one REBUILD of all four blocks over all three drives

whole_good : IsGood ours shelf whole × (target_of shelf shape (to 1) ≡ Some 0)
unfolding cdb_of op_of to_be part put num source_of decide_of step_outcome step_image step_room valid_image slot_of slot_at place every all_below count_below least_below drive_of empty_slot better best_of newest_of bytes_of ten_of listed_of own_of resolved_of list_bytes own_entry drive_bad entry_bad first_bad sources_from gathered xor_all ◌⊻◌
whole_good = (refl, refl)

pub by_ranges : (v : ℕ) → v < 4 → medium_of (after half 0 lower) shape v ≡ medium_of (ours shelf whole).image shape v
unfolding cdb_of op_of to_be part num entries_from source_of
by_ranges =
    joins_by_ranges shape shelf shelf (after half 0 lower) 1 0 0 0 4 (source 3 0 ∷ []) (source 4 0 ∷ []) (source 4 0 ∷ source 2 0 ∷ source 3 0 ∷ []) false []
    (strung shelf 2 upper ∷ strung half 0 lower ∷ []) (strung half 0 lower ∷ strung shelf 2 upper ∷ []) whole
    (same_itself shelf shape, upper_of, (same_itself half shape, lower_of, same_itself (after half 0 lower) shape))
    (Permᴰ.swap refl refl) (refl, (refl, refl)) (same_itself shelf shape) shelf_is whole_good.1 (lit≤ tt)
    (Permᴰ.trans (Permᴰ.swap refl refl) (Permᴰ.cons refl (Permᴰ.swap refl refl)))
    (record { code = refl; flag = refl; long = refl; listed = refl; own = refl; sources = refl; rest = refl }) whole_good.0

-- the target's medium
pub all_left : medium_of (after half 0 lower) shape 0 ≡ four 0x33 0x2A 0x21 0x08 ++ four 0x1F 0x16 0x0D 0x14 ++ four 0x2B 0x02 0xF9 0xE0 ++ four 0xF7 0xCE 0x25 0x6C
unfolding cdb_of op_of to_be part put num source_of decide_of step_outcome step_image step_room valid_image slot_of slot_at place every all_below count_below least_below drive_of empty_slot better best_of newest_of bytes_of ten_of listed_of own_of resolved_of list_bytes own_entry drive_bad entry_bad first_bad sources_from gathered xor_all ◌⊻◌
all_left = refl

-- A shelf of four drives with four blocks each: the laws' conditions can be met there, and what the commands then come to.
use Prim.Native.Nat.{ℕ, zero, suc, ◌<◌}
use Rattle.std.proofs.Common.{arith, sym, ◌∙◌}
use Rattle.std.specs.Prelude.{false, ◌≡◌, take, replicate, Some}
use Rattle.std.proofs.Math.Logic.{inl, inr}
use Rattle.std.proofs.Math.Path.{refl, ap}
use mathlib.Core.List.Permᴰ
use mathlib.Core.List.{[], ◌∷◌, ◌++◌}
use Rattle.std.proofs.Math.Dec.{lit≤}
use Rattle.octets.specs.Part.{part}
use Rattle.octets.specs.Put.{put}
use Rattle.octets.specs.Number.{num, to_be}
use Rattle.octets.specs.Xor.{◌⊻◌}
use Rattle.octets.specs.Octets.{small_octets}
use Rattle.octets.specs.Operands.{xor_all}
use Rattle.folds.specs.Each.{EachIs}
use Rattle.folds.specs.Every.{every}
use Rattle.folds.specs.All.{all_below}
use Rattle.folds.specs.Count.{count_below}
use Rattle.folds.specs.Least.{least_below}
use Rattle.folds.proofs.Least.{at_same}
use Rattle.geometry.specs.Header.{framed_ok, slot_at, place}
use Rattle.drives.specs.Table.{table_ok, drive_of, to, address_of, target_of, failed}
use Rattle.slots.specs.Record.{slot_of, bytes_of}
use Rattle.slots.specs.Slots.{slots_ok}
use Rattle.slots.specs.Find.{empty_slot, better, best_of, newest_of}
use Rattle.results.specs.First.{first_of}
use Rattle.results.specs.Newest.{answers}
use Rattle.results.specs.Results.{results}
use Rattle.image.specs.Valid.{valid_image}
use Rattle.image.specs.Shelf.{Shelf}
use Rattle.image.specs.Bench.{four}
use Rattle.command.specs.Command.{op_of, ten_of, listed_of, own_of, resolved_of, list_bytes, source_of}
use Rattle.command.specs.Lossless.{cdb_of}
use Rattle.meaning.specs.Acts.{sources_from, gathered}
use Rattle.meaning.specs.Sources.{own_entry, drive_bad, entry_bad, first_bad}
use Rattle.meaning.specs.Checks.{decide_of}
use Rattle.meaning.specs.Step.{step_outcome, step_image, step_room}
use Rattle.callers.specs.Lists.{source, entries_from}
use Rattle.callers.specs.Listed.{together_byte}
use Rattle.callers.specs.Goes.{◌then◌}
use Rattle.divided.specs.InParts.{Reply, Program, ours, OrderFree, Joins, CutFree, IsGood, leaving, medium_of, SameMedia, Ready, CutOf, EachGood, left}
use Rattle.divided.proofs.Strings.{joins}
use Rattle.divided.proofs.Order.{order_free}
use Rattle.divided.proofs.Cut.{cut_free}
use Rattle.divided.specs.Example.{rising, shelf_of, shelf, shape, regenerate, fetch, others, rebuild, regenerated, fetched, all, one, eight, Passes, passed, three, shuffled, whole, cut, ranges}

pub shelf_is : Shelf shelf shape
unfolding framed_ok table_ok slots_ok slot_of slot_at every all_below count_below part num
shelf_is = record { header = refl; framed_fine = refl; table_fine = refl; slots_fine = refl }

-- ---- two strings, with eight bytes

module _ (a b c d e f g h : ℕ) where
  shelves : Shelf (regenerated (eight a b c d e f g h)) shape × Shelf (fetched (eight a b c d e f g h)) shape
  unfolding framed_ok table_ok slots_ok slot_of slot_at every all_below count_below part num
  shelves = (
    record { header = refl; framed_fine = refl; table_fine = refl; slots_fine = refl },
    record { header = refl; framed_fine = refl; table_fine = refl; slots_fine = refl },
  )

  targets : (target_of (regenerated (eight a b c d e f g h)) shape (to 2) ≡ Some 1) × (target_of (fetched (eight a b c d e f g h)) shape (to 1) ≡ Some 0)
  unfolding drive_of least_below part num
  targets = (refl, refl)

  media : SameMedia shelf (fetched (eight a b c d e f g h)) shape
  unfolding part num place
  media = record { addresses = λ i l. address i l; media = λ i l. medium i l }
    where
      address : (i : ℕ) → i < 4 → address_of shelf shape i ≡ address_of (fetched (eight a b c d e f g h)) shape i
      address zero l = refl
      address (suc zero) l = refl
      address (suc (suc zero)) l = refl
      address (suc (suc (suc zero))) l = refl
      address (suc (suc (suc (suc i)))) l = absurd (omega arith)

      medium : (i : ℕ) → i < 4 → medium_of shelf shape i ≡ medium_of (fetched (eight a b c d e f g h)) shape i
      medium zero l = refl
      medium (suc zero) l = refl
      medium (suc (suc zero)) l = refl
      medium (suc (suc (suc zero))) l = refl
      medium (suc (suc (suc (suc i)))) l = absurd (omega arith)

  -- a drive by its address: it is present, and not the target
  ready : (x i : ℕ) → drive_of (fetched (eight a b c d e f g h)) shape x ≡ Some i → failed (fetched (eight a b c d e f g h)) shape i ≡ false → (i ≡ 0 → ⊥) → (k : ℕ)
      → Ready (fetched (eight a b c d e f g h)) shape (to 1) 0 (source x k)
  ready x i there up other k v q = let same : i ≡ v = at_same there q in (ap (failed (fetched (eight a b c d e f g h)) shape) (sym same) ∙ up, λ z. other (same ∙ z))

  -- by the law it leaves what the one REBUILD leaves
  pub by_law : (step : Program) → Passes a b c d e f g h step → Joins step → step (fetched (eight a b c d e f g h)) one ≡ leaving (step (fetched (eight a b c d e f g h)) (rebuild (eight a b c d e f g h))).image one
  unfolding cdb_of op_of to_be part num entries_from source_of drive_of least_below
  by_law step p law =
      law shape shelf (regenerated (eight a b c d e f g h)) (fetched (eight a b c d e f g h)) regenerate fetch (rebuild (eight a b c d e f g h)) 1 0 1 2 2 (source 3 0 ∷ []) others all false [] (eight a b c d e f g h) (to 1) 0 0xFFFFFFFF []
      (record {
        shelf = shelf_is;
        found = refl;
        asks = record { code = refl; flag = refl; long = refl; listed = refl; own = refl; sources = refl; rest = refl };
        some_block = lit≤ tt;
        good = ap (λ s. s.outcome.answer) p.regenerates;
      })
      (record {
        shelf = shelves.0;
        found = targets.0;
        code = refl;
        block = refl;
        newest = ap (λ (s : Reply). first_of (answers 1 1) (results s.image shape)) (sym p.regenerates);
        good = ap (λ s. s.outcome.answer) p.hands;
        bytes = ap (λ (s : Reply). part s.room 0 8) (sym p.hands);
      })
      (record {
        shelf = shelves.1;
        bytes = p.bytes;
        found = targets.1;
        asks = record { code = refl; flag = refl; long = refl; listed = refl; own = refl; sources = refl; rest = refl };
        good = p.rebuilds;
      })
      media (Permᴰ.trans (Permᴰ.swap refl refl) (Permᴰ.cons refl (Permᴰ.swap refl refl)))
      (record { found = targets.1; byte = together_byte 0 (inl refl); how_long = inr (refl, refl); exact = inl refl; few = lit≤ tt })
      (ready 2 1 refl refl (λ q. omega arith) 1, (ready 3 2 refl refl (λ q. omega arith) 0, tt))

passes : Passes 0x34 0x3E 0x38 0x2E 0x24 0x5E 0x50 0x4E ours
unfolding cdb_of op_of to_be part put num source_of decide_of step_outcome step_image step_room valid_image slot_of slot_at place every all_below count_below least_below drive_of empty_slot better best_of newest_of bytes_of ten_of listed_of own_of resolved_of list_bytes own_entry drive_bad entry_bad first_bad sources_from gathered xor_all ◌⊻◌
passes = record { regenerates = refl; hands = refl; rebuilds = refl; bytes = small_octets (fetched passed) refl }

pub two_strings : ours (fetched passed) one ≡ leaving (ours (fetched passed) (rebuild passed)).image one
two_strings = by_law 0x34 0x3E 0x38 0x2E 0x24 0x5E 0x50 0x4E ours passes joins

-- and the blocks are these
pub strings_left : (ours (fetched passed) (rebuild passed)).image ≡ shelf_of (replicate 16 0 ++ passed) (take 8 (rising 0x80 1) ++ four 0x4E 0x54 0xAE 0xA8 ++ four 0xAE 0xE4 0xFE 0x90)
unfolding cdb_of op_of to_be part put num source_of decide_of step_outcome step_image step_room valid_image slot_of slot_at place every all_below count_below least_below drive_of empty_slot better best_of newest_of bytes_of ten_of listed_of own_of resolved_of list_bytes own_entry drive_bad entry_bad first_bad sources_from gathered xor_all ◌⊻◌
strings_left = refl

-- ---- a list in two orders

-- by the law a program that answers the one GOOD makes the same of the other
pub by_order : (step : Program) → IsGood step shelf three → OrderFree step → step shelf three ≡ step shelf shuffled
unfolding cdb_of op_of to_be part num entries_from source_of
by_order step good law =
    (law shelf (to 1) three.cdb three.bytes shuffled.bytes [] (inl refl)
    (record { as_long = refl; head = refl; entries = Permᴰ.trans (Permᴰ.cons refl (Permᴰ.swap refl refl)) (Permᴰ.swap refl refl); rest = refl })).0 good

three_good : IsGood ours shelf three
unfolding cdb_of op_of to_be part put num source_of decide_of step_outcome step_image step_room valid_image slot_of slot_at place every all_below count_below least_below drive_of empty_slot better best_of newest_of bytes_of ten_of listed_of own_of resolved_of list_bytes own_entry drive_bad entry_bad first_bad sources_from gathered xor_all ◌⊻◌
three_good = refl

pub two_orders : ours shelf three ≡ ours shelf shuffled
two_orders = by_order ours three_good order_free

-- ---- three ranges

cuts_of : EachIs (CutOf shelf shape 0 0 (source 2 0 ∷ source 3 0 ∷ []) false []) ranges
unfolding cdb_of op_of to_be part num entries_from source_of drive_of least_below
cuts_of =
    record { found = refl; some_block = lit≤ tt; asks = record { code = refl; flag = refl; long = refl; listed = refl; own = refl; sources = refl; rest = refl } }
    then record { found = refl; some_block = lit≤ tt; asks = record { code = refl; flag = refl; long = refl; listed = refl; own = refl; sources = refl; rest = refl } }
    then record { found = refl; some_block = lit≤ tt; asks = record { code = refl; flag = refl; long = refl; listed = refl; own = refl; sources = refl; rest = refl } }
    then tt

-- by the law a program that answers each GOOD makes the same of the whole
pub by_cuts : (step : Program) → EachGood step ranges shelf → CutFree step → step shelf whole ≡ leaving (left step ranges shelf) whole
unfolding drive_of least_below part num
by_cuts step good law =
    law shape shelf 0 0 4 (source 2 0 ∷ source 3 0 ∷ []) false [] ranges (cut 0 1 1 ∷ cut 1 2 2 ∷ cut 3 1 0xFFFFFFFF ∷ []) (to 1) 0 0xFFFFFFFF []
    shelf_is (small_octets shelf refl) (lit≤ tt) refl
    (record { found = refl; byte = together_byte 0 (inl refl); how_long = inr (refl, refl); exact = inl refl; few = lit≤ tt })
    cuts_of (Permᴰ.trans (Permᴰ.cons refl (Permᴰ.swap refl refl)) (Permᴰ.swap refl refl)) (refl then refl then refl then refl) good

each_good : EachGood ours ranges shelf
unfolding cdb_of op_of to_be part put num source_of decide_of step_outcome step_image step_room valid_image slot_of slot_at place every all_below count_below least_below drive_of empty_slot better best_of newest_of bytes_of ten_of listed_of own_of resolved_of list_bytes own_entry drive_bad entry_bad first_bad sources_from gathered xor_all ◌⊻◌
each_good = refl then refl then refl then tt

pub three_ranges : ours shelf whole ≡ leaving (left ours ranges shelf) whole
three_ranges = by_cuts ours each_good cut_free

-- drive 1 is then what drives 2 and 3 come to
pub ranges_left : left ours ranges shelf ≡ shelf_of (replicate 24 0) (four 0x30 0x3A 0x3C 0x22 ++ four 0x28 0x52 0x5C 0x4A ++ four 0x40 0x7A 0x7C 0x72 ++ four 0x68 0x62 0x9C 0xAA)
unfolding cdb_of op_of to_be part put num source_of decide_of step_outcome step_image step_room valid_image slot_of slot_at place every all_below count_below least_below drive_of empty_slot better best_of newest_of bytes_of ten_of listed_of own_of resolved_of list_bytes own_entry drive_bad entry_bad first_bad sources_from gathered xor_all ◌⊻◌
ranges_left = refl

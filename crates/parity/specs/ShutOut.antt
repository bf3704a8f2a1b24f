-- Steps that demand 3 shuts out.
use Rattle.std.specs.Prelude.{ℕ, zero, suc, ◌*◌, ◌<◌, ◌≡◌, refl, cond, List, [], ◌∷◌, eqb, get_or, set, take}
use Rattle.std.proofs.Common.{arith, sym, ap, ◌∙◌, lit≤}
use mathlib.Core.List.Memᴰ
use Rattle.octets.specs.Part.{part}
use Rattle.octets.specs.Put.{put}
use Rattle.octets.specs.Octets.{Octets, small_octets}
use Rattle.octets.specs.Xor.{◌⊻◌}
use Rattle.octets.specs.Operands.{xor_all}
use Rattle.octets.specs.Number.{num, to_be}
use Rattle.folds.specs.Every.{every}
use Rattle.folds.specs.All.{all_below}
use Rattle.folds.specs.Same.{same_list}
use Rattle.folds.specs.Count.{count_below}
use Rattle.folds.specs.Least.{least_below}
use Rattle.geometry.specs.Header.{framed_ok, slot_at, place}
use Rattle.drives.specs.declared.Came.{Came}
use Rattle.drives.specs.Table.{drive_of, to, table_ok}
use Rattle.slots.specs.Record.{slot_of, bytes_of}
use Rattle.slots.specs.Slots.{slots_ok}
use Rattle.slots.specs.Find.{empty_slot, better, best_of, newest_of}
use Rattle.slots.specs.Change.{released, lower_one, lowered}
use Rattle.results.specs.Lists.{keeping}
use Rattle.results.specs.Results.{results}
use Rattle.results.specs.Ages.{ages_to, slot_ranked}
use Rattle.image.specs.Valid.{valid_image}
use Rattle.image.specs.Bench.{zeros, shelf_of, vacant, two, bench, fresh, result, bench_shape}
use Rattle.sums.specs.Row.{counts, summed_to, row_sum}
use Rattle.sums.specs.Share.{share}
use Rattle.sums.specs.OldBytes.{ZeroSums}
use Rattle.sense.specs.declared.Answer.{Answer}
use Rattle.sense.specs.declared.Answer.TheVariants.{Good}
use Rattle.command.specs.Command.{op_of, sixteen_of, ten_of, listed_of, own_of, resolved_of, list_bytes, source_of}
use Rattle.command.specs.Lossless.{cdb_of}
use Rattle.meaning.specs.Acts.{blocks_of, effect, sources_from, gathered}
use Rattle.meaning.specs.Sources.{own_entry, drive_bad, entry_bad, first_bad}
use Rattle.meaning.specs.Checks.{decide_of}
use Rattle.meaning.specs.Step.{decided, step_image, step_outcome}
use Rattle.meaning.specs.Calls.{Call, command}
use Rattle.meaning.specs.Examples.Cases.{xdwrite, ten_with, ten, room}
use Rattle.callers.specs.Otherwise.{Otherwise, left_by, writing}
use Rattle.parity.specs.Owed.{owed}
use Rattle.parity.specs.AnyStep.{AnyStep, done, the_step, call_by, Start, SumsDiffer, AllPresent, Whole, Restores}
use Rattle.parity.specs.Example.{bench_start, bench_zero, present, carried, junk, both_rows}

-- ---- two images to try a step on

-- the bench shelf, and one with other blocks
abbrev pub spare : List ℕ
spare = shelf_of 0 vacant zeros two two

-- an image with nothing retained and zero sums, before any call
at_once : (m : List ℕ) → Start m bench_shape → Octets m → ZeroSums m bench_shape 0 2 → AllPresent m bench_shape
    → (after : Call → List ℕ → List ℕ) → Whole after m bench_shape [] 0 2
at_once m start bytes z up after =
    record {
      start = start;
      bytes = bytes;
      fair = tt;
      began_zero = z;
      nothing_owed = λ e k. absurd (Memᴰ.not-nil k);
      all_present = up;
    }

on_bench : (after : Call → List ℕ → List ℕ) → Whole after bench bench_shape [] 0 2
on_bench = at_once bench bench_start (small_octets bench refl) bench_zero (present bench refl refl refl)

spare_start : Start spare bench_shape
unfolding framed_ok table_ok slots_ok slot_of slot_at every all_below count_below part num results ages_to slot_ranked least_below
spare_start = record { valid = record { header = refl; framed_fine = refl; table_fine = refl; slots_fine = refl }; nothing_retained = refl }

spare_zero : ZeroSums spare bench_shape 0 2
unfolding row_sum summed_to counts place part ◌⊻◌
spare_zero zero lo hi = refl
spare_zero (suc zero) lo hi = refl
spare_zero (suc (suc r)) lo hi = absurd (omega arith)

on_spare : (after : Call → List ℕ → List ℕ) → Whole after spare bench_shape [] 0 2
on_spare = at_once spare spare_start (small_octets spare refl) spare_zero (present spare refl refl refl)

-- ---- steps that do not do the work

-- one that refuses everything
pub refusing_not : (step : AnyStep) → ((m : List ℕ) (a : Came) (c s r : List ℕ) → (step m a c s r).answer ≡ Good → ⊥) → Restores (call_by step) step → ⊥
refusing_not step never h = never _ _ _ _ _ (h bench bench_shape [] 1 0 2 junk (0 ∷ 2 ∷ []) 2 0xFFFFFFFF (on_bench (call_by step)) both_rows room).good

-- one that always answers GOOD and leaves the same bytes
abbrev pub constant : List ℕ → AnyStep
constant k m a c s r = done k Good

pub constant_not : (k : List ℕ) → Restores (call_by (constant k)) (constant k) → ⊥
constant_not k h =
    let x = (h bench bench_shape [] 1 0 2 junk (0 ∷ 2 ∷ []) 2 0xFFFFFFFF (on_bench (call_by (constant k))) both_rows room).back in
    let y = (h spare bench_shape [] 1 0 2 junk (0 ∷ 2 ∷ []) 2 0xFFFFFFFF (on_spare (call_by (constant k))) both_rows room).back in
    let z : ◌≡◌ {A = ℕ} 10 0 = ap (λ (l : List ℕ). get_or l 68 0) (sym x ∙ y) in
    omega arith

-- one that does nothing, whatever it answers
abbrev pub idling : (List ℕ → Came → List ℕ → List ℕ → List ℕ → Answer) → AnyStep
idling answer m a c s r = done m (answer m a c s r)

pub idling_not : (answer : List ℕ → Came → List ℕ → List ℕ → List ℕ → Answer) → Restores (call_by (idling answer)) (idling answer) → ⊥
unfolding put place
idling_not answer h =
    let x = (h bench bench_shape [] 1 0 2 junk (0 ∷ 2 ∷ []) 2 0xFFFFFFFF (on_bench (call_by (idling answer))) both_rows room).back in
    let z : ◌≡◌ {A = ℕ} 255 1 = ap (λ (l : List ℕ). get_or l 76 0) x in
    omega arith

-- ---- steps that decide rightly and act wrongly

-- of the commands with a code
abbrev pub acting : ℕ → Otherwise → AnyStep
acting code f m a c s r =
    cond (eqb (get_or c 0 0) code) (done (left_by f (decided m a c s r) m s) (step_outcome m a c s r).answer) (the_step m a c s r)

-- a list but for its element i
abbrev pub sans_at : ℕ → List (List ℕ) → List (List ℕ)
sans_at i [] = []
sans_at zero (x ∷ xs) = xs
sans_at (suc i) (x ∷ xs) = x ∷ sans_at i xs

-- a REBUILD that leaves source i out
abbrev pub missing : ℕ → AnyStep
missing i m a = acting 0xC3 (λ m g s. writing (λ w. xor_all (sans_at i (sources_from m g a s w.blocks.count 0 (get_or s 0 0))))) m a

-- of two, the first or the last
pub missing_not : (i : ℕ) → i < 2 → Restores (call_by (missing i)) (missing i) → ⊥
unfolding cdb_of decide_of step_outcome valid_image slot_of slot_at place every all_below count_below least_below drive_of part put num to_be ◌⊻◌ xor_all sources_from gathered op_of listed_of own_of resolved_of list_bytes source_of own_entry drive_bad entry_bad first_bad
missing_not zero l h =
    let x = (h bench bench_shape [] 1 0 2 junk (0 ∷ 2 ∷ []) 2 0xFFFFFFFF (on_bench (call_by (missing 0))) both_rows room).back in
    let z : ◌≡◌ {A = ℕ} 11 1 = ap (λ (b : List ℕ). get_or b 76 0) x in
    omega arith
missing_not (suc zero) l h =
    let x = (h bench bench_shape [] 1 0 2 junk (0 ∷ 2 ∷ []) 2 0xFFFFFFFF (on_bench (call_by (missing 1))) both_rows room).back in
    let z : ◌≡◌ {A = ℕ} 10 1 = ap (λ (b : List ℕ). get_or b 76 0) x in
    omega arith
missing_not (suc (suc i)) l h = absurd (omega arith)

-- "Counting the target among REBUILD's operands."
abbrev pub counting : AnyStep
counting = acting 0xC3 (λ m g s. writing (λ w. blocks_of m g w.blocks ⊻ w.bytes))

pub counting_not : Restores (call_by counting) counting → ⊥
unfolding cdb_of decide_of step_outcome valid_image slot_of slot_at place every all_below count_below least_below drive_of part put num to_be ◌⊻◌ xor_all sources_from gathered op_of listed_of own_of resolved_of list_bytes source_of own_entry drive_bad entry_bad first_bad
counting_not h =
    let x = (h bench bench_shape [] 1 0 2 junk (0 ∷ 2 ∷ []) 2 0xFFFFFFFF (on_bench (call_by counting)) both_rows room).back in
    let z : ◌≡◌ {A = ℕ} 254 1 = ap (λ (l : List ℕ). get_or l 76 0) x in
    omega arith

-- a coupled write that forgets the data drive
abbrev pub forgetting : AnyStep
forgetting = acting 0xC0 (λ m g s e. effect e.hands (take 1 e.writes) e.change)

pub forgetting_not : SumsDiffer (call_by forgetting) → ⊥
unfolding decide_of step_image step_outcome valid_image slot_of slot_at place every all_below count_below least_below drive_of part put num to_be ◌⊻◌ xor_all op_of sixteen_of ten_of row_sum summed_to counts owed keeping share
forgetting_not h =
    let x = h bench bench_shape bench_start (command (to 1) (xdwrite 0x00) fresh room ∷ []) ((refl, refl), tt) 0 (lit≤ tt) in
    let z : ◌≡◌ {A = ℕ} 0xF5 0 = ap (λ (l : List ℕ). get_or l 0 0) x in
    omega arith

-- an XPWRITE that stores its data
abbrev pub storing : AnyStep
storing = acting 0xC1 (λ m g s. writing (λ w. s))

pub storing_not : SumsDiffer (call_by storing) → ⊥
unfolding decide_of step_image step_outcome valid_image slot_of slot_at place every all_below same_list count_below least_below drive_of empty_slot newest_of best_of better released lowered lower_one bytes_of part put num to_be ◌⊻◌ xor_all op_of sixteen_of ten_of row_sum summed_to counts owed keeping share
storing_not h =
    let calls = command (to 1) (xdwrite 0x06) fresh room ∷ command (to 1) (ten 0xC2 0 1) [] room ∷ command (to 3) (ten 0xC1 0 1) result room ∷ [] in
    let x = h bench bench_shape bench_start calls ((λ e. refl), (tt, (carried, tt))) 0 (lit≤ tt) in
    let z : ◌≡◌ {A = ℕ} 0x0B 0 = ap (λ (l : List ℕ). get_or l 0 0) x in
    omega arith

-- an XDWRITEREAD that takes DISABLE WRITE for d, whatever its CDB says: with 0 it always writes, with 1 it never does
abbrev pub heedless : ℕ → AnyStep
heedless d m a c s r = the_step m a (cond (eqb (get_or c 0 0) 0x53) (set c 1 (4 * d)) c) s r

-- a sum that changes with nothing owed; one that stays with a result owed
pub heedless_not : (d : ℕ) → d < 2 → SumsDiffer (call_by (heedless d)) → ⊥
unfolding decide_of step_image step_outcome valid_image slot_of slot_at place every all_below count_below least_below drive_of part put num to_be ◌⊻◌ xor_all op_of ten_of row_sum summed_to counts owed keeping share
heedless_not zero l h =
    let x = h bench bench_shape bench_start (command (to 1) (ten_with 0x53 0x04 0 1) fresh room ∷ []) (tt, tt) 0 (lit≤ tt) in
    let z : ◌≡◌ {A = ℕ} 0xF5 0 = ap (λ (l : List ℕ). get_or l 0 0) x in
    omega arith
heedless_not (suc zero) l h =
    let x = h bench bench_shape bench_start (command (to 1) (ten 0x53 0 1) fresh room ∷ []) (tt, tt) 0 (lit≤ tt) in
    let z : ◌≡◌ {A = ℕ} 0 0xF5 = ap (λ (l : List ℕ). get_or l 0 0) x in
    omega arith
heedless_not (suc (suc d)) l h = absurd (omega arith)

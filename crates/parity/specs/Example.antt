-- The bench shelf of 01: a run that pays what it owes, a reset that leaves a row open for good, and a REBUILD after each.
use Rattle.std.specs.Prelude.{ℕ, zero, suc, true, false, ◌≡◌, refl, eqb, get_or, replicate}
use Rattle.std.proofs.Common.{arith, true≢false, sym, ap, subst, ◌∙◌, inl, inr, ⊎_elim, lit≤}
use mathlib.Core.List.Memᴰ
use mathlib.Core.List.Permᴰ
use mathlib.Core.List.{List, [], ◌∷◌, ◌++◌, Memᴰ}
use Rattle.octets.specs.Part.{part}
use Rattle.octets.specs.Put.{put}
use Rattle.octets.specs.Octets.{small_octets}
use Rattle.octets.specs.Xor.{◌⊻◌}
use Rattle.octets.specs.Operands.{xor_all}
use Rattle.octets.specs.Number.{num, to_be}
use Rattle.folds.specs.Every.{every}
use Rattle.folds.specs.All.{all_below}
use Rattle.folds.specs.Each.{EachIs, each_mem}
use Rattle.folds.specs.Same.{same_list}
use Rattle.folds.specs.Count.{count_below}
use Rattle.folds.specs.Least.{least_below}
use Rattle.geometry.specs.Header.{slot_at, place}
use Rattle.drives.specs.Table.{drive_of, to, marked}
use Rattle.slots.specs.Record.{slot_of, bytes_of}
use Rattle.slots.specs.Find.{empty_slot, better, best_of, newest_of}
use Rattle.slots.specs.Change.{released, lower_one, lowered, dropped, dropped_to, drop_one}
use Rattle.results.specs.Lists.{keeping}
use Rattle.results.specs.Results.{Result, results}
use Rattle.results.specs.Ages.{ages_to, slot_ranked}
use Rattle.image.specs.Valid.{valid_image}
use Rattle.image.specs.Bench.{four, zeros, shelf_of, bench, fresh, result, bench_shape}
use Rattle.image.proofs.Bench.{bench_shelf}
use Rattle.command.specs.Lossless.{cdb_of}
use Rattle.sums.specs.Row.{counts, summed_to, row_sum}
use Rattle.sums.specs.Share.{share}
use Rattle.sums.specs.OldBytes.{ZeroSums}
use Rattle.sense.specs.declared.Answer.TheVariants.{Good}
use Rattle.command.specs.Command.{op_of, sixteen_of, ten_of, listed_of, own_of, resolved_of, list_bytes, source_of}
use Rattle.meaning.specs.declared.Span.{Span}
use Rattle.meaning.specs.Acts.{sources_from, gathered}
use Rattle.meaning.specs.Sources.{own_entry, drive_bad, entry_bad, first_bad}
use Rattle.meaning.specs.Checks.{decide_of}
use Rattle.meaning.specs.Step.{step_image, step_outcome, reset_image, mark_image}
use Rattle.meaning.specs.Calls.{Call, command, reset, marking, after_call, after_calls}
use Rattle.meaning.specs.Examples.Cases.{left, xdwrite, ten, room}
use Rattle.parity.specs.Ledger.{Read, Dropped, Carried, Line, line, Carries, fair_front, Fair, ledger}
use Rattle.parity.specs.Owed.{is_owed, in_row, owed}
use Rattle.parity.specs.AnyStep.{Start, NothingOwed, AllPresent, Whole, Overwriting, the_step, rebuilt, done}

pub bench_start : Start bench bench_shape
unfolding slot_of slot_at part num results ages_to slot_ranked least_below count_below
bench_start = record { valid = bench_shelf; nothing_retained = refl }

-- ---- a run that pays

-- C2 and its XDREAD; XPWRITE of the result, first to a failed drive, which is refused and carries nothing; a coupled write
abbrev pub paying : List Call
paying =
    command (to 1) (xdwrite 0x06) fresh room
    ∷ command (to 1) (ten 0xC2 0 1) [] room
    ∷ marking (to 3) 1
    ∷ command (to 3) (ten 0xC1 0 1) result room
    ∷ marking (to 3) 0
    ∷ command (to 3) (ten 0xC1 0 1) result room
    ∷ command (to 2) (xdwrite 0x00) (four 0x11 0x22 0x33 0x44) room
    ∷ []

abbrev pub paid_image : List ℕ
paid_image = shelf_of 0 (left result) fresh (four 0x11 0x22 0x33 0x44) (four 0xEE 0x22 0xCC 0x44)

-- a result of one block of a drive, by its index, at block 0; of drive 1
abbrev pub result_on : ℕ → List ℕ → Result
result_on drive bytes = record { kind = 1; drive = drive; block = 0; len = 1; bytes = bytes }

abbrev pub of_first : List ℕ → Result
of_first bytes = result_on 0 bytes

abbrev pub paid_ledger : List Line
paid_ledger = line (of_first result) true Carried ∷ []

-- and one more result, which a reset drops
abbrev pub losing : List Call
losing = paying ++ command (to 1) (xdwrite 0x06) zeros room ∷ reset (to 1) ∷ []

abbrev pub lost_image : List ℕ
lost_image = shelf_of 0 (left fresh) zeros (four 0x11 0x22 0x33 0x44) (four 0xEE 0x22 0xCC 0x44)

abbrev pub lost_ledger : List Line
lost_ledger = line (of_first fresh) true Dropped ∷ paid_ledger

pub run_computed :
    (after_calls paying bench ≡ paid_image)
    × (ledger paying bench ≡ paid_ledger)
    × (after_calls losing bench ≡ lost_image)
    × (ledger losing bench ≡ lost_ledger)
    × (row_sum lost_image bench_shape 0 ≡ fresh)
    × (owed bench_shape 0 lost_ledger ≡ fresh)
unfolding decide_of step_image reset_image mark_image valid_image slot_of slot_at place every all_below same_list count_below least_below drive_of empty_slot newest_of best_of better released lowered lower_one dropped dropped_to drop_one marked bytes_of part put num to_be ◌⊻◌ xor_all op_of sixteen_of ten_of row_sum summed_to counts owed keeping share
run_computed = (refl, refl, refl, refl, refl, refl)

-- block 0 of drive 3, and bytes to it by XPWRITE, C1h or 51h
abbrev pub third : Span
third = record { drive = 2; block = record { 0 = 0 }; count = 1 }

abbrev pub carry_by : ℕ → List ℕ → Call
carry_by code sent = command (to 3) (ten code 0 1) sent room

-- a line that is read can be carried there
pub carries : (drive : ℕ) (bytes : List ℕ) (es : List Line) → Memᴰ (line (result_on drive bytes) true Read) es → Carries es third bytes
carries drive bytes es m =
    record {
      one = line (result_on drive bytes) true Read;
      listed = m;
      owed = refl;
      read = refl;
      same_block = refl;
      same_len = refl;
      same_bytes = refl;
    }

-- its XPWRITE carries the result
pub carried : Carries (line (of_first result) true Read ∷ []) third result
carried = carries 0 result (line (of_first result) true Read ∷ []) (Memᴰ.head refl)

-- it is a run of the demand
pub losing_fair : Fair losing bench
unfolding decide_of step_image reset_image mark_image valid_image slot_of slot_at place every all_below same_list count_below least_below drive_of empty_slot newest_of best_of better released lowered lower_one dropped dropped_to drop_one marked bytes_of part put num to_be ◌⊻◌ xor_all op_of sixteen_of ten_of
losing_fair =
    ((λ e. refl), (tt, (tt, (tt, (tt, (carried, ((refl, refl), ((λ e. refl), (tt, tt)))))))))

-- ---- nothing is owed, and both blocks of drive 2 come back

pub bench_zero : ZeroSums bench bench_shape 0 2
unfolding row_sum summed_to counts place part ◌⊻◌
bench_zero zero lo hi = refl
bench_zero (suc zero) lo hi = refl
bench_zero (suc (suc r)) lo hi = absurd (omega arith)

-- no line is owed, in no row
pub none_owed : (es : List Line) → EachIs (λ (e : Line). is_owed e ≡ false) es → NothingOwed bench_shape 0 2 es
none_owed es h e m t r lo hi = absurd (true≢false (sym t ∙ each_mem _ es h e m))

-- three drives, each present
pub present : (m : List ℕ) → get_or m 32 0 ≡ 0 → get_or m 36 0 ≡ 0 → get_or m 40 0 ≡ 0 → AllPresent m bench_shape
present m a b c zero l = ap (λ (x : ℕ). eqb x 1) a
present m a b c (suc zero) l = ap (λ (x : ℕ). eqb x 1) b
present m a b c (suc (suc zero)) l = ap (λ (x : ℕ). eqb x 1) c
present m a b c (suc (suc (suc e))) l = absurd (omega arith)

pub paying_whole : Whole after_call bench bench_shape paying 0 2
paying_whole =
    record {
      start = bench_start;
      bytes = small_octets bench refl;
      fair = fair_front after_call paying (command (to 1) (xdwrite 0x06) zeros room ∷ reset (to 1) ∷ []) bench [] losing_fair;
      began_zero = bench_zero;
      nothing_owed = subst (NothingOwed bench_shape 0 2) (sym run_computed.1) (none_owed paid_ledger (refl, tt));
      all_present = subst (λ (m : List ℕ). AllPresent m bench_shape) (sym run_computed.0) (present paid_image refl refl refl);
    }

-- both rows, from drives 1 and 3 in this order, to the last block, Sec Ctl 10
abbrev pub junk : List ℕ
junk = replicate 8 0xFF

pub both_rows : Overwriting bench_shape 1 0 2 junk (0 ∷ 2 ∷ []) 2 0xFFFFFFFF
both_rows =
    record {
      drive_in = lit≤ tt;
      some_rows = lit≤ tt;
      rows_in = lit≤ tt;
      as_long = refl;
      every_other = Permᴰ.swap refl refl;
      together = inr refl;
      how_long = inr (refl, refl);
    }

-- ---- after the reset row 0 is owed for good; nothing is owed in row 1, and drive 2's block there comes back

-- no line of the ledger has bytes past row 0
one_owed : NothingOwed bench_shape 1 1 lost_ledger
unfolding share part
one_owed e m t zero lo hi = absurd (omega arith)
one_owed e m t (suc zero) lo hi =
    ⊎_elim (λ (q : e ≡ line (of_first fresh) true Dropped). ap (in_row bench_shape 1) q)
    (λ k. ⊎_elim (λ (q : e ≡ line (of_first result) true Carried). ap (in_row bench_shape 1) q)
    (λ n. absurd (Memᴰ.not-nil n)) (Memᴰ.cases_cons k)) (Memᴰ.cases_cons m)
one_owed e m t (suc (suc r)) lo hi = absurd (omega arith)

pub losing_whole : Whole after_call bench bench_shape losing 1 1
losing_whole =
    record {
      start = bench_start;
      bytes = small_octets bench refl;
      fair = losing_fair;
      began_zero = λ r lo hi. bench_zero r (omega arith) (omega arith);
      nothing_owed = subst (NothingOwed bench_shape 1 1) (sym run_computed.3) one_owed;
      all_present = subst (λ (m : List ℕ). AllPresent m bench_shape) (sym run_computed.2) (present lost_image refl refl refl);
    }

-- row 1, from drives 3 and 1 in this order, the length written out, Sec Ctl 00
pub one_row : Overwriting bench_shape 1 1 1 zeros (2 ∷ 0 ∷ []) 0 1
one_row =
    record {
      drive_in = lit≤ tt;
      some_rows = lit≤ tt;
      rows_in = lit≤ tt;
      as_long = refl;
      every_other = Permᴰ.cons refl (Permᴰ.cons refl Permᴰ.nil);
      together = inl refl;
      how_long = inl refl;
    }

-- ---- both, computed

pub rebuilt_computed :
    (rebuilt the_step paid_image bench_shape 1 0 junk (0 ∷ 2 ∷ []) 2 0xFFFFFFFF room ≡ done paid_image Good)
    × (rebuilt the_step lost_image bench_shape 1 1 zeros (2 ∷ 0 ∷ []) 0 1 room ≡ done lost_image Good)
unfolding cdb_of decide_of step_image step_outcome valid_image slot_of slot_at place every all_below count_below least_below drive_of part put num to_be ◌⊻◌ xor_all sources_from gathered op_of listed_of own_of resolved_of list_bytes source_of own_entry drive_bad entry_bad first_bad
rebuilt_computed = (refl, refl)

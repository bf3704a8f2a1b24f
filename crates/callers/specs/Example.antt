-- The bench shelf of 01: the laws' conditions can be met there, and its cases follow from them.
use Rattle.std.specs.Prelude.{ℕ, ◌+◌, ◌≤◌, ◌<◌, false, ◌≡◌, refl, List, [], ◌∷◌, ◌++◌, length, Some}
use Rattle.std.proofs.Common.{arith, ap, subst, inl, lit≤}
use Rattle.octets.specs.Part.{part}
use Rattle.octets.specs.Xor.{◌⊻◌}
use Rattle.octets.specs.Number.{num, to_be}
use Rattle.octets.specs.Operands.{xor_all}
use Rattle.folds.specs.Every.{every}
use Rattle.folds.specs.All.{all_below}
use Rattle.folds.specs.Count.{count_below}
use Rattle.folds.specs.Least.{least_below}
use Rattle.geometry.specs.Header.{framed_ok, slot_at, place}
use Rattle.drives.specs.declared.Came.{Came}
use Rattle.drives.specs.Table.{table_ok, drive_of, to, source_drive, failed}
use Rattle.slots.specs.Record.{slot_of}
use Rattle.slots.specs.Slots.{slots_ok}
use Rattle.results.specs.First.{first_of, sans_first}
use Rattle.results.specs.Newest.{answers}
use Rattle.results.specs.Ages.{ages_to, slot_ranked}
use Rattle.results.specs.Results.{Result, result_at, results}
use Rattle.image.specs.Shelf.{Shelf}
use Rattle.image.specs.Bench.{zeros, shelf_of, vacant, one, two, three, bench, fresh, result, after_c2, bench_shape}
use Rattle.image.proofs.Bench.{bench_shelf}
use Rattle.command.specs.declared.Op.TheVariants.{XpWrite}
use Rattle.command.specs.Lossless.{cdb_of}
use Rattle.meaning.specs.Acts.{Over, over}
use Rattle.demands_one_two.specs.Effects.{result_in}
use Rattle.meaning.specs.Allowed.{Blocks}
use Rattle.meaning.specs.Examples.Cases.{parity, left, xdwrite, ten_with, ten, list_cdb, head, source_bytes, room}
use Rattle.callers.specs.Bytes.{read_cdb, write_cdb, xpwrite_cdb, xdread_cdb, xdwrite_ten_cdb, xdwriteread_cdb, xdwrite_cdb, rebuild_cdb, regenerate_cdb, codes_say}
use Rattle.callers.specs.Lists.{source, list_of}
use Rattle.callers.specs.Does.{blocks, Does, Target}
use Rattle.callers.specs.Reads.{read_does, xdread_does}
use Rattle.callers.specs.Writes.{write_does, xpwrite_does}
use Rattle.callers.specs.Xdwrites.{coupled_does, retained_does}
use Rattle.callers.specs.Published.{xdwrite_ten_does, xdwriteread_writes, xdwriteread_keeps}
use Rattle.callers.specs.Sources.{Names}
use Rattle.callers.specs.Listed.{together_byte}
use Rattle.callers.specs.Idle.{idle_does, rebuild_unlisted}
use Rattle.callers.specs.Operands.{rebuild_does, regenerate_does}

-- ---- the CDBs and a list, byte for byte

pub bytes_are :
    (read_cdb 0 1 1 ≡ ten 0x28 1 1)
    × (write_cdb 0 1 1 ≡ ten 0x2A 1 1)
    × (xpwrite_cdb 0xC1 0 9 0 ≡ ten 0xC1 9 0)
    × (xpwrite_cdb 0x51 0 9 0 ≡ ten 0x51 9 0)
    × (xdread_cdb 0xC2 0 1 ≡ ten 0xC2 0 1)
    × (xdread_cdb 0x52 0 1 ≡ ten 0x52 0 1)
    × (xdwrite_ten_cdb 0x1C 0 1 ≡ ten_with 0x50 0x1C 0 1)
    × (xdwriteread_cdb 0x1C 0 1 ≡ ten_with 0x53 0x1C 0 1)
    × (xdwrite_cdb 0x06 0 1 3 0 ≡ xdwrite 0x06)
    × (rebuild_cdb 0 1 2 ≡ list_cdb 0xC3 0x18)
    × (regenerate_cdb 0 1 1 ≡ list_cdb 0xC4 0x10)
    × (list_of 0 (source 2 0 ∷ source 3 0 ∷ []) fresh ≡ head 2 ++ source_bytes 2 ++ source_bytes 3 ++ fresh)
unfolding cdb_of to_be
bytes_are = (refl, refl, refl, refl, refl, refl, refl, refl, refl, refl, refl, refl)

-- ---- the shelves that the cases start on

-- C2's result retained; read; C7's drive 1 zeroed
started :
    Shelf after_c2 bench_shape
    × Shelf (shelf_of 0 (left result) fresh two three) bench_shape
    × Shelf (shelf_of 0 vacant zeros two three) bench_shape
unfolding framed_ok table_ok slots_ok slot_of slot_at every all_below count_below part num
started = (
  record { header = refl; framed_fine = refl; table_fine = refl; slots_fine = refl },
  record { header = refl; framed_fine = refl; table_fine = refl; slots_fine = refl },
  record { header = refl; framed_fine = refl; table_fine = refl; slots_fine = refl },
)

module _ (m : List ℕ) (t b : ℕ) (l : t < 3) (k : b + 1 ≤ 2) (up : failed m bench_shape t ≡ false) where
  -- a block
  at : Blocks m bench_shape (blocks t b 1)
  at = record { range = record { drive_in = l; range_in = k }; present = up; some = lit≤ tt }

  -- as a source of drive d's
  from : (a : Came) (x d : ℕ) → x < 4294967296 → source_drive m bench_shape a x ≡ Some t → (t ≡ d → ⊥) → Names m bench_shape a (blocks d 0 1) (source x b)
  from a x d s f o = record { there = record { drive = t; found = f; range = record { drive_in = l; range_in = k }; present = up; other = o }; small = s }

first : Target bench bench_shape (to 1) 0
unfolding drive_of least_below part num
first = record { shelf = bench_shelf; found = refl; present = refl }

-- ---- the cases, each from its law

-- a block of drive t, written; and retained, by XDWRITE or REGENERATE
abbrev block : ℕ → List ℕ → Over
block t bytes = over (blocks t 0 1) bytes

abbrev kept : ℕ → ℕ → List ℕ → Result
kept kind t bytes = result_in kind (blocks t 0 1) bytes

-- the bench shelf has nothing retained, and after C2 its result
retained_then : (results bench bench_shape ≡ []) × (results after_c2 bench_shape ≡ kept 1 0 result ∷ [])
unfolding results ages_to slot_ranked result_at least_below count_below every slot_of slot_at part num
retained_then = (refl, refl)

one_fits : length (results bench bench_shape) < 1
one_fits = rw retained_then.0 (lit≤ tt)

-- C1
pub c1 : Does bench bench_shape (to 1) (xdwrite 0x00) fresh room [] (block 2 parity ∷ block 0 fresh ∷ []) (results bench bench_shape)
unfolding cdb_of to_be drive_of least_below part num place ◌⊻◌
c1 =
    coupled_does bench bench_shape (to 1) 0 first 0 1 fresh room (at bench 0 0 (lit≤ tt) (lit≤ tt) refl) refl (lit≤ tt) 0 false 0
    (record { no_other = refl; mirror_is = refl; ndisc_is = refl; sec_is = refl }) (inl refl) 3 2 0 refl (lit≤ tt)
    (at bench 2 0 (lit≤ tt) (lit≤ tt) refl) (λ q. omega arith)

-- C2
pub c2 : Does bench bench_shape (to 1) (xdwrite 0x06) fresh room [] (block 0 fresh ∷ []) (kept 1 0 result ∷ results bench bench_shape)
unfolding cdb_of to_be part num place ◌⊻◌
c2 =
    retained_does bench bench_shape (to 1) 0 first 0 1 fresh room (at bench 0 0 (lit≤ tt) (lit≤ tt) refl) refl (lit≤ tt) one_fits 0x06 false false
    (record { no_other = refl; mirror_is = refl; ndisc_is = refl; sec_is = refl }) 3 0 (lit≤ tt) (lit≤ tt)

-- C3
pub c3 :
    Does after_c2 bench_shape (to 1) (ten 0xC2 0 1) [] room result [] []
    × Does (shelf_of 0 (left result) fresh two three) bench_shape (to 3) (ten 0xC1 0 1) result room [] (block 2 parity ∷ []) (results (shelf_of 0 (left result) fresh two three) bench_shape)
unfolding cdb_of to_be drive_of least_below every part num place ◌⊻◌ first_of sans_first
c3 = (
  subst (λ (rs : List Result). Does after_c2 bench_shape (to 1) (ten 0xC2 0 1) [] room result [] (sans_first (answers 0 0) rs)) retained_then.1
      (xdread_does after_c2 bench_shape (to 1) 0 (record { shelf = started.0; found = refl; present = refl }) 0 (kept 1 0 result)
      (ap (first_of (answers 0 0)) retained_then.1) room (lit≤ tt) 0xC2 codes_say.4),
  xpwrite_does (shelf_of 0 (left result) fresh two three) bench_shape (to 3) 2 (record { shelf = started.1; found = refl; present = refl }) 0 1 result room 0 refl
      (at (shelf_of 0 (left result) fresh two three) 2 0 (lit≤ tt) (lit≤ tt) refl) refl 0xC1 codes_say.2 (lit≤ tt),
)

-- C7
pub c7 :
    Does (shelf_of 0 vacant zeros two three) bench_shape (to 1) (list_cdb 0xC3 0x18) (head 2 ++ source_bytes 2 ++ source_bytes 3) room [] (block 0 one ∷ [])
    (results (shelf_of 0 vacant zeros two three) bench_shape)
unfolding cdb_of to_be drive_of least_below part num place ◌⊻◌ xor_all
c7 =
    let m = shelf_of 0 vacant zeros two three in
    rebuild_does m bench_shape (to 1) 0 (record { shelf = started.2; found = refl; present = refl }) 0 1 (source 2 0 ∷ source 3 0 ∷ []) false []
    (from m 1 0 (lit≤ tt) (lit≤ tt) refl (to 1) 2 0 (lit≤ tt) refl (λ q. omega arith), (from m 2 0 (lit≤ tt) (lit≤ tt) refl (to 1) 3 0 (lit≤ tt) refl (λ q. omega arith), tt)) refl
    (lit≤ tt) (lit≤ tt) (at m 0 0 (lit≤ tt) (lit≤ tt) refl) room 0 (together_byte 0 (inl refl)) 1 (inl refl) (inl refl)

-- C8
pub c8 : Does bench bench_shape (to 2) (list_cdb 0xC4 0x10) (head 1 ++ source_bytes 3) room [] [] (kept 2 1 one ∷ results bench bench_shape)
unfolding cdb_of to_be drive_of least_below part num place ◌⊻◌ xor_all
c8 =
    regenerate_does bench bench_shape (to 2) 1 (record { shelf = bench_shelf; found = refl; present = refl }) 0 1 (source 3 0 ∷ []) false []
    (from bench 2 0 (lit≤ tt) (lit≤ tt) refl (to 2) 3 1 (lit≤ tt) refl (λ q. omega arith), tt) refl
    (lit≤ tt) (lit≤ tt) (at bench 1 0 (lit≤ tt) (lit≤ tt) refl) room 0 (together_byte 0 (inl refl)) (lit≤ tt) one_fits

-- WRITE to the same block
pub write_case : Does bench bench_shape (to 1) (ten 0x2A 0 1) fresh room [] (block 0 fresh ∷ []) (results bench bench_shape)
unfolding cdb_of to_be
write_case = write_does bench bench_shape (to 1) 0 first 0 1 fresh room 0 refl (at bench 0 0 (lit≤ tt) (lit≤ tt) refl) refl (lit≤ tt)

-- C10's READ that is GOOD, and C11
pub c10 : Does bench bench_shape (to 1) (ten 0x28 1 1) [] room zeros [] (results bench bench_shape)
unfolding cdb_of to_be part num place
c10 = read_does bench bench_shape (to 1) 0 first 1 1 room (lit≤ tt) 0 refl (lit≤ tt) (at bench 0 1 (lit≤ tt) (lit≤ tt) refl)

pub c11 : Does bench bench_shape (to 1) (ten 0xC1 9 0) [] room [] [] (results bench bench_shape)
unfolding cdb_of to_be
c11 = idle_does bench bench_shape (to 1) 0 first 9 (lit≤ tt) room 0xC1 0 XpWrite codes_say.2 refl refl refl

-- REBUILD without a list
pub unlisted : Does bench bench_shape (to 1) (list_cdb 0xC3 0) [] room [] [] (results bench bench_shape)
unfolding cdb_of to_be
unlisted = rebuild_unlisted bench bench_shape (to 1) 0 first room 0 false (together_byte 0 (inl refl)) 1 (lit≤ tt) (inl refl)

-- the published codes: 50h leaves what C2 leaves, 53h hands its result out, with DISABLE WRITE too
pub published :
    Does bench bench_shape (to 1) (ten 0x50 0 1) fresh room [] (block 0 fresh ∷ []) (kept 1 0 result ∷ results bench bench_shape)
    × Does bench bench_shape (to 1) (ten 0x53 0 1) fresh room result (block 0 fresh ∷ []) (results bench bench_shape)
    × Does bench bench_shape (to 1) (ten_with 0x53 0x04 0 1) fresh room result [] (results bench bench_shape)
unfolding cdb_of to_be part num place ◌⊻◌
published =
    let b = at bench 0 0 (lit≤ tt) (lit≤ tt) refl in (
      xdwrite_ten_does bench bench_shape (to 1) 0 first 0 1 fresh room b refl (lit≤ tt) 0 false (record { no_other = refl; disable_is = refl }) one_fits,
      xdwriteread_writes bench bench_shape (to 1) 0 first 0 1 fresh room b refl (lit≤ tt) (lit≤ tt) 0 (record { no_other = refl; disable_is = refl }),
      xdwriteread_keeps bench bench_shape (to 1) 0 first 0 1 fresh room b refl (lit≤ tt) (lit≤ tt) 4 (record { no_other = refl; disable_is = refl }),
    )

-- The checks of REBUILD and REGENERATE cut into the stages that the code takes, from the last to the first. What a stage reads from the
-- image or the list is a plain value for the next. keep is true for REGENERATE.
use Rattle.std.specs.Prelude.{ℕ, ◌+◌, ◌*◌, Bool, true, false, not, ◌&&◌, cond, List, [], ◌∷◌, ◌++◌, ltb, eqb, length, get_or, Option, is_none}
use Rattle.octets.specs.Number.{be}
use Rattle.rules.specs.Rule.{rule, first}
use Rattle.folds.specs.Least.{index}
use Rattle.geometry.specs.declared.Geometry.{Geometry}
use Rattle.slots.specs.Find.{empty_slot}
use Rattle.sense.specs.declared.Answer.TheVariants.{Good, Busy, WrongCount, BadField, BadListLength, BadList}
use Rattle.command.specs.declared.Command.{Command}
use Rattle.command.specs.Command.{int_of, list_sec_of, list_bytes}
use Rattle.meaning.specs.declared.Act.TheVariants.{Rebuild, Regenerate}
use Rattle.meaning.specs.declared.Seen.TheVariants.{Dash, Cdb, List as InList, Entry}
use Rattle.meaning.specs.Decision.{Decision, stop, go}
use Rattle.meaning.specs.Sources.{Vetted, own_entry, first_bad}
use Rattle.meaning.specs.Checks.{zero_six, zero_control, resolved, in_range, source_rules, span_of, sum_of}

-- ---- checks 8 to 10

unfoldable pub fault_or : Vetted → Decision → Decision
fault_or f d = first stop (source_rules f) d

unfoldable pub rebuilt_of : ℕ → List ℕ → Geometry → ℕ → Command → List ℕ → Decision
rebuilt_of n m g t k s = fault_or (first_bad m g k.came s k.count 0 n) (go (Rebuild (span_of t k) (sum_of k)) Good)

unfoldable pub gathered_of : ℕ → ℕ → List ℕ → Geometry → ℕ → Command → List ℕ → Decision
gathered_of n slot m g t k s = fault_or (first_bad m g k.came s k.count 0 n) (go (Regenerate (span_of t k) (sum_of k) slot) Good)

-- f is the empty slot
unfoldable pub regenerated_of : ℕ → Option ℕ → List ℕ → Geometry → ℕ → Command → List ℕ → Decision
regenerated_of n f m g t k s = first stop (rule 9 Dash (is_none f) Busy ∷ []) (gathered_of n (index f) m g t k s)

unfoldable pub placed_of : Bool → ℕ → List ℕ → Geometry → ℕ → Command → List ℕ → Decision
placed_of keep n m g t k s =
    first stop (in_range (InList 4) g k) (cond keep (regenerated_of n (empty_slot m g) m g t k s) (rebuilt_of n m g t k s))

-- ---- checks 6 and 7

unfoldable pub length_of : Bool → ℕ → List ℕ → Geometry → ℕ → Command → List ℕ → Decision
length_of keep n m g t k s = first stop (rule 7 (Cdb 2) (eqb k.count 0) Good ∷ []) (placed_of keep n m g t (resolved g k s) s)

-- f is the entry that is the target
unfoldable pub owned_of : Bool → ℕ → Option ℕ → List ℕ → Geometry → ℕ → Command → List ℕ → Decision
owned_of keep n f m g t k s = first stop (rule 7 (Entry (index f) 0) (not (is_none f)) BadList ∷ []) (length_of keep n m g t k s)

-- "byte 0 number of sources, 1 entry type (01), 2-3 zero"
unfoldable pub headed_of : Bool → List ℕ → Geometry → ℕ → Command → List ℕ → Decision
headed_of keep m g t k s =
    first stop
    (rule 7 (Cdb 7) (not (eqb k.list (8 + 8 * get_or s 0 0))) BadListLength
    ∷ rule 7 (InList 0) (eqb (get_or s 0 0) 0) BadList
    ∷ rule 7 (InList 1) (not (eqb (get_or s 1 0) 1)) BadList
    ∷ rule 7 (InList 2) (not (eqb (be 2 s 2) 0)) BadList
    ∷ [])
    (owned_of keep (get_or s 0 0) (own_entry m g k.came s (get_or s 0 0) t) m g t k s)

unfoldable pub list_sized_of : Bool → List ℕ → Geometry → ℕ → Command → List ℕ → Decision
list_sized_of keep m g t k s =
    first stop (rule 6 (Cdb 7) (eqb k.list 0) Good ∷ rule 7 (Cdb 7) (ltb k.list 8) BadListLength ∷ [])
    (headed_of keep m g t k s)

-- ---- checks 4 and 5

unfoldable pub counted_of : Bool → ℕ → List ℕ → Geometry → ℕ → Command → List ℕ → Decision
counted_of keep due m g t k s =
    first stop (zero_six k ++ zero_control 9 k ++ rule 5 Dash (not (eqb (length s) due)) WrongCount ∷ []) (list_sized_of keep m g t k s)

unfoldable pub fields_of : Bool → Bool → List ℕ → Geometry → ℕ → Command → List ℕ → Decision
fields_of keep long m g t k s =
    first stop
    (rule 4 (Cdb 1) (eqb (list_sec_of k) 1) BadField
    ∷ rule 4 (Cdb 1) (eqb (list_sec_of k) 3) BadField
    ∷ rule 4 (Cdb 2) long BadField
    ∷ [])
    (counted_of keep (list_bytes k g.l) m g t k s)

-- "REBUILD length FFFFFFFFh with Int Data"
abbrev pub unbounded : Command → Bool
unbounded k = int_of k && eqb k.count 0xFFFFFFFF

unfoldable pub rebuild_of : List ℕ → Geometry → ℕ → Command → List ℕ → Decision
rebuild_of m g t k s = fields_of false (unbounded k) m g t k s

unfoldable pub regenerate_of : List ℕ → Geometry → ℕ → Command → List ℕ → Decision
regenerate_of m g t k s = fields_of true (ltb g.m k.count) m g t k s

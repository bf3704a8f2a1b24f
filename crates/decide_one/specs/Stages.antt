-- The checks of READ, WRITE, XPWRITE, XDREAD, XDWRITE(10) and XDWRITEREAD(10) cut into the stages that the code takes. What a stage reads
-- from the image is a plain value for the next.
use Rattle.std.specs.Prelude.{ℕ, ◌*◌, Bool, false, not, List, [], ◌∷◌, ◌++◌, eqb, ltb, length, Option, is_none, Ok}
use Rattle.rules.specs.Rule.{rule, first}
use Rattle.folds.specs.Least.{index}
use Rattle.geometry.specs.declared.Geometry.{Geometry}
use Rattle.slots.specs.Record.{slot_of}
use Rattle.slots.specs.Find.{empty_slot, newest_of}
use Rattle.sense.specs.declared.Answer.TheVariants.{Good, Busy, WrongCount, BadField}
use Rattle.command.specs.declared.Command.{Command}
use Rattle.command.specs.Command.{disable_of}
use Rattle.meaning.specs.declared.Span.{Span}
use Rattle.meaning.specs.declared.Act.TheVariants.{Read, Write, XpWrite, XdRead, Retain, XdWriteRead}
use Rattle.meaning.specs.declared.Seen.TheVariants.{Dash, Cdb}
use Rattle.meaning.specs.Decision.{Decision, Run, stop, go}
use Rattle.meaning.specs.Runs.{stands}
use Rattle.meaning.specs.Checks.{Check, zero_six, zero_control, above_m, in_range, room_rule, span_of}

-- ---- what a run of checks says

abbrev pub verdict : List Check → Run
verdict rs = first stop rs (Ok tt)

-- another run after it
abbrev pub after : Run → Run → Run
after u v = stands u v

unfoldable pub roomy_verdict : Run → Geometry → Command → ℕ → Run
roomy_verdict v g k r = after v (verdict (room_rule g k r))

-- ---- READ, WRITE, XPWRITE

unfoldable pub roomy_of : Geometry → Command → ℕ → Decision → Decision
roomy_of g k r d = first stop (room_rule g k r) d

abbrev pub plain_rules : ℕ → Geometry → Command → List ℕ → List Check
plain_rules due g k s =
    zero_control 9 k
    ++ rule 5 Dash (not (eqb (length s) due)) WrongCount
    ∷ rule 6 (Cdb 7) (eqb k.count 0) Good
    ∷ in_range (Cdb 2) g k

unfoldable pub plain_verdict : ℕ → Geometry → Command → List ℕ → Run
plain_verdict due g k s = verdict (plain_rules due g k s)

-- no more than limit blocks
unfoldable pub limited_verdict : ℕ → ℕ → Geometry → Command → List ℕ → Run
limited_verdict limit due g k s = first stop (zero_six k ++ rule 4 (Cdb 7) (ltb limit k.count) BadField ∷ []) (plain_verdict due g k s)

unfoldable pub plain_stage : ℕ → Geometry → Command → List ℕ → Decision → Decision
plain_stage due g k s d = first stop (plain_rules due g k s) d

unfoldable pub read_of : Geometry → ℕ → Command → List ℕ → ℕ → Decision
read_of g t k s r = first stop (zero_six k) (plain_stage 0 g k s (roomy_of g k r (go (Read (span_of t k)) Good)))

unfoldable pub write_of : Geometry → ℕ → Command → List ℕ → Decision
write_of g t k s = first stop (zero_six k) (plain_stage (k.count * g.l) g k s (go (Write (span_of t k)) Good))

-- a command that sends its blocks, and no more of them than a slot holds
unfoldable pub limited_stage : Geometry → Command → List ℕ → Decision → Decision
limited_stage g k s d = first stop (zero_six k ++ above_m 7 g k) (plain_stage (k.count * g.l) g k s d)

unfoldable pub xpwrite_of : Geometry → ℕ → Command → List ℕ → Decision
xpwrite_of g t k s = limited_stage g k s (go (XpWrite (span_of t k)) Good)

-- ---- XDREAD

-- slot i answers, with a result of len blocks
unfoldable pub answered_of : ℕ → ℕ → Geometry → ℕ → Command → ℕ → Decision
answered_of i len g t k r = first stop (rule 8 (Cdb 7) (not (eqb len k.count)) BadField ∷ []) (roomy_of g k r (go (XdRead (span_of t k) i) Good))

unfoldable pub matched_of : Option ℕ → List ℕ → Geometry → ℕ → Command → ℕ → Decision
matched_of f m g t k r =
    first stop (rule 8 (Cdb 2) (is_none f) BadField ∷ []) (answered_of (index f) (slot_of m g (index f)).len g t k r)

unfoldable pub xdread_of : List ℕ → Geometry → ℕ → Command → List ℕ → ℕ → Decision
xdread_of m g t k s r =
    first stop (zero_six k ++ zero_control 9 k ++ rule 5 Dash (not (eqb (length s) 0)) WrongCount ∷ [])
    (matched_of (newest_of m g t k.block.0) m g t k r)

-- ---- XDWRITE(10) and XDWRITEREAD(10)

-- f is the slot that takes the result of the blocks of x; XDWRITE with Sec Ctl 11 retains so too
unfoldable pub retained_of : Option ℕ → Span → Bool → Bool → Decision
retained_of f x mirror ndisc = first stop (rule 9 Dash (is_none f) Busy ∷ []) (go (Retain x (index f) mirror ndisc) Good)

unfoldable pub xdwrite_ten_of : List ℕ → Geometry → ℕ → Command → List ℕ → Decision
xdwrite_ten_of m g t k s = limited_stage g k s (retained_of (empty_slot m g) (span_of t k) false (disable_of k))

unfoldable pub xdwriteread_of : Geometry → ℕ → Command → List ℕ → ℕ → Decision
xdwriteread_of g t k s r = limited_stage g k s (roomy_of g k r (go (XdWriteRead (span_of t k) (disable_of k)) Good))

-- The checks of XDWRITE cut into the stages that the code takes. What a stage reads from the image is a
-- plain value for the next.
use Rattle.std.specs.Prelude.{ℕ, ◌+◌, ◌*◌, ◌<◌, Bool, false, not, ◌&&◌, cond, List, [], ◌∷◌, ◌++◌, ◌≡◌, ltb, eqb, length, Option, Some, None, is_none}
use Rattle.rules.specs.Rule.{rule, first}
use Rattle.folds.specs.Least.{index}
use Rattle.geometry.specs.declared.Geometry.{Geometry}
use Rattle.drives.specs.Table.{secondary_of, failed}
use Rattle.slots.specs.Find.{empty_slot}
use Rattle.sense.specs.declared.Answer.TheVariants.{Good, WrongCount, BadField, NestedAddress, NestedFailed, NestedRange}
use Rattle.command.specs.declared.Command.{Command}
use Rattle.command.specs.Command.{mirror_of, ndisc_of, sec_of}
use Rattle.meaning.specs.declared.Act.TheVariants.{Couple}
use Rattle.meaning.specs.declared.Seen.TheVariants.{Dash, Cdb, Drive}
use Rattle.meaning.specs.Decision.{Decision, stop, go}
use Rattle.meaning.specs.Sources.{is_at}
use Rattle.meaning.specs.Checks.{zero_control, above_m, in_range, span_of}
use Rattle.decide_one.specs.Stages.{retained_of}

-- what a lookup gives is a drive of the shelf
abbrev pub OnShelf : Geometry → Option ℕ → Type 0
OnShelf g f = (j : ℕ) → f ≡ Some j → j < g.d

unfoldable pub check_10_of : ℕ → Bool → Geometry → ℕ → Command → Decision
check_10_of j down g t k =
    first stop
    (rule 10 (Drive j) down NestedFailed
    ∷ rule 10 (Cdb 11) (ltb g.b (k.spot.0 + k.count)) NestedRange
    ∷ [])
    (go (Couple (span_of t k) (record { drive = j; block = k.spot; count = k.count }) (mirror_of k)) Good)

unfoldable pub check10 : Option ℕ → List ℕ → Geometry → ℕ → Command → Decision
check10 f m g t k = first stop (rule 10 (Cdb 8) (is_none f) NestedAddress ∷ []) (check_10_of (index f) (failed m g (index f)) g t k)

unfoldable pub from_check_9 : Option ℕ → List ℕ → Geometry → ℕ → Command → Decision
from_check_9 f m g t k = cond (eqb (sec_of k) 3) (retained_of (empty_slot m g) (span_of t k) (mirror_of k) (ndisc_of k)) (check10 f m g t k)

-- f is the secondary, own that it is the target
unfoldable pub limited_of : Bool → Option ℕ → List ℕ → Geometry → ℕ → Command → List ℕ → Decision
limited_of own f m g t k s =
    first stop
    (above_m 6 g k
    ++ rule 4 (Cdb 8) own BadField
    ∷ zero_control 15 k
    ++ rule 5 Dash (not (eqb (length s) (k.count * g.l))) WrongCount
    ∷ rule 6 (Cdb 6) (eqb k.count 0) Good
    ∷ in_range (Cdb 2) g k)
    (from_check_9 f m g t k)

unfoldable pub xdwrite_of : List ℕ → Geometry → ℕ → Command → List ℕ → Decision
xdwrite_of m g t k s =
    first stop
    (rule 4 (Cdb 1) (eqb (sec_of k) 1) BadField
    ∷ rule 4 (Cdb 1) (not (eqb (sec_of k) 3) && ndisc_of k) BadField
    ∷ [])
    (cond (eqb (sec_of k) 3) (limited_of false None m g t k s)
    (limited_of (is_at t (secondary_of m g k.came k.second.0)) (secondary_of m g k.came k.second.0) m g t k s))

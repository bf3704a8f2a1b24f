-- The list of checks cut into the stages that the code takes, from the last to the first.
use Rattle.std.specs.Prelude.{ℕ, not, ◌&&◌, List, [], ◌∷◌, eqb, length, get_or}
use Rattle.rules.specs.Rule.{rule, first}
use Rattle.geometry.specs.declared.Geometry.{Geometry}
use Rattle.drives.specs.declared.Came.{Came}
use Rattle.sense.specs.declared.Answer.TheVariants.{BadCdb, UnknownCode}
use Rattle.command.specs.declared.Op.{Op}
use Rattle.command.specs.declared.Op.TheVariants.{XdWrite, XpWrite, XdRead, Rebuild, Regenerate, Read, Write, XdWriteTen, XdWriteRead, Unknown}
use Rattle.command.specs.declared.Command.{Command}
use Rattle.command.specs.Command.{op_of, size_of, command_of}
use Rattle.meaning.specs.declared.Seen.TheVariants.{Dash, Cdb}
use Rattle.meaning.specs.Decision.{Decision, stop}
use Rattle.meaning.specs.Checks.{is_unknown, known, zero_flags, command_checks, acts}
use Rattle.decide_one.specs.Stages.{read_of, write_of, xpwrite_of, xdread_of, xdwrite_ten_of, xdwriteread_of}
use Rattle.decide_two.specs.Stages.{xdwrite_of}
use Rattle.decide_list.specs.Stages.{rebuild_of, regenerate_of}

-- checks 4 to 11, but for the bits of byte 1
abbrev pub each_of : Op → List ℕ → Geometry → ℕ → Command → List ℕ → ℕ → Decision
each_of XdWrite m g t k s r = xdwrite_of m g t k s
each_of XpWrite m g t k s r = xpwrite_of g t k s
each_of XdRead m g t k s r = xdread_of m g t k s r
each_of Rebuild m g t k s r = rebuild_of m g t k s
each_of Regenerate m g t k s r = regenerate_of m g t k s
each_of Read m g t k s r = read_of g t k s r
each_of Write m g t k s r = write_of g t k s
each_of XdWriteTen m g t k s r = xdwrite_ten_of m g t k s
each_of XdWriteRead m g t k s r = xdwriteread_of g t k s r
each_of Unknown m g t k s r = stop 2 (Cdb 0) UnknownCode

unfoldable pub flagged_of : Op → List ℕ → Geometry → ℕ → Command → List ℕ → ℕ → Decision
flagged_of o m g t k s r = first stop (zero_flags o k) (each_of o m g t k s r)

-- checks 4 to 11, as they are listed
unfoldable pub checked_of : Op → List ℕ → Geometry → ℕ → Command → List ℕ → ℕ → Decision
checked_of o m g t k s r = first stop (command_checks o m g t k s r) (acts o m g t k s)

unfoldable pub from_check_2 : Op → List ℕ → Geometry → Came → ℕ → List ℕ → List ℕ → ℕ → Decision
from_check_2 o m g a t c s r =
    first stop (rule 1 Dash (not (is_unknown o) && not (eqb (length c) (size_of o))) BadCdb ∷ known m g t o)
    (checked_of o m g t (command_of o a c) s r)

unfoldable pub from_call_3 : List ℕ → Geometry → Came → ℕ → List ℕ → List ℕ → ℕ → Decision
from_call_3 m g a t c s r = first stop (rule 1 Dash (eqb (length c) 0) BadCdb ∷ []) (from_check_2 (op_of (get_or c 0 0)) m g a t c s r)

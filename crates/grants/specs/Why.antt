-- Why a command was decided as it was: the check that a stop names applies, and no check before it does.
use Rattle.std.specs.Prelude.{ℕ, List, ◌≡◌, get_or}
use Rattle.std.proofs.Common.{sym, ◌∙◌}
use Rattle.rules.specs.Reason.{Reason}
use Rattle.rules.proofs.Reason.{reason}
use Rattle.drives.specs.declared.Came.{Came}
use Rattle.sense.specs.declared.Answer.{Answer}
use Rattle.sense.specs.declared.Answer.TheVariants.{Good}
use Rattle.command.specs.Command.{op_of}
use Rattle.meaning.specs.declared.Seen.{Seen}
use Rattle.meaning.specs.Decision.{stop, stop_same}
use Rattle.meaning.specs.Checks.{checks, carried_out, decide_of}
use Rattle.grants.specs.Each.{no_stop}
use Rattle.grants.specs.Granted.{by_checks}

-- a stop names its reason
pub why : (m : List ℕ) (a : Came) (c s : List ℕ) (r n : ℕ) (w : Seen) (y : Answer) → decide_of m a c s r ≡ stop n w y
    → Reason (checks (op_of (get_or c 0 0)) m a c s r) n w y
unfolding decide_of
why m a c s r n w y =
    let o = op_of (get_or c 0 0) in
    reason stop stop_same (checks o m a c s r) (carried_out o m a c s) n w y
    (λ p q. no_stop n w y _ Good (sym q ∙ (by_checks o m a c s r p).goes))

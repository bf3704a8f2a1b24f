-- `decide_list::sources::sourced` meets its contract.
use Rattle.std.proofs.Common.{sym, ◌∙◌}
use Rattle.meaning.specs.Runs.{exits}
use Rattle.decide_list.specs.Stages.{fault_or}
use Rattle.decide_list.proofs.sources.sourced.Goals as goal

pub returns-in_err-first_bad : goal.returns-in_err-first_bad
unfolding fault_or
returns-in_err-first_bad c = rw (sym c.in_err-first_bad.ensures) (exits _ _ c.from_residual.ensures.1)

pub returns : goal.returns
unfolding fault_or
returns c = c.accept.ensures ∙ rw (sym c.in_ok-first_bad.ensures)

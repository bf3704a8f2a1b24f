-- `decide_list::sources::regenerated` meets its contract.
use Rattle.std.proofs.Common.{Err, ap, sym, ◌∙◌}
use Rattle.meaning.specs.Runs.{missing}
use Rattle.decide_list.specs.Stages.{regenerated_of, gathered_of}
use Rattle.decide_list.proofs.sources.regenerated.Goals as goal

pub returns-in_err-i : goal.returns-in_err-i
unfolding regenerated_of
returns-in_err-i c =
    missing _ _ _ _ c.from_residual.ensures.1 c.in_err-i.ensures.value ∙ ap Err c.at.ensures ∙ rw (sym c.empty_slot-free.ensures ∙ c.in_err-i.ensures.ok_part)

pub returns : goal.returns
unfolding regenerated_of gathered_of
returns c = c.sourced.ensures ∙ rw (sym c.empty_slot-free.ensures ∙ c.in_ok-i.ensures.ok_part, c.span.ensures, c.sum_of.ensures)

-- `decide_list::list::owned` meets its contract.
use Rattle.std.proofs.Common.{Err, ap, sym, ◌∙◌}
use Rattle.meaning.specs.Runs.{decides, passes}
use Rattle.decide_list.specs.Stages.{owned_of, length_of}
use Rattle.decide_list.proofs.list.owned.Goals as goal

pub returns-in-Some : goal.returns-in-Some
unfolding owned_of
returns-in-Some c = ap Err c.at.ensures ∙ rw (sym c.own_entry-own.ensures ∙ c.in-Some.is)

pub returns-in_err-check : goal.returns-in_err-check
unfolding owned_of length_of
returns-in_err-check c = rw (sym c.own_entry-own.ensures ∙ c.in_default.is) (decides _ _ _ _ _ c.from_residual.ensures.1 c.in_err-check.ensures)

pub returns : goal.returns
unfolding owned_of length_of
returns c = rw (sym c.own_entry-own.ensures ∙ c.in_default.is) (passes _ _ _ c.in_ok-check.ensures (c.placed.ensures ∙ rw (c.resolve-command.ensures.0, c.own-placed.ensures.0)))

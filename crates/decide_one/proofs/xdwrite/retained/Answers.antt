-- `decide_one::xdwrite::retained` meets its contract.
use Rattle.std.proofs.Common.{Err, ap, sym, ◌∙◌}
use Rattle.meaning.specs.Runs.{missing}
use Rattle.decide_one.specs.Stages.{retained_of}
use Rattle.decide_one.proofs.xdwrite.retained.Goals as goal

pub returns-in_err-i : goal.returns-in_err-i
unfolding retained_of
returns-in_err-i c =
    missing _ _ _ _ c.from_residual.ensures.1 c.in_err-i.ensures.value ∙ ap Err c.at.ensures ∙ rw (sym c.empty_slot-free.ensures ∙ c.in_err-i.ensures.ok_part)

pub returns : goal.returns
unfolding retained_of
returns c = c.accept.ensures ∙ rw (sym c.empty_slot-free.ensures ∙ c.in_ok-i.ensures.ok_part)

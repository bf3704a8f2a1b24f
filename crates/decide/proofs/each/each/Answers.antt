-- `decide::each::each` meets its contract.
use Rattle.meaning.specs.Runs.{decides, passes}
use Rattle.decide.specs.Stages.{flagged_of}
use Rattle.decide.proofs.each.each.Goals as goal

pub returns-in_err-check : goal.returns-in_err-check
unfolding flagged_of
returns-in_err-check c = rw (← c.zero_bits-bits.ensures) (decides _ _ _ _ _ c.from_residual.ensures.1 c.in_err-check.ensures)

pub returns : goal.returns
unfolding flagged_of
returns c = rw (← c.zero_bits-bits.ensures) (passes _ _ _ c.in_ok-check.ensures c.by_code.ensures)

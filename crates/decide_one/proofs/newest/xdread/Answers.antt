-- `decide_one::newest::xdread` meets its contract.
use Rattle.meaning.specs.Runs.{decides, passes}
use Rattle.decide_one.specs.Stages.{xdread_of}
use Rattle.decide_one.proofs.newest.xdread.Goals as goal

pub returns-in_err-check : goal.returns-in_err-check
unfolding xdread_of
returns-in_err-check c = decides _ _ _ _ _ c.from_residual.ensures.1 c.in_err-check.ensures

pub returns-in_err-check-2 : goal.returns-in_err-check-2
unfolding xdread_of
returns-in_err-check-2 c = passes _ _ _ c.in_ok-check.ensures (decides _ _ _ _ _ c.from_residual-in_err-check-2.ensures.1 c.in_err-check-2.ensures)

pub returns-in_err-check-3 : goal.returns-in_err-check-3
unfolding xdread_of
returns-in_err-check-3 c = passes _ _ _ c.in_ok-check.ensures (passes _ _ _ c.in_ok-check-2.ensures (decides _ _ _ _ _ c.from_residual-in_err-check-3.ensures.1 c.in_err-check-3.ensures))

pub returns : goal.returns
unfolding xdread_of
returns c = passes _ _ _ c.in_ok-check.ensures (passes _ _ _ c.in_ok-check-2.ensures (passes _ _ _ c.in_ok-check-3.ensures (c.matched.ensures)))
